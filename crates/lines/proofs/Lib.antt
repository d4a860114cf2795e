pub mod Numbers
pub mod Fields
pub mod Texts
pub mod Words
pub mod Readings
