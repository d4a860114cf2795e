pub mod Lines
pub mod Exact
pub mod Left
