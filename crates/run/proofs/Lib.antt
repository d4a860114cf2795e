pub mod Within
pub mod Members
pub mod Counts
pub mod Posts
pub mod Possible
pub mod Every
pub mod Opening
