pub mod Hiding
pub mod Saved
