pub mod Answered
pub mod Fields
pub mod Numbering
pub mod Putting
