pub mod Problem
pub mod Structures
pub mod Supported
pub mod Theory
pub mod Answers
pub mod Farms
