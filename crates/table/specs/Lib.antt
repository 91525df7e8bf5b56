pub mod Rows
pub mod WellFormed
pub mod Tables
