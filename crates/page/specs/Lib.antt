pub mod Layout
pub mod Format
pub mod Rules
pub mod Faults
pub mod Checked
pub mod Readers
pub mod Letters
