pub mod WrittenOut
pub mod Told
