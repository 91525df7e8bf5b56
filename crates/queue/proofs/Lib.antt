mod Rounds
mod Calls
pub mod Lists
