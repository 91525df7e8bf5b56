pub mod Reading
pub mod PageBooks
pub mod PageLaws
pub mod Places
pub mod Writes
