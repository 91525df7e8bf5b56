pub mod Climbs
pub mod Filled
pub mod Places
pub mod Seen
pub mod Written
pub mod Changes
pub mod Opened
