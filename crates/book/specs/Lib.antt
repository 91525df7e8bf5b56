pub mod Meaning
pub mod Refusals
pub mod Declined
pub mod Asked
pub mod Edits
pub mod Laws
pub mod Climbing
pub mod Layers
