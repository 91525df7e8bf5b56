pub mod Laws
pub mod OneMore
pub mod Filling
