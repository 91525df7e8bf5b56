pub mod ThereAndBack
