pub mod SmallFarm
