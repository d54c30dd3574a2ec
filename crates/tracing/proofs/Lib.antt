pub mod Outputs
pub mod Opening
pub mod Stepping
pub mod Cut
pub mod AllLines
pub mod OneOutput
pub mod Joining
