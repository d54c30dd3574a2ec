pub mod Equations
pub mod Contract
