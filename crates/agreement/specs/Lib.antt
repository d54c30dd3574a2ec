pub mod Demand
pub mod Rounds
pub mod Words
