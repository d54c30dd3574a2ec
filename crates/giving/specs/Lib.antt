pub mod Giving
pub mod Reordering
pub mod EachGate
