pub mod Giving
pub mod Reordered
pub mod EachGate
pub mod Deciding
