pub mod Asking
pub mod Settled
pub mod Interpreting
pub mod Settling
pub mod Alone
pub mod Following
pub mod Reacting
