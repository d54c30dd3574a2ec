pub mod Tabulated
pub mod Bits
pub mod Placing
pub mod Settings
pub mod OrderLaws
pub mod Reorders
pub mod Moving
