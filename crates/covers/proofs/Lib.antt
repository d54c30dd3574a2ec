pub mod Reading
pub mod Carrying
pub mod Cuts
pub mod Tables
