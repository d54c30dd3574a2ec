pub mod Behaviour
pub mod Haltsets
pub mod Modules
pub mod Programs
