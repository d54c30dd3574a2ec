pub mod Interpret
pub mod Tested
pub mod Settle
pub mod Program
