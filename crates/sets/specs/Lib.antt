pub mod Codes
pub mod Static
pub mod Faults
pub mod Words
pub mod Leads
