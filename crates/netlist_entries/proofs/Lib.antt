pub mod NetEntries
pub mod FileEntries
pub mod CellEntries
pub mod NetRuns
pub mod OneNetAnswer
