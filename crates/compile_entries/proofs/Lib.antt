pub mod CompileEntries
pub mod OneCompileAnswer
pub mod CellsBack
