pub mod Netlists
pub mod Files
pub mod Cells
pub mod Code
