pub mod Laws
pub mod Operands
pub mod OrRow
pub mod ParallelRow
pub mod LowAbove
