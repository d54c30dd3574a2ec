pub mod Computing
pub mod Paper
