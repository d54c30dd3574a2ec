pub mod Cells
pub mod Words
pub mod Values
pub mod Needs
pub mod Netlist
