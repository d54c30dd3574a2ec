pub mod Words
pub mod Checking
pub mod Running
pub mod Laying
pub mod Exists
