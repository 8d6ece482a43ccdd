pub mod Demo
pub mod Closed
pub mod States
