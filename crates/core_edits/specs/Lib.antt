pub mod Kinds
pub mod Codes
pub mod Stated
pub mod Faults
pub mod Refusals
