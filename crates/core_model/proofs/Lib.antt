pub mod FewLines
pub mod Places
pub mod WorkedCases
pub mod Sizes
mod Rows
mod WorkedIsCase
mod Neighbours
mod Admissible
