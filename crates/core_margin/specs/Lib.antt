pub mod Last
pub mod Outcomes
pub mod Answers
pub mod Orders
pub mod Laws
