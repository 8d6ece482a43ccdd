pub mod View
pub mod Limits
pub mod WellFormed
pub mod Inside
pub mod Edits
pub mod Neighbours
pub mod Laws
