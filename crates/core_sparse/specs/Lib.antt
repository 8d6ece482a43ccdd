pub mod Items
pub mod Steps
pub mod Moved
pub mod Sparse
pub mod SparseLaw
