pub mod Cells
pub mod Faults
pub mod Laws
pub mod Ranking
pub mod Records
pub mod Report
pub mod Stays
