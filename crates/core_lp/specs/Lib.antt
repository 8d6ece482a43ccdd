pub mod CaseProgramme
pub mod Named
pub mod Known
pub mod ByName
pub mod Placing
pub mod Walked
pub mod Ranks
pub mod Laws
