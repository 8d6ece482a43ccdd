pub mod Lists
pub mod Scaled
pub mod Laws
