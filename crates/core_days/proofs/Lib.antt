mod Rows
mod Opens
pub mod PayDays
mod Counted
mod Working
mod HouseDays
mod Walk
