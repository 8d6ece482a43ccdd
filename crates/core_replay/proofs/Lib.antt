mod Sizes
mod LineFlows
mod ByPayDay
mod Costs
pub mod Totals
mod Standing
mod Running
pub mod FirstWorst
mod Rows
