mod Weighted
mod Slots
mod Duality
mod Charging
mod Pools
pub mod Weak
pub mod Least
mod Passing
mod PassingLists
pub mod Totals
mod Holding
mod Tested
mod Valid
pub mod Showing
mod Verdicts
mod Rows
mod Lists
mod Judging
mod Order
mod Tables
mod Crosswise
mod Pooling
mod CashTerms
mod ChargeTerms
mod BoundTerms
mod WeightSigns
mod Reaching
mod Joining
mod Formed
mod Keeping
