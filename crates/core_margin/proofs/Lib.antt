mod Programmes
mod Reached
mod Deciding
mod Outcomes
mod Same
mod Numbers
mod Certificates
pub mod Margins
