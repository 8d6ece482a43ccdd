pub mod Passed
pub mod Causes
pub mod States
pub mod Calls
pub mod Shelves
pub mod Sinks
pub mod System
