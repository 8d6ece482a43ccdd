pub mod Printed
pub mod Rowed
