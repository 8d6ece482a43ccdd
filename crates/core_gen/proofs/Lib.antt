mod Printed
mod Computed
mod Closes
mod States
