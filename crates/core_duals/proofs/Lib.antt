mod Over
mod Placing
mod Scaling
