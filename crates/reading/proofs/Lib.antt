mod Rounding
mod Values
mod Patterns
mod Ordered
