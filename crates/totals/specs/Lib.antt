-- What one call sells and buys.
pub mod Sums
