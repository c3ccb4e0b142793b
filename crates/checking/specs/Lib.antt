-- What the comparisons of the test programs compare, and the sums that they make.
pub mod Same
pub mod Sums
