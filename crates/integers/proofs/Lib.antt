-- The laws of signed numbers and of lists that the crates above cite, by subject.
pub mod Linear
pub mod Sizes
pub mod Machine
pub mod Tests
pub mod Counts
pub mod Sums
pub mod Passes
