-- The laws of the comparisons.
pub mod Equality
pub mod Near
