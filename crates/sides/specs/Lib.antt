-- One side of the thresholds.
pub mod Sides
