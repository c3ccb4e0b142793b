-- Why the sums are those of the rules.
pub mod Hours
