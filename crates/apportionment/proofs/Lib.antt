-- Why the code finds the settled sizes of the rule, and where the pass that hands out ends.
mod Sharing
mod Handing
mod Whole
pub mod Guarantees
