-- What is proved of the rule, and why.
pub mod Cuts
pub mod Parts
pub mod Guarantees
