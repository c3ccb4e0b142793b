-- Documents 01 and 02 on opening, default thresholds, hours, previews, closings and their causes, in document 01's order; then the judge, the history of a day, what is proved of them, and
-- `Compute`, by which the cases compute.
pub mod Limits
pub mod Days
pub mod Thresholds
pub mod Hours
pub mod Market
pub mod Refusals
pub mod Causes
pub mod Answers
pub mod Promises
pub mod Judging
pub mod History
pub mod Guarantees
pub mod Compute
