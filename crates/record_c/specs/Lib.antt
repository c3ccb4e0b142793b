-- The record as C holds it, and what is proved of it.
pub mod Records
pub mod Guarantees
