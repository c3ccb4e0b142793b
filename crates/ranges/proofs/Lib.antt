-- The places of a default in its table.
pub mod Lookup
