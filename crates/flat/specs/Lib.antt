-- The answers as C holds them, and what is proved of a record that is refused.
pub mod Flat
pub mod Guarantees
