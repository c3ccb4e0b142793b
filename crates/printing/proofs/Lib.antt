-- The laws of what is said.
pub mod Said
pub mod Spelled
