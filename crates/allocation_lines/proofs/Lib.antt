-- The laws of the lines in turn, and of what they leave in the lists.
pub mod Turns
pub mod Stores
