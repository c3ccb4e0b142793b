-- The text that the program prints, in the order in which to read it.
pub mod Text
pub mod Room
pub mod Examples
