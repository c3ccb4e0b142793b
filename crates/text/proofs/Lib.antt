-- Laws of reading a number, of a point in it, of its decimal text, and of text that is written in parts; and the examples, computed.
pub mod Numbers
pub mod Points
pub mod Decimals
pub mod Puts
pub mod Examples
