-- Numbers as text, in the order in which to read it: the bytes that have a name, a number read from bytes, a number as its decimal text,
-- what a function that writes bytes promises; then numbers with their texts.
pub mod Bytes
pub mod Numbers
pub mod Decimals
pub mod Puts
pub mod Examples
