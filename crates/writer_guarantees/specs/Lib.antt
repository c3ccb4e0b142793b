-- What is proved of the writer together with the reader, and small contents with what the definitions say of them.
pub mod Guarantees
pub mod Examples
