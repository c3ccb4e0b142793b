-- What is proved of the definitions of the hour's file, and small files with what the definitions say of them.
pub mod Guarantees
pub mod Examples
