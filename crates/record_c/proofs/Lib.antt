-- What is proved of the record at the boundary to C.
pub mod Guarantees
