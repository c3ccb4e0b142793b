-- The laws of the file's definitions, by subject.
pub mod Header
pub mod Calls
