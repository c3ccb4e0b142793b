-- Why the definitions of the file have the properties of specs/Guarantees.antt; and the examples, computed.
pub mod Rows
pub mod Forms
mod Obeyed
mod Faults
pub mod Guarantees
pub mod Examples
