-- What the private functions of the crate promise each other.
pub mod Steps
