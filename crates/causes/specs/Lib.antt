-- What the private functions of the crate promise each other. Assumes nothing.
pub mod Steps
