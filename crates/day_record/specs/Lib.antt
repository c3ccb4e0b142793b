-- What is small enough to be added.
pub mod Small
