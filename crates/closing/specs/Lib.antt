-- What the closing of a zone asks and leaves.
pub mod Steps
