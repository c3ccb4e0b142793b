-- A user's line at a place of the lists; and the examples, computed.
pub mod Lines
pub mod Examples
