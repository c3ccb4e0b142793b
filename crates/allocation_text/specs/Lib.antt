-- The text of a row of an hour's file. `Steps` is not needed to believe it: it has what the private functions promise each other.
pub mod Text
pub mod Steps
