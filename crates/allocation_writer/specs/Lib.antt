-- The writer of an hour's file. `Steps` is not needed to believe it: it has what the private functions count on.
pub mod Writer
pub mod Steps
