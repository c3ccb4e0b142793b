-- The lines of an hour's file in turn. `Steps` is not needed to believe them: it has what the contracts of the functions that read them say.
pub mod Turns
pub mod Steps
