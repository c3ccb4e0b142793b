-- The lines that the test programs print, in the order in which to read it: what a function that says something does to a line; and what is said.
pub mod Said
pub mod Words
