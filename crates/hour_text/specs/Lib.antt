-- The text of an hour that is settled as the first of its day, and what the functions ask of the lists that they are lent.
pub mod Opened
pub mod Lent
