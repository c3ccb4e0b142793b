-- Rules 1 and 2 on what is lent.
pub mod Before
pub mod Against
