-- The laws of what bytes begin with, of lines and of fields.
pub mod Begins
pub mod Lines
pub mod Fields
