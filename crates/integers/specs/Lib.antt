-- What the rules are written with: tests of ranges, and functions on lists.
pub mod Ranges
pub mod Lists
