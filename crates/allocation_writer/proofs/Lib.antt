-- The lines that are left to write, what the tests of the causes say, and the call's contract at each of its ends.
mod Lines
pub mod Tests
pub mod Calls
