-- Why the test of the live places is cause 7.
mod Tables
