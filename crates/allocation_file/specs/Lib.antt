-- What an hour's file is and what the call that reads it does: `File`, over the lines of `allocation_lines`. `Steps` is not needed to
-- believe the call: it has what the contract of one of its own functions says.
pub mod File
pub mod Steps
