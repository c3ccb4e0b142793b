-- The causes for turning a file away, and what one line of an hour's file says. `Steps` has what contracts say of the four lists lent:
-- that the ones lent come back (`Same`, which the call promises too), and what storing a row does.
pub mod Causes
pub mod Rows
pub mod Steps
