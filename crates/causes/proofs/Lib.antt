-- What the tests of the lengths leave for those that come after, and what all these leave for cause 25. Assumes nothing.
pub mod Lengths
pub mod Totals
