-- What a record that fits says of its hours and totals.
pub mod Records
