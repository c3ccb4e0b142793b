-- Causes 9 to 11.
pub mod Amounts
