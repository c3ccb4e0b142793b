-- A row's line in parts, and how long they are.
pub mod Parts
