-- The laws of the zone's letter and number, and of a row at its place.
pub mod Zones
pub mod Follows
