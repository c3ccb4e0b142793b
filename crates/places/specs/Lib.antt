-- The live places of a zone.
pub mod Live
