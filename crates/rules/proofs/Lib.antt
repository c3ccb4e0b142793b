-- Why the definitions have the properties of specs/Guarantees.antt, and what an accepted call may count on.
pub mod Refusing
pub mod Zones
pub mod Accepted
pub mod Small
pub mod Marking
pub mod Totals
pub mod Settling
pub mod Telling
pub mod Conserving
mod Carrying
mod Owning
mod Previewing
pub mod Judging
mod Sparing
pub mod Guarantees
