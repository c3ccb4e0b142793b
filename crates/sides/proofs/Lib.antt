-- Why one side's settlement leaves what rules 3 to 6 name.
mod Turning
mod Words
mod Booking
pub mod OneSide
