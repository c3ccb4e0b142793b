-- What the steps of the settlement ask and leave.
pub mod Steps
