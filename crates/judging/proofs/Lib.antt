-- What the judge's functions have to show of each user, of all users, and of an hour's inputs.
pub mod Users
pub mod Asking
