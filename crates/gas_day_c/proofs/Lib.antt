-- Why the calls for C answer as their specifications say.
mod Calls
