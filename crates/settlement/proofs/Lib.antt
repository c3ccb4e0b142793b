-- Why the settlement of a zone leaves what the rules name.
mod Users
mod Tables
