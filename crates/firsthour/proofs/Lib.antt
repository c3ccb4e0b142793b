-- Why the program's functions write what is defined.
mod Reading
mod Examples
