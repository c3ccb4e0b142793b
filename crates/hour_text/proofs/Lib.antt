-- Why the functions write what is defined.
mod Adding
mod Settling
mod Opening
mod Zeros
