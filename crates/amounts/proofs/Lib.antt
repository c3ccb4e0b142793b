-- Why the market position may be added up.
mod Sizes
