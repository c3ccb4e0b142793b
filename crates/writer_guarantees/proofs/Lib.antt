-- Why what is written is read, how many bytes are enough, and why what is read has one text without a point.
mod Lists
mod Sizes
mod Numbers
mod Fields
mod Points
mod Lines
mod Rows
mod Contents
mod Fitting
mod Files
pub mod Guarantees
pub mod Examples
