-- The figures and the whole day, by computing the definitions.
pub mod Figures
