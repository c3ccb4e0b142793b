-- "Figures to be proved: cases A to K", and further examples: a whole day, twelve users, the lower defaults.
pub mod Cases
pub mod Examples
