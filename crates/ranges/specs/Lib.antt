-- What a constructor of a kind of amount answers.
pub mod Kinds
