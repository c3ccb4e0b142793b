-- Laws of the positions before settlement.
pub mod Before
