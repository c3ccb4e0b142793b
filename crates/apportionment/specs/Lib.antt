-- The steps by which the code finds the settled sizes of rule 4; how far the pass goes that hands out the spare units, and what is proved of it.
pub mod Steps
pub mod Pass
pub mod Guarantees
