-- Rule 4 of document 01: the rule, and what is proved of it; and the cut by which the arguments and the code go.
pub mod Rule
pub mod Guarantees
pub mod Cuts
