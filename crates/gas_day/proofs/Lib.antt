-- Why the calls of the Gas Day answer as the rules say.
mod Openings
mod Hours
mod Previews
mod Closings
