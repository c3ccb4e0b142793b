-- Lines and fields. `Steps` is not needed to believe them: it has what the contracts say of where a line or a field begins and ends.
pub mod Lines
pub mod Steps
