-- Why the claims hold: the examples are computed; then what one station does, a step over the whole line, runs, and the bytes.
pub mod Worked
pub mod Stations
pub mod Steps
pub mod Lines
pub mod Tables
