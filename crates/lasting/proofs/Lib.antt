-- Why the claims hold: the examples are computed; what a step keeps of its station and of each that receives, it keeps everywhere; so a line in
-- line is in line after every step, and NIDEC for a station holds after every step elsewhere; then whole runs.
pub mod Worked
pub mod Stations
pub mod Everywhere
pub mod StepsInLine
pub mod StepsElsewhere
pub mod Runs
