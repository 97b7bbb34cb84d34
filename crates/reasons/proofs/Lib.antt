-- Why the claims hold: what the question says of the table of a line, which step a run stopped at, and then the claims.
pub mod Asked
pub mod StoppedAt
pub mod Carried
