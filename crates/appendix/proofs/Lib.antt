-- Why the claims hold: the facts, from what runs over lines keep; the later exit; the worked runs, computed over the stations of their tables; and
-- from these that each premise is needed.
pub mod Facts
pub mod Later
pub mod Stored
pub mod Worked
pub mod Needed
