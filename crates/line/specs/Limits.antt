-- The limits of document 01 ("What the engine holds", "The block", "The step list") and document 02 (T-05), each once; `limits` of src/ has the
-- same for the code.
use Rattle.std.specs.Prelude.{ℕ}

-- "up to 64 ground stations"; as many questions are answered in one roll call (document 02, T-03)
abbrev pub most_stations : ℕ
most_stations = 64

-- "a station number from 1 to 999,999"
abbrev pub largest_number : ℕ
largest_number = 999999

-- "a site code, 0 to 9,999"
abbrev pub largest_site : ℕ
largest_site = 9999

-- "The capacity of 32 is ours; the report has none."
abbrev pub capacity : ℕ
capacity = 32

-- "A list has at most 4,096 steps."
abbrev pub most_steps : ℕ
most_steps = 4096
