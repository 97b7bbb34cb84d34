-- How often a station is mentioned by others (document 02, T-03: "Mentions are counted once from the table"). What mentions a station is what
-- NIDEC looks at (document 01, "What a step does at station p"): a left, a right, and every copy of an introduction.
use Rattle.std.specs.Prelude.{ℕ, ◌+◌, Bool, cond, [], ◌∷◌, eqb}
use Rattle.line.specs.Message.{introduction, copies}
use Rattle.line.specs.Nidec.{is_neighbour}
use Rattle.line.specs.Node.{Node, Line, number}

-- 1 where a test holds, else 0
abbrev pub once : Bool → ℕ
once b = cond b 1 0

-- how often s mentions p: as its left, as its right, and once for each copy of p's introduction in its bag; "no other station": a station
-- does not mention itself
unfoldable pub mentions_by : ℕ → Node → ℕ
mentions_by p s =
    cond (eqb (number s) p) 0
    (once (is_neighbour p s.station.left) + once (is_neighbour p s.station.right) + copies (introduction p) s.bag)

-- how often the stations of a line mention p, one after another
unfoldable pub mentions : ℕ → Line → ℕ
mentions p [] = 0
mentions p (s ∷ line) = mentions_by p s + mentions p line
