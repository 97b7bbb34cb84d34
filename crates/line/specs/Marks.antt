-- What a station carries besides its number, its neighbours and its bag, and the two words of its block that say it (document 01, "The
-- block"; document 02, T-05). A further mark is said here: how it stands in a word, how it is read from there, and the rule of that word.
use Rattle.std.specs.Prelude.{ℕ, Bool, cond, ◌&&◌, eqb, leb}
use Rattle.line.specs.declared.Marks.{Marks}

-- bytes 2-3: "bit 0 leaving; all other bits 0"
abbrev pub flags : Marks → ℕ
flags m = cond m.leaving 1 0

abbrev pub flags_hold : ℕ → Bool
flags_hold n = leb n 1

-- bytes 18-19, the code itself: "a site code, 0 to 9,999, with 0 for none"
abbrev pub site_holds : ℕ → Bool
site_holds n = leb n 9999

-- the marks that the two words say
abbrev pub marks_from : ℕ → ℕ → Marks
marks_from f c = record { leaving = eqb f 1; site = c }

-- marks that the layout can say
unfoldable pub marks_hold : Marks → Bool
marks_hold m = flags_hold (flags m) && site_holds m.site

-- the marks of a station that carries no more than whether it is leaving
abbrev pub plain : Bool → Marks
plain leaving = marks_from (cond leaving 1 0) 0

-- the same marks with another site code
abbrev pub with_site : ℕ → Marks → Marks
with_site c m = record { leaving = m.leaving; site = c }
