-- The printed listing, byte by byte (document 01, "The printed listing"; document 02, T-02 and T-05).
use Rattle.std.specs.Prelude.{ℕ, Bool, cond, ◌&&◌, ◌||◌, List, [], ◌∷◌, ◌++◌, map, eqb, leb, Some, None}
use Rattle.line.specs.Types.{Answered, Carried}
use Rattle.line.specs.declared.Station as declared
use Rattle.line.specs.declared.Reason.{Reason}
use Rattle.line.specs.declared.Reason.TheVariants.{OwnBag, HeldBy}
use Rattle.line.specs.Answer.{answer_number, answer_reason}
use Rattle.line.specs.Node.{Node, Line, site}
use Rattle.words.specs.Words.{ascii, decimal, neighbour_text, mark_text, message_text, parted, line_feed}

-- "Words are parted by one space and each line ends with LF."
unfoldable pub line_text : List (List ℕ) → List ℕ
line_text words = parted words ++ (line_feed ∷ [])

-- "the printed first line then ends in `bag`, or `held-by` and the station number": at 14, and at no other number
abbrev pub reason_words : Reason → List (List ℕ)
reason_words OwnBag = ascii "bag" ∷ []
reason_words (HeldBy q) = ascii "held-by" ∷ decimal q ∷ []

abbrev pub carried_words : Carried → List (List ℕ)
carried_words None = []
carried_words (Some why) = reason_words why

-- "First line: `answer`, the number, `done`, steps done, `stations`, stations."
unfoldable pub head_text : Answered → ℕ → ℕ → List ℕ
head_text answer done stations =
    line_text
    ((ascii "answer" ∷ decimal (answer_number answer) ∷ ascii "done" ∷ decimal done ∷ ascii "stations" ∷ decimal stations ∷ []) ++ carried_words (answer_reason answer))

-- "a line per station: number, left, right (`-` for none), `stay` or `leave`, then messages [..] in written order": those of a bag that is
-- in that order
unfoldable pub station_words : declared.Station → List (List ℕ)
station_words s = decimal s.number ∷ neighbour_text s.left ∷ neighbour_text s.right ∷ mark_text s.marks ∷ []

-- "The printed line of a station gains its code at the end as one word, `@` with the number, or nothing for 0." (document 02, T-05)
abbrev pub site_words : ℕ → List (List ℕ)
site_words c = cond (eqb c 0) [] ((ascii "@" ++ decimal c) ∷ [])

unfoldable pub station_text : Node → List ℕ
station_text s = line_text (station_words s.station ++ (map message_text s.bag ++ site_words (site s)))

-- "there follows a line per station"
unfoldable pub stations_text : Line → List ℕ
stations_text [] = []
stations_text (s ∷ line) = station_text s ++ stations_text line

-- "For answers 0 and 10 to 15"
unfoldable pub prints_stations : ℕ → Bool
prints_stations answer = eqb answer 0 || (leb 10 answer && leb answer 15)

-- the whole listing of an answer, the steps done, the number of stations and the line in its order
unfoldable pub listing_text : Answered → ℕ → ℕ → Line → List ℕ
listing_text answer done stations line = head_text answer done stations ++ cond (prints_stations (answer_number answer)) (stations_text line) []
