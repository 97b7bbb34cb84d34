-- The words of the printed listing, byte by byte (document 01, "The printed listing").
use Rattle.std.specs.Prelude.{ℕ, zero, suc, ◌+◌, ◌/◌, ◌%◌, cond, List, [], ◌∷◌, ◌++◌, ltb, Some, None}
use Rattle.line.specs.Types.{Neighbour}
use Prim.Native.Char.{code}
use Prim.Native.String.{String, [] as end, ◌∷◌ as ◌then◌}
use Rattle.line.specs.declared.Content.{Content}
use Rattle.line.specs.declared.Content.TheVariants.{Introduction, RemoveLeft, RemoveRight}
use Rattle.line.specs.declared.Message.{Message}
use Rattle.line.specs.declared.Marks.{Marks}

-- a word in ASCII, letter by letter
abbrev pub ascii : String → List ℕ
ascii end = []
ascii (c then word) = code c ∷ ascii word

-- the digit of a number below 10
abbrev pub digit : ℕ → ℕ
digit d = code "0" + d

-- "the number", in decimal: below 10 its one digit, else the digits of its tenth part and then its last digit. `most` bounds how many
-- digits there are.
unfoldable pub digits : ℕ → ℕ → List ℕ
digits zero n = []
digits (suc most) n =
    let longer = digits most (n / 10) ++ (digit (n % 10) ∷ []) in
    cond (ltb n 10) (digit n ∷ []) longer

-- no number n has more than n + 1 digits
unfoldable pub decimal : ℕ → List ℕ
decimal n = digits (suc n) n

-- "left, right (`-` for none)"
unfoldable pub neighbour_text : Neighbour → List ℕ
neighbour_text None = ascii "-"
neighbour_text (Some n) = decimal n

-- "`stay` or `leave`"
unfoldable pub mark_text : Marks → List ℕ
mark_text m = cond m.leaving (ascii "leave") (ascii "stay")

-- "messages as `i` with the number, `l` or `r`"
unfoldable pub content_text : Content → List ℕ
content_text (Introduction n) = ascii "i" ++ decimal n
content_text RemoveLeft = ascii "l"
content_text RemoveRight = ascii "r"

abbrev pub message_text : Message → List ℕ
message_text m = content_text m.content

-- "Words are parted by one space"
abbrev pub space : ℕ
space = 32

-- words with a space before each, and so with one between each two
unfoldable pub spaced : List (List ℕ) → List ℕ
spaced [] = []
spaced (w ∷ words) = space ∷ w ++ spaced words

unfoldable pub parted : List (List ℕ) → List ℕ
parted [] = []
parted (w ∷ words) = w ++ spaced words

-- "each line ends with LF"
abbrev pub line_feed : ℕ
line_feed = 10
