-- The lines of a listing in the pieces in which they are put. Each law takes what the writers of the pieces leave.
use mathlib.Core.Path.{◌≡◌, refl}
use Rattle.std.specs.Prelude.{None}
use Rattle.line.specs.Types.{Answered, Carried, Neighbour}
use mathlib.Core.Bool.{Bool, true, false}
use mathlib.Core.List.{List, [], ◌∷◌, ◌++◌, map, append_assoc, append-nil, map-append}
use Prim.Native.Nat.{ℕ, ◌+◌, ◌*◌, ◌≤◌, ◌<◌}
use native.Mathlib.Numerals.{add-one}
use native.Mathlib.Omega.{arith}
use lib.ListN.{length}
use borrow.Author.Tests.{eq-eqb, ne_eqb}
use Rattle.line.specs.declared.Message.{Message}
use Rattle.line.specs.declared.Station as declared
use Rattle.line.specs.declared.Reason.{Reason}
use Rattle.line.specs.declared.Reason.TheVariants.{OwnBag, HeldBy}
use Rattle.line.specs.Answer.{answer_number, answer_reason}
use Rattle.line.specs.Node.{Node, Line}
use Rattle.octets.specs.Bytes.{word}
use Rattle.block.specs.Layout.{place_at, messages, station_of, node_of}
use Rattle.fields.specs.Fields.{message_of, Place}
use Rattle.words.specs.Words.{ascii, decimal, neighbour_text, mark_text, message_text, space, line_feed, spaced, parted}
use Rattle.words.specs.Writing.{Wrote}
use Rattle.words.proofs.Written.{wrote_none, wrote_length, wrote_next}
use Rattle.words.proofs.Spaces.{spaced_append, spaced_more, parted_append}
use Rattle.text.specs.Listing.{line_text, reason_words, carried_words, head_text, station_words, site_words, station_text, stations_text, prints_stations, listing_text}

-- the reason: the own bag, a holder, none, or one
module _ (why : Reason) {l m : List ℕ} {at r : ℕ} where
  pub wrote_bag : why ≡ OwnBag → Wrote l at (ascii " bag") r m → Wrote l at (spaced (reason_words why)) r m
  unfolding spaced
  wrote_bag e a = rw e a

  pub wrote_holder : (q : ℕ) → why ≡ HeldBy q → Wrote l at (ascii " held-by " ++ decimal q) r m → Wrote l at (spaced (reason_words why)) r m
  unfolding spaced
  wrote_holder q e a = rw (e, append-nil (decimal q)) a

module _ (carried : Carried) {l : List ℕ} {at : ℕ} where
  pub wrote_nothing : carried ≡ None → at + 19 ≤ length l → Wrote l at (spaced (carried_words carried)) at l
  unfolding spaced
  wrote_nothing e h = rw e (wrote_none (omega arith))

-- the first line
regrouped : (s t u v w x : List ℕ) → ((s ++ t) ++ (u ++ v)) ++ (w ++ x) ≡ s ++ (t ++ (u ++ (v ++ (w ++ (x ++ [])))))
regrouped s t u v w x = simp (append_assoc, append-nil)

-- behind its first word, before the reason
abbrev counts : ℕ → ℕ → ℕ → List (List ℕ)
counts number done stations = decimal number ∷ ascii "done" ∷ decimal done ∷ ascii "stations" ∷ decimal stations ∷ []

module _ (number done stations : ℕ) {l m n o : List ℕ} {i j r : ℕ} where
  pub wrote_counts : Wrote l 0 (ascii "answer " ++ decimal number) i m → Wrote m i (ascii " done " ++ decimal done) j n → Wrote n j (ascii " stations " ++ decimal stations) r o
      → Wrote l 0 (parted (ascii "answer" ∷ counts number done stations)) r o
  unfolding parted spaced
  wrote_counts a b c = rw (← regrouped (ascii "answer ") (decimal number) (ascii " done ") (decimal done) (ascii " stations ") (decimal stations)) (wrote_next (wrote_next a b) c)

module _ (answer : Answered) (done stations : ℕ) {number : ℕ} {carried : Carried} {l m n o : List ℕ} {i j r : ℕ} where
  pub wrote_head : number ≡ answer_number answer → carried ≡ answer_reason answer → Wrote l 0 (parted (ascii "answer" ∷ counts number done stations)) i m
      → Wrote m i (spaced (carried_words carried)) j n → Wrote n j (line_feed ∷ []) r o → Wrote l 0 (head_text answer done stations) r o
  unfolding head_text line_text
  wrote_head e f a b c =
      rw (← parted_append (ascii "answer") (counts (answer_number answer) done stations) (carried_words (answer_reason answer))) (rw (e, f) at (wrote_next (wrote_next a b) c))

-- the two neighbours
two_pieces : (a b : List ℕ) → (space ∷ a) ++ (space ∷ b) ≡ spaced (a ∷ b ∷ [])
unfolding spaced
two_pieces a b = rw append-nil

module _ (left right : Neighbour) {l m n o p : List ℕ} {at i j k r : ℕ} where
  pub wrote_neighbours : Wrote l at (space ∷ []) i m → Wrote m i (neighbour_text left) j n → Wrote n j (space ∷ []) k o → Wrote o k (neighbour_text right) r p
      → Wrote l at (spaced (neighbour_text left ∷ neighbour_text right ∷ [])) r p
  wrote_neighbours a b c d = rw (← two_pieces (neighbour_text left) (neighbour_text right)) (wrote_next (wrote_next a b) (wrote_next c d))

-- the words of a station
words_pieces : (s : declared.Station) → decimal s.number ++ (spaced (neighbour_text s.left ∷ neighbour_text s.right ∷ []) ++ (space ∷ mark_text s.marks)) ≡ parted (station_words s)
unfolding station_words parted
words_pieces s = rw (spaced_more (neighbour_text s.left ∷ neighbour_text s.right ∷ []) (mark_text s.marks))

module _ (s : declared.Station) {l m n o p : List ℕ} {at i j k r : ℕ} where
  pub wrote_words : Wrote l at (decimal s.number) i m → Wrote m i (spaced (neighbour_text s.left ∷ neighbour_text s.right ∷ [])) j n → Wrote n j (space ∷ []) k o → Wrote o k (mark_text s.marks) r p
      → Wrote l at (parted (station_words s)) r p
  wrote_words a b c d = rw (← words_pieces s) (wrote_next a (wrote_next b (wrote_next c d)))

-- a message behind a space
pub wrote_further : (x : Message) {l m n : List ℕ} {at j r : ℕ} → Wrote l at (space ∷ []) j m → Wrote m j (message_text x) r n → Wrote l at (space ∷ message_text x) r n
wrote_further x a b = wrote_next a b

-- the messages of the first i places are in
pub record MessagesTo (l : List ℕ) (at : ℕ) (b : List ℕ) (n i end : ℕ) (m : List ℕ) : Type 0 where
  pub within : i ≤ n
  pub near : end ≤ at + 12 * i
  pub size : length m ≡ length l
  pub wrote : Wrote l at (spaced (map message_text (messages b i))) end m

pub messages_none : {l b : List ℕ} {at n : ℕ} → at + 384 ≤ length l → MessagesTo l at b n 0 at l
unfolding messages spaced
messages_none h = record { within = omega arith; near = omega arith; size = refl; wrote = wrote_none (omega arith) }

module _ {l b m : List ℕ} {at n i end : ℕ} (so_far : MessagesTo l at b n i end m) where
  pub messages_next : i < n → (p : Place) (x : Message) {o : List ℕ} {r : ℕ} → p ≡ place_at b i → x ≡ message_of p → Wrote m end (space ∷ message_text x) r o → r ≤ end + 12
      → MessagesTo l at b n (i + 1) r o
  unfolding messages
  messages_next h p x e f a g =
      let text = wrote_next so_far.wrote a in
      let more : spaced (map message_text (messages b i)) ++ (space ∷ message_text x) ≡ spaced (map message_text (messages b (i + 1))) =
      rw (f, e, add-one i, map-append) (spaced_more (map message_text (messages b i)) (message_text (message_of (place_at b i)))) in
      record { within = omega arith; near = omega (arith, so_far.near); size = wrote_length text; wrote = rw more at text }

-- the site code, where there is one
module _ (site : ℕ) {l : List ℕ} {at : ℕ} where
  pub wrote_nowhere : site ≡ 0 → at + 12 ≤ length l → Wrote l at (spaced (site_words site)) at l
  unfolding spaced
  wrote_nowhere e h = rw (eq-eqb site 0 e) (wrote_none (omega arith))

  pub wrote_site : (site ≡ 0 → ⊥) → {m : List ℕ} {r : ℕ} → Wrote l at (ascii " @" ++ decimal site) r m → Wrote l at (spaced (site_words site)) r m
  unfolding spaced
  wrote_site h a = rw (ne_eqb site 0 h, append-nil (decimal site)) a

-- the line of a station
module _ (b : List ℕ) (s : declared.Station) {l m n o p : List ℕ} {at i j k r : ℕ} where
  pub wrote_line : s ≡ station_of b → Wrote l at (parted (station_words s)) i m → Wrote m i (spaced (map message_text (messages b (word b 16)))) j n
      → Wrote n j (spaced (site_words s.marks.site)) k o → Wrote o k (line_feed ∷ []) r p → Wrote l at (station_text (node_of b)) r p
  unfolding node_of station_text station_words line_text
  wrote_line e a c f d =
      let bag = map message_text (messages b (word b 16)) in
      let code = site_words (station_of b).marks.site in
      rw (
        ← parted_append (decimal (station_of b).number) (neighbour_text (station_of b).left ∷ neighbour_text (station_of b).right ∷ mark_text (station_of b).marks ∷ []) (bag ++ code),
        spaced_append bag code,
      )
      (rw e at (wrote_next (wrote_next a (wrote_next c f)) d))

-- the lines of one station more
pub stations_more : (line : Line) (s : Node) → stations_text line ++ station_text s ≡ stations_text (line ++ (s ∷ []))
unfolding stations_text
stations_more [] s = rw append-nil
stations_more (x ∷ line) s = rw (append_assoc, stations_more line s)

-- the whole listing, the lines that follow the first or none
module _ (answer : Answered) (done stations : ℕ) (line : Line) {number : ℕ} (is : number ≡ answer_number answer) {prints : Bool} (told : prints ≡ prints_stations number)
    {l m : List ℕ} {k : ℕ} (head : Wrote l 0 (head_text answer done stations) k m) where
  pub listing_long : prints ≡ true → {n : List ℕ} {r : ℕ} → Wrote m k (stations_text line) r n → Wrote l 0 (listing_text answer done stations line) r n
  unfolding listing_text
  listing_long h a = rw (← is, ← told, h) (wrote_next head a)

  pub listing_short : prints ≡ false → Wrote l 0 (listing_text answer done stations line) k m
  unfolding listing_text
  listing_short h = rw (← is, ← told, h, append-nil) head
