-- The blocks of a line, written one after another into a room whose rest stays as it was (document 01, "The block").
use Prim.Native.Nat.{ℕ, ◌+◌, ◌*◌, ◌≤◌, ◌<◌}
use mathlib.Core.Path.{◌≡◌, refl, ap, ◌∙◌}
use mathlib.Core.List.Memᴰ.{head as here}
use mathlib.Core.List.Memᴰ.{tail as there}
use mathlib.Core.List.{List, [], ◌∷◌, ◌++◌, map-append, append_assoc, append-nil}
use native.Mathlib.Numerals.{add-one}
use native.Mathlib.Omega.{arith}
use lib.ListN.{length, get_or, take, drop, length-append, length-drop}
use lib.Seq.{take-suc, take_at, drop_at, drop-drop}
use Rattle.lists.proofs.Elements.{at_any}
use Rattle.line.specs.declared.Message.{Message}
use Rattle.line.specs.declared.Station as declared
use Rattle.line.specs.Node.{Node, Line, nobody}
use Rattle.bag.specs.declared.Bag.{Bag}
use Rattle.bag.specs.Held.{held, ordered}
use Rattle.bag.proofs.Laws.{held_room}
use Rattle.index.specs.Index.{slot_in}
use Rattle.writing.specs.Encoding.{encode}
use Rattle.writing.proofs.ReadBack.{written_length}
use Rattle.table.specs.Blocks.{bytes_of}
use Rattle.arrays.specs.declared.Arrays.{Arrays}
use Rattle.arrays.specs.Arrays.{node_at, line_in}
use Rattle.arrays.specs.Claims.{WrittenSize}
use Rattle.arrays.proofs.Lines.{slot_of}

bytes_append : (a b : Line) → bytes_of (a ++ b) ≡ bytes_of a ++ bytes_of b
unfolding bytes_of
bytes_append [] b = refl
bytes_append (s ∷ a) b = rw (bytes_append a b, append_assoc)

bytes_more : (line : Line) (s : Node) → bytes_of (line ++ (s ∷ [])) ≡ bytes_of line ++ encode s
unfolding bytes_of
bytes_more line s = rw (bytes_append line (s ∷ []), append-nil)

-- a part that was lent and written comes back: p stands before it, r is what the whole was
framed : (p v r : List ℕ) (a m : ℕ) → length p ≡ a → take a (p ++ drop a r) ++ (v ++ drop m (drop a (p ++ drop a r))) ≡ (p ++ v) ++ drop (a + m) r
framed p v r a m h = rw (take_at p (drop a r) a h, drop_at p (drop a r) a h, drop-drop m a r, append_assoc p v (drop (a + m) r))

-- the line of the first k entries
abbrev firsts : Arrays → ℕ → Line
firsts a k = line_in (record { n = k; index = a.index; stations = a.stations; bags = a.bags; counts = a.counts })

firsts_more : (a : Arrays) (k : ℕ) → k < length a.index → firsts a (k + 1) ≡ firsts a k ++ (node_at a (slot_of a k) ∷ [])
unfolding line_in
firsts_more a k h =
    let f : ℕ → Node = λ e. node_at a (slot_in e) in
    rw (add-one k, take-suc a.index k 0 h, map-append f (take k a.index) (get_or a.index k 0 ∷ []))

-- k of the n blocks are written
pub record WrittenTo (before : List ℕ) (a : Arrays) (k : ℕ) (room : List ℕ) : Type 0 where
  pub within : k ≤ a.n
  pub size : length room ≡ length before
  pub long : length (bytes_of (firsts a k)) ≡ 512 * k
  pub is : room ≡ bytes_of (firsts a k) ++ drop (512 * k) before

pub written_none : {room : List ℕ} {a : Arrays} → WrittenTo room a 0 room
unfolding bytes_of line_in
written_none = record { within = omega arith; size = refl; long = refl; is = refl }

module _ {before : List ℕ} {a : Arrays} {k : ℕ} {room : List ℕ} (so_far : WrittenTo before a k room) where
  -- one more: the station in the slot of entry k, and its messages in written order
  pub written_next : k < a.n → 512 * a.n ≤ length before → k < length a.index → length a.stations ≡ 64 → length a.bags ≡ 64
      → (d : declared.Station) (e : List Message) (b : Bag) → held b ≡ ordered (record { messages = get_or a.bags (slot_of a k) e; count = get_or a.counts (slot_of a k) 0 })
      → length b.messages ≡ 32 → {block : List ℕ} → block ≡ encode (record { station = get_or a.stations (slot_of a k) d; bag = held b })
      → WrittenTo before a (k + 1) (take (512 * k) room ++ (block ++ drop 512 (drop (512 * k) room)))
  written_next h fits lo ls lb d e b o m {block} is =
      let line = firsts a k in
      let slot = slot_of a k in
      let same : block ≡ encode (node_at a slot) = is ∙ rw (o, at_any a.stations slot d nobody.station (omega arith), at_any a.bags slot e [] (omega arith)) in
      let l : length block ≡ 512 = ap length is ∙ written_length _ (held_room b m) in
      let more : bytes_of (firsts a (k + 1)) ≡ bytes_of line ++ block = rw (firsts_more a k lo, bytes_more, ← same) in
      let z : 512 * (k + 1) ≡ 512 * k + 512 = omega arith in
      let whole : take (512 * k) room ++ (block ++ drop 512 (drop (512 * k) room)) ≡ bytes_of (firsts a (k + 1)) ++ drop (512 * (k + 1)) before =
      rw (z, more, so_far.is) (framed (bytes_of line) block before (512 * k) 512 so_far.long) in
      let long : length (bytes_of (firsts a (k + 1))) ≡ 512 * (k + 1) = rw (more, length-append) (omega arith) in
      record { within = omega arith; size = ap length whole ∙ simp (length-append, length-drop) (omega arith); long = long; is = whole }

pub written_size : WrittenSize
unfolding bytes_of
written_size [] h = refl
written_size (s ∷ line) h = rw length-append (omega (arith, written_length s (h s (here refl)), written_size line (λ x m. h x (there m))))
