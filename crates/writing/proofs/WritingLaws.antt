-- The writers side by side: what they leave together, up to the whole block.
use mathlib.Core.Path.{◌≡◌, refl, sym, ap, ◌∙◌}
use mathlib.Core.List.{List, [], ◌∷◌, ◌++◌, append_assoc, append-nil}
use Prim.Native.Nat.{ℕ, suc, ◌+◌, ◌-◌, ◌*◌, ◌%◌, ◌≤◌, ◌<◌}
use native.Mathlib.Numerals.{add-one}
use native.Mathlib.Omega.{arith}
use lib.ListN.{length, take, drop, get_or, replicate, length-append, length-drop, length-replicate, replicate-append-replicate}
use lib.Seq.{take-suc, length-take-le}
use Rattle.line.specs.declared.Message.{Message}
use Rattle.line.specs.Message.{kind, carried}
use Rattle.line.specs.declared.Station as declared
use Rattle.line.specs.Marks.{flags}
use Rattle.line.specs.Node.{Node}
use Rattle.bag.specs.declared.Bag.{Bag}
use Rattle.bag.specs.Held.{held, Sized}
use Rattle.bag.proofs.Laws.{held_room}
use Rattle.octets.specs.Bytes.{le16, le32, sum_words, overwrite}
use Rattle.octets.proofs.Overwritten.{overwrite_none, overwrite_next, overwrite_at}
use Rattle.octets.proofs.Sums.{sum_append}
use Rattle.lists.proofs.Concat.{joined_append, joined_split, joined_size}
use Rattle.lists.proofs.Filling.{drop-replicate}
use Rattle.writing.specs.Encoding.{neighbour_number, place_bytes, places_bytes, header, with_check, encode}

-- the three fields of a place
pub place_written : (l : List ℕ) (i : ℕ) (m : Message) {k n : ℕ} {x y z : List ℕ} → i + 8 ≤ length l → k ≡ kind m.content → x ≡ overwrite i (le16 k) l
    → y ≡ overwrite (i + 2) (le16 0) x → n ≡ carried m.content → z ≡ overwrite (i + 4) (le32 n) y → z ≡ overwrite i (place_bytes m) l
unfolding place_bytes
place_written l i m h k x y n z =
    let low : i ≤ length l = omega arith in
    let a = le16 (kind m.content) in
    rw (z, y, x, k, n) (rw (overwrite_next i (i + 2) a (le16 0) l refl low, overwrite_next i (i + 4) (a ++ le16 0) (le32 (carried m.content)) l refl low))

-- the seven fields of the header
pub fields_written : (l : List ℕ) (flags number left right count site : ℕ) {a b c d e f g : List ℕ} → a ≡ overwrite 0 (le16 1) l → b ≡ overwrite 2 (le16 flags) a → c ≡ overwrite 4 (le32 number) b
    → d ≡ overwrite 8 (le32 left) c → e ≡ overwrite 12 (le32 right) d → f ≡ overwrite 16 (le16 count) e → g ≡ overwrite 18 (le16 site) f
    → g ≡ overwrite 0 (le16 1 ++ (le16 flags ++ (le32 number ++ (le32 left ++ (le32 right ++ (le16 count ++ le16 site)))))) l
fields_written l flags number left right count site a b c d e f g =
    let h : 0 ≤ length l = omega arith in
    let to_number = le16 1 ++ le16 flags in
    let to_left = to_number ++ le32 number in
    let to_right = to_left ++ le32 left in
    let to_count = to_right ++ le32 right in
    rw (g, f, e, d, c, b, a)
    (rw (
      overwrite_next 0 2 (le16 1) (le16 flags) l refl h,
      overwrite_next 0 4 to_number (le32 number) l refl h,
      overwrite_next 0 8 to_left (le32 left) l refl h,
      overwrite_next 0 12 to_right (le32 right) l refl h,
      overwrite_next 0 16 to_count (le16 count) l refl h,
      overwrite_next 0 18 (to_count ++ le16 count) (le16 site) l refl h,
    ))

-- each field of the header is the number that says it
pub header_written : (s : declared.Station) (b : Bag) (l : List ℕ) {f left right n : ℕ} {x : List ℕ} → f ≡ flags s.marks → left ≡ neighbour_number s.left
    → right ≡ neighbour_number s.right → Sized b n
    → x ≡ overwrite 0 (le16 1 ++ (le16 f ++ (le32 s.number ++ (le32 left ++ (le32 right ++ (le16 n ++ le16 s.marks.site)))))) l
    → x ≡ overwrite 0 (header (record { station = s; bag = held b })) l
unfolding header
header_written s b l f left right n x =
    x ∙ (λ i. overwrite 0 (le16 1 ++ (le16 (f i) ++ (le32 s.number ++ (le32 (left i) ++ (le32 (right i) ++ (le16 (n.is i) ++ le16 s.marks.site)))))) l)

-- a place is 8 bytes, and the places stand one after the other
pub length_places_bytes : (ms : List Message) → length (places_bytes ms) ≡ 8 * length ms
unfolding places_bytes place_bytes
length_places_bytes = joined_size place_bytes places_bytes refl (λ m l. refl) 8 (λ m. refl)

pub places_append : (a b : List Message) → places_bytes (a ++ b) ≡ places_bytes a ++ places_bytes b
unfolding places_bytes
places_append = joined_append place_bytes places_bytes refl (λ m l. refl)

pub places_split : (l : List Message) (k : ℕ) (d : Message) → k < length l → places_bytes l ≡ places_bytes (take k l) ++ (place_bytes (get_or l k d) ++ places_bytes (drop (suc k) l))
unfolding places_bytes
places_split = joined_split place_bytes places_bytes refl (λ m l. refl)

-- the room keeps its length
length_overwrite : (i : ℕ) (vs l : List ℕ) → i + length vs ≤ length l → length (overwrite i vs l) ≡ length l
unfolding overwrite
length_overwrite i vs l h =
    let rest = drop (i + length vs) l in
    length-append (take i l) (vs ++ rest) ∙ omega (arith, length-append vs rest, length-take-le i l (omega arith), length-drop (i + length vs) l)

-- the places of the first i messages are written over all
pub record PlacedTo (all : List ℕ) (ms : List Message) (l : List ℕ) (i : ℕ) : Type 0 where
  pub within : i ≤ length ms
  pub few : length ms ≤ 32
  pub size : length all ≡ 512
  pub same : length l ≡ 512
  pub is : l ≡ overwrite 20 (places_bytes (take i ms)) all

pub placed_none : {all : List ℕ} {ms : List Message} → length ms ≤ 32 → length all ≡ 512 → PlacedTo all ms all 0
unfolding places_bytes
placed_none {all} f e = record { within = omega arith; few = f; size = e; same = e; is = sym (overwrite_none 20 all) }

module _ {all l : List ℕ} {i : ℕ} {ms : List Message} (so_far : PlacedTo all ms l i) where
  -- one more
  pub placed_next : i < length ms → (d : Message) {x : List ℕ} → x ≡ overwrite (20 + 8 * i) (place_bytes (get_or ms i d)) l → PlacedTo all ms x (i + 1)
  unfolding places_bytes place_bytes
  placed_next h d {x} e =
      let f = so_far.few in
      let z = so_far.size in
      let r = so_far.same in
      let at : 20 + 8 * i ≡ 20 + length (places_bytes (take i ms)) = omega (arith, length_places_bytes (take i ms), length-take-le i ms (omega arith)) in
      record {
        within = omega arith;
        few = f;
        size = z;
        same = ap length e ∙ length_overwrite (20 + 8 * i) (place_bytes (get_or ms i d)) l (omega arith) ∙ r;
        is =
            e
            ∙ rw (so_far.is, add-one i, take-suc ms i d (omega arith), places_append (take i ms) (get_or ms i d ∷ []), append-nil)
            (overwrite_next 20 (20 + 8 * i) (places_bytes (take i ms)) (place_bytes (get_or ms i d)) all at (omega arith));
      }

pub length_header : (s : Node) → length (header s) ≡ 20
unfolding header
length_header s = refl

-- bytes 276 to 509 and the places from the count on
unfoldable pub rest_zeros : Node → List ℕ
rest_zeros s = replicate (490 - 8 * length s.bag) 0

-- bytes 0 to 509
unfoldable pub body : Node → List ℕ
body s = header s ++ (places_bytes s.bag ++ rest_zeros s)

pub encoded : (s : Node) → encode s ≡ body s ++ le16 (65535 - sum_words (body s) % 65536)
unfolding encode with_check body rest_zeros
encoded s = refl

-- the check word's two bytes before it is written
zero_sum : sum_words (0 ∷ 0 ∷ []) ≡ 0
unfolding sum_words
zero_sum = refl

module _ (s : Node) (small : length s.bag ≤ 32) where
  pub length_body : length (body s) ≡ 510
  unfolding body rest_zeros
  length_body =
      let ps = places_bytes s.bag in
      let zs = rest_zeros s in
      omega (arith, length-append (header s) (ps ++ zs), length-append ps zs, length-replicate {A = ℕ} (490 - 8 * length s.bag) 0, length_places_bytes s.bag, length_header s)

  -- the header and the places written over zeros
  unsealed : (m : ℕ) → m ≡ 512 → overwrite 20 (places_bytes s.bag) (overwrite 0 (header s) (replicate m 0)) ≡ body s ++ (0 ∷ 0 ∷ [])
  unfolding body rest_zeros
  unsealed m e =
      let n = length s.bag in
      let ps = places_bytes s.bag in
      let left : m - 20 - length ps ≡ 490 - 8 * n + 2 = omega (arith, length_places_bytes s.bag) in
      rw (
        overwrite_at 0 (header s) [] (replicate m 0) refl,
        length_header s,
        overwrite_at 20 ps (header s) (drop 20 (replicate m 0)) (length_header s),
        drop-replicate {A = ℕ} 20 m 0,
        drop-replicate {A = ℕ} (length ps) (m - 20) 0,
        left,
        ← replicate-append-replicate {A = ℕ} (490 - 8 * n) 2 0,
      )
      (simp append_assoc)

  sealed : (m : ℕ) → m ≡ 512 → (d : List ℕ) → d ≡ overwrite 20 (places_bytes s.bag) (overwrite 0 (header s) (replicate m 0))
      → overwrite 510 (le16 (65535 - sum_words d % 65536)) d ≡ encode s
  sealed m e d p =
      let sum : sum_words (body s ++ (0 ∷ 0 ∷ [])) ≡ sum_words (body s) = omega (arith, sum_append (body s) (0 ∷ 0 ∷ []) 255 length_body, zero_sum) in
      rw (p, unsealed m e, sum, encoded s) (overwrite_at 510 _ (body s) (0 ∷ 0 ∷ []) length_body)

-- the four parts of a block
pub block_written : (s : declared.Station) (b : Bag) (l : List ℕ) {w x y z : List ℕ} → length l ≡ 512 → length b.messages ≡ 32 → w ≡ replicate (length l) 0
    → x ≡ overwrite 0 (header (record { station = s; bag = held b })) w → y ≡ overwrite 20 (places_bytes (held b)) x
    → z ≡ overwrite 510 (le16 (65535 - sum_words y % 65536)) y → z ≡ encode (record { station = s; bag = held b })
block_written s b l {w} {x} {y} {z} e h p q r t =
    let node : Node = record { station = s; bag = held b } in
    t ∙ sealed node (held_room b h) (length l) e y (r ∙ ap (overwrite 20 (places_bytes (held b))) (q ∙ ap (overwrite 0 (header node)) p))
