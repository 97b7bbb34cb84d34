-- A block without a fault is rewritten to the same bytes.
use mathlib.Core.Path.{◌≡◌, refl, sym, ap, ◌∙◌}
use Rattle.std.specs.Prelude.{Some, None}
use mathlib.Core.Bool.{Bool, true, false, cond}
use mathlib.Core.List.{List, [], ◌∷◌, ◌++◌, append_assoc, append-nil}
use Prim.Native.Nat.{ℕ, zero, suc, ◌+◌, ◌-◌, ◌*◌, ◌%◌, ◌≤◌, ◌<◌}
use native.Mathlib.Omega.{arith}
use borrow.Author.Tests.{eqb-true}
use lib.Dec.{eqb}
use lib.ListN.{length, drop, replicate, replicate-append-replicate, drop_of_length-le}
use Rattle.line.specs.declared.Message.{Message}
use Rattle.line.specs.Node.{Node}
use Rattle.line.proofs.MarkWords.{flags_same}
use Rattle.octets.specs.Bytes.{word, quad, le16, le32, sum_words, AreBytes}
use Rattle.octets.proofs.Both.{and_left, and_right}
use Rattle.octets.proofs.Endian.{word_read, quad_read}
use Rattle.octets.proofs.Sums.{sum_append, sum_step, sum_end}
use Rattle.octets.proofs.Zeros.{zeros_read}
use Rattle.block.specs.Layout.{check_holds, place_at, places_hold, messages, station_of, node_of, fault_of}
use Rattle.fields.specs.Fields.{is_good, message_of, neighbour_of}
use Rattle.fields.proofs.Contents.{Says, place_says}
use Rattle.writing.specs.Encoding.{neighbour_number, place_bytes, places_bytes, header}
use Rattle.writing.specs.Claims.{RewrittenSame}
use Rattle.block.proofs.FieldLaws.{no_fault, FieldFacts, field_facts}
use Rattle.block.proofs.PlaceLaws.{length_messages}
use Rattle.writing.proofs.WritingLaws.{places_append, rest_zeros, body, encoded, length_body}

-- The number that says a neighbour, back to itself.
neighbour_same : (n : ℕ) → neighbour_number (neighbour_of n) ≡ n
unfolding neighbour_of
neighbour_same n = go (eqb n 0) refl
  where
    go : (t : Bool) → eqb n 0 ≡ t → neighbour_number (cond (eqb n 0) None (Some n)) ≡ n
    go true e = rw e (sym (eqb-true n 0 e))
    go false e = rw e

-- A good place says its bytes.
said_bytes : (k gap n : ℕ) (m : Message) → Says k gap n m → place_bytes m ≡ le16 k ++ (le16 gap ++ le32 n)
unfolding place_bytes
said_bytes k gap n m t = rw (t.kind_is, t.gap_is, t.number_is)

module _ (b : List ℕ) (len : length b ≡ 512) (bytes : AreBytes b) where
  -- place i, then the bytes behind it
  place_read : (i : ℕ) → i < 32 → is_good (place_at b i) ≡ true → place_bytes (message_of (place_at b i)) ++ drop (28 + 8 * i) b ≡ drop (20 + 8 * i) b
  unfolding place_at
  place_read i h good =
      let at = 20 + 8 * i in
      let gap : 22 + 8 * i ≡ at + 2 = omega arith in
      let number : 24 + 8 * i ≡ at + 2 + 2 = omega arith in
      let end : 28 + 8 * i ≡ at + 2 + 2 + 4 = omega arith in
      let t = said_bytes (word b at) (word b (22 + 8 * i)) (quad b (24 + 8 * i)) _ (place_says (word b at) (word b (22 + 8 * i)) (quad b (24 + 8 * i)) good) in
      rw (t, gap, number, end)
      (rw (quad_read b (at + 2 + 2) (omega arith) bytes, word_read b (at + 2) (omega arith) bytes) (word_read b at (omega arith) bytes))

  places_read : (n : ℕ) → n ≤ 32 → places_hold b n ≡ true → places_bytes (messages b n) ++ drop (20 + 8 * n) b ≡ drop 20 b
  unfolding places_hold messages places_bytes
  places_read zero h good = refl
  places_read (suc n) h good =
      let m = message_of (place_at b n) in
      let next : 20 + 8 * suc n ≡ 28 + 8 * n = omega arith in
      rw (
        places_append (messages b n) (m ∷ []),
        append-nil,
        append_assoc (places_bytes (messages b n)) (place_bytes m) (drop (20 + 8 * suc n) b),
        next,
        place_read n h (and_right (places_hold b n) (is_good (place_at b n)) good),
      )
      (places_read n (omega arith) (and_left (places_hold b n) (is_good (place_at b n)) good))

  module _ (clean : fault_of b ≡ 0) where
    facts : FieldFacts b
    facts = field_facts b (no_fault b clean).1

    abbrev n : ℕ
    n = word b 16

    abbrev s : Node
    s = node_of b

    header_bytes : header s ≡ le16 (word b 0) ++ (le16 (word b 2) ++ (le32 (quad b 4) ++ (le32 (quad b 8) ++ (le32 (quad b 12) ++ (le16 (word b 16) ++ le16 (word b 18))))))
    unfolding header node_of station_of
    header_bytes =
        λ i. le16 (sym facts.layout i)
        ++ (le16 (flags_same (word b 2) (word b 18) facts.flag i)
        ++ (le32 (quad b 4)
        ++ (le32 (neighbour_same (quad b 8) i)
        ++ (le32 (neighbour_same (quad b 12) i) ++ (le16 (length_messages b n i) ++ le16 (word b 18))))))

    header_read : header s ++ drop 20 b ≡ b
    header_read =
        rw header_bytes
        (rw (word_read b 18 (omega arith) bytes, word_read b 16 (omega arith) bytes, quad_read b 12 (omega arith) bytes, quad_read b 8 (omega arith) bytes, quad_read b 4 (omega arith) bytes, word_read b 2 (omega arith) bytes)
        (word_read b 0 (omega arith) bytes))

    zeros_rewritten : rest_zeros s ++ drop 510 b ≡ drop (20 + 8 * n) b
    unfolding rest_zeros node_of
    zeros_rewritten =
        let small = facts.count in
        let k : 490 - 8 * n ≡ 276 - (20 + 8 * n) + 234 = omega arith in
        rw (
          length_messages b n,
          k,
          ← replicate-append-replicate {A = ℕ} (276 - (20 + 8 * n)) 234 0,
          append_assoc (replicate (276 - (20 + 8 * n)) 0) (replicate 234 0) (drop 510 b),
          zeros_read b 276 510 (omega arith) (omega arith) facts.filler,
        )
        (zeros_read b (20 + 8 * n) 276 (omega arith) (omega arith) facts.unused)

    body_read : body s ++ drop 510 b ≡ b
    unfolding body node_of
    body_read =
        let ps = places_bytes (messages b n) in
        rw (append_assoc (header s) (ps ++ rest_zeros s) (drop 510 b), append_assoc ps (rest_zeros s) (drop 510 b), zeros_rewritten, places_read n facts.count facts.places)
        header_read

    check_word : word b 510 ≡ 65535 - sum_words (body s) % 65536
    unfolding check_holds node_of
    check_word =
        let small : length s.bag ≤ 32 = omega (arith, length_messages b n, facts.count) in
        let low = bytes 510 in
        let high = bytes 511 in
        let sum = eqb-true (sum_words b % 65536) 65535 (no_fault b clean).0 in
        let whole : sum_words b ≡ sum_words (body s) + sum_words (drop 510 b) = rw body_read at (sum_append (body s) (drop 510 b) 255 (length_body s small)) in
        omega (arith, sum_step b 510 (omega arith), sum_end b 512 (omega arith))

pub rewritten_same : RewrittenSame
rewritten_same b len bytes clean =
    let end : drop 512 b ≡ [] = drop_of_length-le b {i = 512} (omega arith) in
    let last : le16 (word b 510) ≡ drop 510 b = rw end at (word_read b 510 (omega arith) bytes) in
    encoded (node_of b)
    ∙ ap (λ (x : ℕ). body (node_of b) ++ le16 x) (sym (check_word b len bytes clean))
    ∙ ap (λ (l : List ℕ). body (node_of b) ++ l) last
    ∙ body_read b len bytes clean
