-- What is written is accepted and read back as it was.
use mathlib.Core.Path.{◌≡◌, refl, ap, ◌∙◌, subst}
use Rattle.std.specs.Prelude.{Some, None}
use Rattle.line.specs.Types.{Neighbour}
use mathlib.Core.Bool.{true}
use mathlib.Core.List.{List, ◌++◌, append_assoc, Memᴰ}
use Prim.Native.Nat.{ℕ, zero, suc, ◌+◌, ◌-◌, ◌*◌, ◌%◌, ◌≤◌, ◌<◌}
use native.Mathlib.Omega.{arith}
use borrow.Author.Tests.{eq-eqb, ne_eqb, le-leb}
use lib.ListN.{length, get_or, take, drop, length-append}
use lib.Seq.{take-suc, length-take-le, take-length}
use Rattle.line.specs.declared.Side.TheVariants.{Left, Right}
use Rattle.line.specs.declared.Content.{Content}
use Rattle.line.specs.declared.Content.TheVariants.{Introduction}
use Rattle.line.specs.declared.Message.{Message}
use Rattle.line.specs.Message.{kind, carried, introduction}
use Rattle.line.specs.Node.{Node, site}
use Rattle.line.proofs.AcceptedTest.{in_range_lem}
use Rattle.line.specs.Marks.{flags, marks_from}
use Rattle.line.proofs.MarkWords.{flags_low, site_low, flags_hold_lem, site_hold, marks_back}
use Rattle.lists.proofs.Elements.{member_at}
use Rattle.octets.specs.Bytes.{word, quad, le16, le32, sum_words, part, all_zero}
use Rattle.octets.proofs.Endian.{word_written, quad_written}
use Rattle.octets.proofs.Sums.{sum_append}
use Rattle.octets.proofs.Zeros.{zeros_written}
use Rattle.block.specs.Layout.{check_holds, place_at, places_hold, messages, header_holds, rest_holds, fields_hold, station_of, node_of, fault_of}
use Rattle.fields.specs.Fields.{message_of, neighbour_of}
use Rattle.fields.proofs.Contents.{Introduces, content_back, kind_low, carried_low}
use Rattle.writing.specs.Encoding.{neighbour_number, place_bytes, places_bytes, header, encode}
use Rattle.writing.specs.Claims.{Ranged, Writable, WrittenLength, WrittenReadsBack}
use Rattle.writing.proofs.WritingLaws.{length_places_bytes, places_split, length_header, rest_zeros, body, encoded, length_body}

-- A neighbour, to the number that says it, and back.
neighbour_back : (n : Neighbour) → ((q : ℕ) → n ≡ Some q → Ranged q) → neighbour_of (neighbour_number n) ≡ n
unfolding neighbour_of
neighbour_back None h = refl
neighbour_back (Some q) h = let r = h q refl in rw (ne_eqb q 0 (λ (e : q ≡ 0). omega arith))

neighbour_low : (n : Neighbour) → ((q : ℕ) → n ≡ Some q → Ranged q) → neighbour_number n ≤ 999999
neighbour_low None h = omega arith
neighbour_low (Some q) h = (h q refl).1

-- A message place between any bytes.
place_back : (p s : List ℕ) (m : Message) (i : ℕ) → length p ≡ 20 + 8 * i → ((q : ℕ) → m.content ≡ Introduction q → Ranged q)
    → place_at (p ++ (place_bytes m ++ s)) i ≡ Some m
unfolding place_at place_bytes
place_back p s m i e h =
    let k = kind m.content in
    let n = carried m.content in
    let ranged : Introduces m.content = λ q j. (in_range_lem q).1 (h q j) in
    let number = le32 n ++ s in
    let gap = le16 0 ++ number in
    let a : word (p ++ (le16 k ++ gap)) (20 + 8 * i) ≡ k = word_written k (20 + 8 * i) p gap e (kind_low m.content) in
    let b : word (p ++ (le16 k ++ gap)) (22 + 8 * i) ≡ 0 =
    rw (append_assoc p (le16 k) gap) at (word_written 0 (22 + 8 * i) (p ++ le16 k) number (omega (arith, length-append p (le16 k))) (omega arith)) in
    let c : quad (p ++ (le16 k ++ gap)) (24 + 8 * i) ≡ n =
    rw (append_assoc p (le16 k ++ le16 0) number) at
    (quad_written n (24 + 8 * i) (p ++ (le16 k ++ le16 0)) s (omega (arith, length-append p (le16 k ++ le16 0))) (carried_low m.content ranged)) in
    rw (a, b, c) (content_back m.content ranged)

-- The places behind 20 bytes.
module _ (p s : List ℕ) (ms : List Message) (e : length p ≡ 20) (h : (q : ℕ) → Memᴰ (introduction q) ms → Ranged q) where
  places_back : (d : Message) (k : ℕ) → k < length ms → place_at (p ++ (places_bytes ms ++ s)) k ≡ Some (get_or ms k d)
  unfolding places_bytes
  places_back d k l =
      let m = get_or ms k d in
      let before = places_bytes (take k ms) in
      let after = places_bytes (drop (suc k) ms) in
      let split : places_bytes ms ≡ before ++ (place_bytes m ++ after) = places_split ms k d l in
      let n : length (p ++ before) ≡ 20 + 8 * k = omega (arith, length-append p before, length_places_bytes (take k ms), length-take-le k ms (omega arith)) in
      let r : (q : ℕ) → m.content ≡ Introduction q → Ranged q =
      λ q i. h q (subst (λ (t : Content). Memᴰ (record { content = t }) ms) i (member_at ms k d l)) in
      rw (split, append_assoc before (place_bytes m ++ after) s, append_assoc (place_bytes m) after s, ← append_assoc p before (place_bytes m ++ (after ++ s)))
      (place_back (p ++ before) (after ++ s) m k n r)

  good_back : (k : ℕ) → k ≤ length ms → places_hold (p ++ (places_bytes ms ++ s)) k ≡ true
  unfolding places_hold
  good_back zero l = refl
  good_back (suc k) l = rw (places_back (message_of None) k l, good_back k (omega arith))

  messages_back : (k : ℕ) → k ≤ length ms → messages (p ++ (places_bytes ms ++ s)) k ≡ take k ms
  unfolding messages
  messages_back zero l = refl
  messages_back (suc k) l = rw (places_back (message_of None) k l, messages_back k (omega arith), take-suc ms k (message_of None) l)

-- The fields of the header, whatever follows it.
module _ (s : Node) (w : Writable s) (rest : List ℕ) where
  left_in : (q : ℕ) → s.station.left ≡ Some q → Ranged q
  left_in = w.neighbours Left

  right_in : (q : ℕ) → s.station.right ≡ Some q → Ranged q
  right_in = w.neighbours Right

  count_bytes : List ℕ
  count_bytes = le16 (length s.bag) ++ (le16 (site s) ++ rest)

  right_bytes : List ℕ
  right_bytes = le32 (neighbour_number s.station.right) ++ count_bytes

  left_bytes : List ℕ
  left_bytes = le32 (neighbour_number s.station.left) ++ right_bytes

  number_bytes : List ℕ
  number_bytes = le32 s.station.number ++ left_bytes

  abbrev front : List ℕ
  front = le16 1 ++ le16 (flags s.station.marks)

  abbrev to_left : List ℕ
  to_left = front ++ le32 s.station.number

  abbrev to_right : List ℕ
  to_right = to_left ++ le32 (neighbour_number s.station.left)

  abbrev to_count : List ℕ
  to_count = to_right ++ le32 (neighbour_number s.station.right)

  layout_back : word (header s ++ rest) 0 ≡ 1
  unfolding header
  layout_back = refl

  flags_back : word (header s ++ rest) 2 ≡ flags s.station.marks
  unfolding header count_bytes right_bytes left_bytes number_bytes
  flags_back = word_written (flags s.station.marks) 2 (le16 1) number_bytes refl (omega (arith, flags_low (flags s.station.marks) (flags_hold_lem s.station.marks w.marked)))

  number_back : quad (header s ++ rest) 4 ≡ s.station.number
  unfolding header count_bytes right_bytes left_bytes
  number_back = let r = w.numbered in quad_written s.station.number 4 front left_bytes refl (omega arith)

  left_back : quad (header s ++ rest) 8 ≡ neighbour_number s.station.left
  unfolding header count_bytes right_bytes
  left_back = quad_written (neighbour_number s.station.left) 8 to_left right_bytes refl (omega (arith, neighbour_low s.station.left left_in))

  right_back : quad (header s ++ rest) 12 ≡ neighbour_number s.station.right
  unfolding header count_bytes
  right_back = quad_written (neighbour_number s.station.right) 12 to_right count_bytes refl (omega (arith, neighbour_low s.station.right right_in))

  count_back : word (header s ++ rest) 16 ≡ length s.bag
  unfolding header
  count_back = let r = w.small in word_written (length s.bag) 16 to_count (le16 (site s) ++ rest) refl (omega arith)

  site_back : word (header s ++ rest) 18 ≡ site s
  unfolding header
  site_back = word_written (site s) 18 (to_count ++ le16 (length s.bag)) rest refl (omega (arith, site_low (site s) (site_hold s.station.marks w.marked)))

  station_back : station_of (header s ++ rest) ≡ s.station
  unfolding station_of
  station_back =
      let words : marks_from (word (header s ++ rest) 2) (word (header s ++ rest) 18) ≡ s.station.marks =
      (λ i. marks_from (flags_back i) (site_back i)) ∙ marks_back s.station.marks in
      rw (number_back, left_back, right_back, words, neighbour_back s.station.left left_in, neighbour_back s.station.right right_in)

-- The whole block.
module _ (s : Node) (w : Writable s) where
  check : List ℕ
  check = le16 (65535 - sum_words (body s) % 65536)

  after : List ℕ
  after = places_bytes s.bag ++ (rest_zeros s ++ check)

  parts : encode s ≡ header s ++ after
  unfolding body check after
  parts = encoded s ∙ simp append_assoc

  check_holds_lem : check_holds (encode s) ≡ true
  unfolding check_holds sum_words
  check_holds_lem =
      let q = 65535 - sum_words (body s) % 65536 in
      let n = length_body s w.small in
      eq-eqb (sum_words (encode s) % 65536) 65535 (rw (encoded s) (omega (arith, sum_append (body s) (le16 q) 255 n)))

  zeros_back : (i e : ℕ) → 20 + 8 * length s.bag ≤ i → i ≤ e → e ≤ 510 → all_zero (part (header s ++ after) i e) ≡ true
  unfolding after rest_zeros
  zeros_back i e low mid high =
      let n = length s.bag in
      let ps = places_bytes s.bag in
      let small = w.small in
      let l : length (header s ++ ps) ≡ 20 + 8 * n = omega (arith, length-append (header s) ps, length_places_bytes s.bag, length_header s) in
      rw (← append_assoc (header s) ps (rest_zeros s ++ check)) (zeros_written (header s ++ ps) check (490 - 8 * n) i e (omega arith) mid (omega arith))

  fields_back : fields_hold (header s ++ after) ≡ true
  unfolding after fields_hold header_holds rest_holds
  fields_back =
      let n = length s.bag in
      let small = w.small in
      rw (
        layout_back s w after,
        flags_back s w after,
        number_back s w after,
        left_back s w after,
        right_back s w after,
        count_back s w after,
        site_back s w after,
        flags_hold_lem s.station.marks w.marked,
        site_hold s.station.marks w.marked,
        (in_range_lem s.station.number).1 w.numbered,
        le-leb (neighbour_number s.station.left) 999999 (neighbour_low s.station.left (left_in s w after)),
        le-leb (neighbour_number s.station.right) 999999 (neighbour_low s.station.right (right_in s w after)),
        le-leb n 32 w.small,
        good_back (header s) (rest_zeros s ++ check) s.bag (length_header s) w.introduced n (omega arith),
        zeros_back (20 + 8 * n) 276 (omega arith) (omega arith) (omega arith),
        zeros_back 276 510 (omega arith) (omega arith) (omega arith),
      )

  node_back : node_of (header s ++ after) ≡ s
  unfolding node_of after
  node_back =
      rw (station_back s w after, count_back s w after, messages_back (header s) (rest_zeros s ++ check) s.bag (length_header s) w.introduced (length s.bag) (omega arith), take-length s.bag)

  no_fault : fault_of (encode s) ≡ 0
  unfolding fault_of
  no_fault = rw (check_holds_lem, parts, fields_back, node_back, w.sided)

pub written_length : WrittenLength
written_length s small = rw (encoded s) (length-append (body s) (le16 (65535 - sum_words (body s) % 65536)) ∙ ap (λ (n : ℕ). n + 2) (length_body s small))

pub written_reads_back : WrittenReadsBack
written_reads_back s w = (no_fault s w, rw (parts s w) (node_back s w))
