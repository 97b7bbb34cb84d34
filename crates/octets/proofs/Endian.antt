-- Little-endian fields of any width: what is written is read back, and what is read is written back. The 16- and 32-bit fields of
-- document 01 ("The block") are the two widths at the end.
use Rattle.std.proofs.Common.{◌≡◌, ℕ, zero, suc, ◌+◌, ◌*◌, ◌/◌, ◌%◌, ◌^◌, ◌<◌, ◌≤◌, List, [], ◌∷◌, ◌++◌, length, get_or, take, drop, refl, ap, ◌∙◌, div-lt_iff_lt-mul, pow-suc, arith, length-append, take_at, drop_at}
use Rattle.std.specs.Int.{w32, to_le_bytes}
use Rattle.octets.specs.Bytes.{word, quad, le16, le32, AreBytes}
use Rattle.lists.proofs.Elements.{drop_one}

-- x in k bytes, the lowest first, and the number that bytes say
unfoldable little : ℕ → ℕ → List ℕ
little zero x = []
little (suc k) x = x % 256 ∷ little k (x / 256)

unfoldable value : List ℕ → ℕ
value [] = 0
value (x ∷ l) = x + 256 * value l

length_little : (k x : ℕ) → length (little k x) ≡ k
unfolding little
length_little zero x = refl
length_little (suc k) x = ap suc (length_little k (x / 256))

value_little : (k x : ℕ) → x < 256 ^ k → value (little k x) ≡ x
unfolding little value
value_little zero x h = omega arith
value_little (suc k) x h =
    let q : x / 256 < 256 ^ k = (div-lt_iff_lt-mul {k = 256} {x = x} {y = 256 ^ k} (omega arith)).1 (rw (pow-suc 256 k) at h) in
    omega (arith, value_little k (x / 256) q)

-- the field of k bytes at i
unfoldable field : ℕ → List ℕ → ℕ → ℕ
field k b i = value (take k (drop i b))

field_next : (k i : ℕ) (b : List ℕ) → i < length b → field (suc k) b i ≡ get_or b i 0 + 256 * field k b (i + 1)
unfolding field value
field_next k i b h = rw (drop_one b 0 i h)

field_none : (i : ℕ) (b : List ℕ) → field 0 b i ≡ 0
unfolding field value
field_none i b = refl

-- The two laws.
field_written : (k x i : ℕ) (p s : List ℕ) → length p ≡ i → x < 256 ^ k → field k (p ++ (little k x ++ s)) i ≡ x
unfolding field
field_written k x i p s e h = rw (drop_at p (little k x ++ s) i e, take_at (little k x) s k (length_little k x)) (value_little k x h)

field_read : (k i : ℕ) (b : List ℕ) → i + k ≤ length b → AreBytes b → little k (field k b i) ++ drop (i + k) b ≡ drop i b
unfolding little
field_read zero i b h bytes = let e : i + 0 ≡ i = omega arith in rw e
field_read (suc k) i b h bytes =
    let byte = bytes i in
    let below : i < length b = omega arith in
    let rest = field k b (i + 1) in
    let low : (get_or b i 0 + 256 * rest) % 256 ≡ get_or b i 0 = omega arith in
    let high : (get_or b i 0 + 256 * rest) / 256 ≡ rest = omega arith in
    let next : i + suc k ≡ i + 1 + k = omega arith in
    rw (drop_one b 0 i below, field_next k i b below, low, high, next, field_read k (i + 1) b (omega arith) bytes)

-- The two widths.
word_field : (b : List ℕ) (i : ℕ) → i + 2 ≤ length b → word b i ≡ field 2 b i
word_field b i h =
    let low = field_next 1 i b (omega arith) in
    let high = field_next 0 (i + 1) b (omega arith) in
    omega (arith, field_none (i + 1 + 1) b)

quad_field : (b : List ℕ) (i : ℕ) → i + 4 ≤ length b → quad b i ≡ field 4 b i
quad_field b i h =
    let two : i + 1 + 1 ≡ i + 2 = omega arith in
    let low = field_next 3 i b (omega arith) in
    let next = rw two at (field_next 2 (i + 1) b (omega arith)) in
    let high = word_field b (i + 2) (omega arith) in
    omega arith

little_le16 : (x : ℕ) → little 2 x ≡ le16 x
unfolding little
little_le16 x = refl

little_le32 : (x : ℕ) → little 4 x ≡ le32 x
unfolding little
little_le32 x =
    let a : x % 256 ≡ x % 65536 % 256 = omega arith in
    let y : x / 256 ≡ 256 * (x / 65536) + x % 65536 / 256 = omega arith in
    let b : x / 256 % 256 ≡ x % 65536 / 256 % 256 = rw y (omega arith) in
    let c : x / 256 / 256 ≡ x / 65536 = omega arith in
    rw (a, b, c)

-- std's bytes of a number of 32 bits are those that the document's form says
pub bytes_le32 : (x : ℕ) → to_le_bytes w32 x ≡ le32 x
bytes_le32 x =
    let a : x % 65536 % 256 ≡ x % 256 = omega arith in
    let b : x % 65536 / 256 % 256 ≡ x / 256 % 256 = omega arith in
    let c : x / 65536 / 256 % 256 ≡ x / 16777216 % 256 = omega arith in
    rw (a, b, c)

pub word_written : (x i : ℕ) (p s : List ℕ) → length p ≡ i → x < 65536 → word (p ++ (le16 x ++ s)) i ≡ x
word_written x i p s e h = word_field (p ++ (le16 x ++ s)) i (omega (arith, length-append p (le16 x ++ s))) ∙ rw (little_le16 x) at (field_written 2 x i p s e h)

pub quad_written : (x i : ℕ) (p s : List ℕ) → length p ≡ i → x < 4294967296 → quad (p ++ (le32 x ++ s)) i ≡ x
quad_written x i p s e h = quad_field (p ++ (le32 x ++ s)) i (omega (arith, length-append p (le32 x ++ s))) ∙ rw (little_le32 x) at (field_written 4 x i p s e h)

pub word_read : (b : List ℕ) (i : ℕ) → i + 2 ≤ length b → AreBytes b → le16 (word b i) ++ drop (i + 2) b ≡ drop i b
word_read b i h bytes = rw (word_field b i h) (rw (little_le16 (field 2 b i)) at (field_read 2 i b h bytes))

pub quad_read : (b : List ℕ) (i : ℕ) → i + 4 ≤ length b → AreBytes b → le32 (quad b i) ++ drop (i + 4) b ≡ drop i b
quad_read b i h bytes = rw (quad_field b i h) (rw (little_le32 (field 4 b i)) at (field_read 4 i b h bytes))
