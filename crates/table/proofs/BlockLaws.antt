-- The blocks of a table one by one: block k is the bytes from 512 k on, and the blocks from k on are block k and those behind it.
use mathlib.Core.Path.{◌≡◌, refl, sym, ap, ◌∙◌}
use mathlib.Core.List.Memᴰ
use mathlib.Core.List.{List, [], ◌∷◌, ◌++◌, map, Memᴰ as Member}
use Prim.Native.Nat.{ℕ, zero, suc, ◌+◌, ◌-◌, ◌*◌, ◌/◌, ◌≤◌, ◌<◌}
use native.Mathlib.Omega.{arith}
use lib.ListN.{length, get_or, take, drop, length-append, length-map, length-drop, drop_of_length-le, get_or-map}
use lib.Seq.{length-take-le, take_at, drop-append-add, drop-drop, get_or-take, get_or-drop}
use Rattle.std.specs.Simd.{first_chunks}
use Rattle.octets.specs.Bytes.{quad}
use Rattle.lists.proofs.Elements.{drop_one, member_at, range_at, range_length, range_shifted}
use Rattle.block.specs.Layout.{node_of}
use Rattle.lists.specs.Places.{range}
use Rattle.table.specs.Blocks.{block_at, blocks, nodes}

module _ (t : List ℕ) where
  pub blocks_length : length (blocks t) ≡ length t / 512
  unfolding blocks
  blocks_length = length-map (range 0 (length t / 512)) (block_at t) ∙ range_length 0 (length t / 512)

  pub nodes_length : length (nodes t) ≡ length t / 512
  unfolding nodes
  nodes_length = length-map (blocks t) node_of ∙ blocks_length

module _ (t : List ℕ) (k : ℕ) (h : k < length t / 512) where
  pub block_at_lem : get_or (blocks t) k (block_at t 0) ≡ block_at t k
  unfolding blocks
  block_at_lem =
      let e : get_or (range 0 (length t / 512)) k 0 ≡ k = omega (arith, range_at 0 (length t / 512) k h) in
      get_or-map (block_at t) (range 0 (length t / 512)) k 0 ∙ ap (block_at t) e

  pub blocks_from : drop k (blocks t) ≡ block_at t k ∷ drop (k + 1) (blocks t)
  blocks_from = drop_one (blocks t) (block_at t 0) k (omega (arith, blocks_length t)) ∙ ap (λ (b : List ℕ). b ∷ drop (k + 1) (blocks t)) block_at_lem

  pub block_member : Member (block_at t k) (blocks t)
  block_member = Memᴰ.cast (sym block_at_lem) (member_at (blocks t) k (block_at t 0) (omega (arith, blocks_length t)))

  pub block_length : length (block_at t k) ≡ 512
  unfolding block_at
  block_length = length-take-le 512 (drop (512 * k) t) (omega (arith, length-drop (512 * k) t))

pub blocks_end : (t : List ℕ) (k : ℕ) → length t / 512 ≤ k → drop k (blocks t) ≡ []
blocks_end t k h = drop_of_length-le (blocks t) {i = k} (omega (arith, blocks_length t))

-- a block as it is lent
pub lent : (t : List ℕ) (k : ℕ) → take (512 * k + 512 - 512 * k) (drop (512 * k) t) ≡ block_at t k
unfolding block_at
lent t k = let e : 512 * k + 512 - 512 * k ≡ 512 = omega arith in rw e

-- a number of the block, read where it lies in the table
module _ (t : List ℕ) (k : ℕ) where
  block_byte : (j n : ℕ) → j < 512 → n ≡ 512 * k + j → get_or (block_at t k) j 0 ≡ get_or t n 0
  unfolding block_at
  block_byte j n h e = get_or-take 512 (drop (512 * k) t) j 0 h ∙ get_or-drop (512 * k) t j 0 ∙ ap (λ (m : ℕ). get_or t m 0) (sym e)

  pub block_quad : (j : ℕ) → j + 4 ≤ 512 → quad t (512 * k + j) ≡ quad (block_at t k) j
  block_quad j h =
      let i = 512 * k + j in
      omega
      (arith, block_byte j i (omega arith) refl, block_byte (j + 1) (i + 1) (omega arith) (omega arith), block_byte (j + 2) (i + 2) (omega arith) (omega arith), block_byte (j + 2 + 1) (i + 2 + 1) (omega arith) (omega arith))

-- No bytes, no blocks.
pub blocks_none : blocks [] ≡ []
unfolding blocks range
blocks_none = refl

-- A block in front of a table: its blocks are that block and the blocks of the rest.
module _ (b t : List ℕ) (h : length b ≡ 512) where
  block_first : block_at (b ++ t) 0 ≡ b
  unfolding block_at
  block_first = take_at b t 512 h

  block_next : (k : ℕ) → block_at (b ++ t) (suc k) ≡ block_at t k
  unfolding block_at
  block_next k =
      let e : 512 * suc k ≡ length b + 512 * k = omega arith in
      rw (e, drop-append-add)

  pub blocks_cons : blocks (b ++ t) ≡ b ∷ blocks t
  unfolding blocks range
  blocks_cons =
      let n : length (b ++ t) / 512 ≡ suc (length t / 512) = omega (arith, length-append b t) in
      rw (n, block_first, range_shifted (block_at (b ++ t)) (block_at t) block_next 0 (length t / 512))

-- The blocks as `as_chunks` gives them.
chunks_shown : (t : List ℕ) (n : ℕ) → first_chunks 512 n t ≡ map (block_at t) (range 0 n)
unfolding block_at range
chunks_shown t zero = refl
chunks_shown t (suc n) =
    let behind = λ (k : ℕ). let e : 512 * suc k ≡ 512 + 512 * k = omega arith in ap (take 512) (ap (λ (m : ℕ). drop m t) e ∙ sym (drop-drop (512 * k) 512 t)) in
    ap (λ (l : List (List ℕ)). take 512 t ∷ l) (chunks_shown (drop 512 t) n ∙ sym (range_shifted (block_at t) (block_at (drop 512 t)) behind 0 n))

pub blocks_given : (t : List ℕ) → first_chunks 512 (length t / 512) t ≡ blocks t
unfolding blocks
blocks_given t = chunks_shown t (length t / 512)
