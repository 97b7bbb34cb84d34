-- What is proved of the definitions of a block (the proofs are in proofs/, under the same names in snake case).
use Rattle.std.specs.Prelude.{ℕ, ◌≤◌, ◌≡◌, true, List, [], ◌∷◌, ◌++◌, length, take, drop, replicate, Some, None}
use mathlib.Core.List.{Memᴰ as Member}
use Rattle.line.specs.declared.Side.{Side}
use Rattle.line.specs.Message.{introduction, capacity}
use Rattle.line.specs.Marks.{marks_hold}
use Rattle.line.specs.Node.{Node, number, at_site, neighbour}
use Rattle.line.specs.Accepted.{has_sides}
use Rattle.line.specs.Situations.{staying}
use Rattle.octets.specs.Bytes.{sum_words, AreBytes}
use Rattle.block.specs.Layout.{node_of, fault_of}
use Rattle.writing.specs.Encoding.{encode}

-- "1 to 999,999"
abbrev pub Ranged : ℕ → Type 0
Ranged n = (1 ≤ n) × (n ≤ 999999)

-- a node that the layout can say
pub record Writable (s : Node) : Type 0 where
  pub numbered : Ranged (number s)
  pub neighbours : (d : Side) (q : ℕ) → neighbour d s.station ≡ Some q → Ranged q
  pub introduced : (q : ℕ) → Member (introduction q) s.bag → Ranged q
  pub marked : marks_hold s.station.marks ≡ true
  pub small : length s.bag ≤ capacity
  pub sided : has_sides s ≡ true

-- Whatever is written has 512 bytes.
abbrev pub WrittenLength : Type 0
WrittenLength = (s : Node) → length s.bag ≤ capacity → length (encode s) ≡ 512

-- What is written is accepted and read back as it was.
abbrev pub WrittenReadsBack : Type 0
WrittenReadsBack = (s : Node) → Writable s → (fault_of (encode s) ≡ 0) × (node_of (encode s) ≡ s)

-- A block without a fault is rewritten to the same bytes, its messages in stored order.
abbrev pub RewrittenSame : Type 0
RewrittenSame = (b : List ℕ) → length b ≡ 512 → AreBytes b → fault_of b ≡ 0 → encode (node_of b) ≡ b

-- "A block of station 5, staying, left none, right 9, one introduction of 7 has words that sum to 24 without the check, so the check
-- word is 65,511 (bytes E7 FF). An all-zero block fails."
unfoldable pub example_node : Node
example_node = staying 5 None (Some 9) (introduction 7 ∷ [])

unfoldable pub example_block : List ℕ
example_block =
    (1 ∷ 0 ∷ 0 ∷ 0 ∷ 5 ∷ 0 ∷ 0 ∷ 0 ∷ 0 ∷ 0 ∷ 0 ∷ 0 ∷ 9 ∷ 0 ∷ 0 ∷ 0 ∷ 1 ∷ 0 ∷ 0 ∷ 0 ∷ [])
    ++ ((1 ∷ 0 ∷ 0 ∷ 0 ∷ 7 ∷ 0 ∷ 0 ∷ 0 ∷ []) ++ (replicate 482 0 ++ (0xE7 ∷ 0xFF ∷ [])))

pub record CheckExample : Type 0 where
  pub written : encode example_node ≡ example_block
  pub words : sum_words (take 510 example_block) ≡ 24
  pub ending : drop 510 example_block ≡ 0xE7 ∷ 0xFF ∷ []
  pub accepted : fault_of example_block ≡ 0
  pub zeros : fault_of (replicate 512 0) ≡ 3

-- The same block with a site code (document 02, T-05): 1,234 is 0x04D2, its low byte in byte 18 and its high byte in byte 19; the words sum to
-- 1,258 without the check, so the check word is 64,277 (bytes 15 FB). 9,999 is accepted, and 10,000 is refused with 4.
unfoldable pub site_block : List ℕ
site_block =
    (1 ∷ 0 ∷ 0 ∷ 0 ∷ 5 ∷ 0 ∷ 0 ∷ 0 ∷ 0 ∷ 0 ∷ 0 ∷ 0 ∷ 9 ∷ 0 ∷ 0 ∷ 0 ∷ 1 ∷ 0 ∷ 0xD2 ∷ 0x04 ∷ [])
    ++ ((1 ∷ 0 ∷ 0 ∷ 0 ∷ 7 ∷ 0 ∷ 0 ∷ 0 ∷ []) ++ (replicate 482 0 ++ (0x15 ∷ 0xFB ∷ [])))

pub record SiteExample : Type 0 where
  pub written : encode (at_site 1234 example_node) ≡ site_block
  pub read : node_of site_block ≡ at_site 1234 example_node
  pub words : sum_words (take 510 site_block) ≡ 1258
  pub accepted : fault_of site_block ≡ 0
  pub largest : fault_of (encode (at_site 9999 example_node)) ≡ 0
  pub above : fault_of (encode (at_site 10000 example_node)) ≡ 4
