-- The view (document 01, "The block"): "A console view holds the caller's table and walks it block by block without a copy".
use Rattle.std.specs.Prelude.{ℕ, zero, suc, ◌+◌, ◌*◌, ◌/◌, Bool, cond, List, [], ◌∷◌, eqb, ltb, length, ◌≡◌}
use Rattle.table.specs.Blocks.{block_at}
use Rattle.table.specs.Fault.{fault_of}
use Rattle.std.specs.Borrow.{Bor}
use Rattle.view.specs.declared.Looked.{Looked}
use Rattle.view.specs.declared.View.{View}

-- what an answer leaves of a table for a view: all of it at 0, else nothing
abbrev pub shown_at : ℕ → List ℕ → List ℕ
shown_at answer t = cond (eqb answer 0) t []

-- "Over a table that isn't accepted it gives the check's number and no block": the bytes that a view of a table holds
unfoldable pub shown : List ℕ → List ℕ
shown t = shown_at (fault_of t) t

-- whether bytes have a block at a position, counted in blocks
unfoldable pub has_block : List ℕ → ℕ → Bool
has_block t p = ltb p (length t / 512)

-- "else the blocks in stored order, each being those 512 bytes of the caller's table, then the end": the block, or no bytes at the end
unfoldable pub block_or_end : List ℕ → ℕ → List ℕ
block_or_end t p = cond (has_block t p) (block_at t p) []

-- where it lies, counted from the table's first byte; 0 at the end
unfoldable pub block_offset : List ℕ → ℕ → ℕ
block_offset t p = cond (has_block t p) (512 * p) 0

-- the place in memory that lies n bytes behind another: what is lent from a table is the table's own bytes, and no copy of them
abbrev pub address_past : ℕ × ℕ → ℕ → ℕ × ℕ
address_past place n = (place.0, n + place.1)

-- the position after it; the end stays the end
unfoldable pub next_position : List ℕ → ℕ → ℕ
next_position t p = cond (has_block t p) (p + 1) p

-- a view as it is opened of a caller's bytes: the check's number, what it shows of them and where these lie, and the first position
abbrev pub Opens : Bor (List ℕ) → View → Type 0
Opens s v = (v.answer ≡ fault_of s.now) × (v.table.now ≡ shown s.now) × (v.table.ref_ptr ≡ s.ref_ptr) × (v.position ≡ 0)

-- a view moved on by one block: the number and what it shows stay
abbrev pub moved : View → View
moved v = record { answer = v.answer; table = v.table; position = next_position v.table.now v.position }

-- all of it in numbers, of any bytes: the check's number, whether there is a block, where it lies in the table, the next position
unfoldable pub viewed : List ℕ → ℕ → Looked
viewed t p =
    record { answer = fault_of t; found = has_block (shown t) p; offset = block_offset (shown t) p; next = next_position (shown t) p }

-- what a view gives that is asked n times, and moved on after each time
unfoldable pub walked : View → ℕ → List (List ℕ)
walked v zero = []
walked v (suc n) = block_or_end v.table.now v.position ∷ walked (moved v) n
