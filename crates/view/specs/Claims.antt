-- What is proved of the view (the proofs are in proofs/Walks.antt, under the same names in snake case).
use Rattle.std.specs.Prelude.{ℕ, ◌+◌, ◌/◌, ◌≡◌, ◌≢◌, true, List, [], ◌++◌, length, take, drop, replicate}
use Rattle.table.specs.Blocks.{blocks}
use Rattle.table.specs.Fault.{fault_of}
use Rattle.std.specs.Borrow.{Bor}
use Rattle.view.specs.View.{shown, block_or_end, viewed, Opens, walked}
use Rattle.view.specs.declared.View.{View}

-- A view of an accepted table gives its blocks in stored order, then the end, and the end again however often it is asked. `Opens` and, in
-- `walked`, `block_or_end` and `moved` are what the contracts of `open_view`, `current` and `advance` say.
abbrev pub AcceptedWalked : Type 0
AcceptedWalked = (s : Bor (List ℕ)) (v : View) (n : ℕ) → Opens s v → fault_of s.now ≡ 0 → walked v (length s.now / 512 + n) ≡ blocks s.now ++ replicate n []

-- A view of any other table gives no block however often it is asked.
abbrev pub RefusedWalked : Type 0
RefusedWalked = (s : Bor (List ℕ)) (v : View) (n : ℕ) → Opens s v → fault_of s.now ≢ 0 → walked v n ≡ replicate n []

-- Where the numbers tell of a block, the 512 bytes at the offset are the block that the view gives.
abbrev pub OffsetLeads : Type 0
OffsetLeads = (t : List ℕ) (p : ℕ) → (viewed t p).found ≡ true → take 512 (drop (viewed t p).offset t) ≡ block_or_end (shown t) p
