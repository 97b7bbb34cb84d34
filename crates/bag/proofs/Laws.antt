-- What callers may cite: the room in a bag, and that its size says which places count.
use mathlib.Core.Path.{◌≡◌, refl, sym, ◌∙◌}
use mathlib.Core.List.{List, [], ◌∷◌, map}
use Prim.Native.Nat.{ℕ, zero, suc, ◌≤◌, min}
use native.Mathlib.Omega.{arith}
use lib.ListN.{length, length-map, length-take, take}
use Rattle.bag.specs.declared.Bag.{Bag}
use Rattle.bag.specs.Held.{held}

-- owning an array of messages tells the length of its list, but says it of what the machine holds for each: f is that reading
pub length_mapped : (X Y : Type 0) (f : X → Y) (l : List X) (n : ℕ) → length (map f l) ≡ n → length l ≡ n
length_mapped X Y f l n p = sym (length-map l f) ∙ p

pub held_length : (b : Bag) → length b.messages ≡ 32 → length (held b) ≡ min b.count 32
held_length b e = length-take b.count b.messages ∙ rw e

pub held_room : (b : Bag) → length b.messages ≡ 32 → length (held b) ≤ 32
held_room b e = omega (arith, held_length b e)

-- a count past the end takes no more than there is
take_size : {A : Type 0} (n : ℕ) (l : List A) → take (length (take n l)) l ≡ take n l
take_size zero [] = refl
take_size zero (x ∷ l) = refl
take_size (suc n) [] = refl
take_size (suc n) (x ∷ l) = rw (take_size n l)

-- the size says which places are held, as the count does
pub held_size : (b : Bag) (n : ℕ) → n ≡ length (held b) → take n b.messages ≡ held b
held_size b n e = rw e (take_size b.count b.messages)
