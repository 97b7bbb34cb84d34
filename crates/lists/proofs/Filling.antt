-- An array filled from its front with what a function makes of each place.
use Prim.Native.Nat.{ℕ, zero, suc, ◌+◌, ◌-◌, ◌≤◌, ◌<◌}
use mathlib.Core.Path.{◌≡◌, refl, sym, ap, ◌∙◌}
use mathlib.Core.List.{List, [], ◌∷◌, ◌++◌, map, map-append, append_assoc, append-nil}
use native.Mathlib.Numerals.{add-one}
use native.Mathlib.Omega.{arith}
use lib.ListN.{length, get_or, drop, set, replicate, length-map, length-set, drop_of_length-le}
use lib.Seq.{set_at}
use Rattle.lists.specs.Places.{range}
use Rattle.lists.proofs.Elements.{drop_one, range_length, range_more}

-- the first k places of a hold what f makes of them, the others what a₀ held
pub record FilledTo {A : Type 0} (f : ℕ → A) (a₀ : List A) (k : ℕ) (a : List A) : Type 0 where
  pub within : k ≤ length a₀
  pub size : length a ≡ length a₀
  pub is : a ≡ map f (range 0 k) ++ drop k a₀

pub filled_none : {A : Type 0} {f : ℕ → A} {a : List A} → FilledTo f a 0 a
unfolding range
filled_none = record { within = omega arith; size = refl; is = refl }

module _ {A : Type 0} {f : ℕ → A} {a₀ a : List A} {k : ℕ} (so_far : FilledTo f a₀ k a) where
  pub filled_next : k < length a → {x : A} → x ≡ f k → FilledTo f a₀ (k + 1) (set a k x)
  filled_next h {x} e =
      let s = so_far.size in
      let front = map f (range 0 k) in
      let long : length front ≡ k = length-map (range 0 k) f ∙ range_length 0 k in
      let z : 0 + k ≡ k = omega arith in
      let more : map f (range 0 (k + 1)) ≡ front ++ (x ∷ []) = rw (add-one k, range_more 0 k, z, map-append f (range 0 k) (k ∷ []), e) in
      record {
        within = omega arith;
        size = simp length-set s;
        is = rw (so_far.is, drop_one a₀ x k (omega arith), more) (set_at front (get_or a₀ k x) (drop (k + 1) a₀) x k long ∙ sym (append_assoc front (x ∷ []) (drop (k + 1) a₀)));
      }

  -- n places are filled, all of them or the first
  pub filled_whole : length a₀ ≤ k → {n : ℕ} → length a₀ ≡ n → a ≡ map f (range 0 n)
  filled_whole h {n} e =
      let w = so_far.within in
      let z : k ≡ n = omega arith in
      so_far.is ∙ rw (drop_of_length-le a₀ {i = k} (omega arith), append-nil (map f (range 0 k)), z)

-- What is left of equal places.
pub drop-replicate : {A : Type 0} (k n : ℕ) (e : A) → drop k (replicate n e) ≡ replicate (n - k) e
drop-replicate zero n e = let z : n ≡ n - 0 = omega arith in ap (λ (m : ℕ). replicate m e) z
drop-replicate (suc k) zero e = let z : 0 ≡ 0 - suc k = omega arith in ap (λ (m : ℕ). replicate m e) z
drop-replicate (suc k) (suc n) e = let z : n - k ≡ suc n - suc k = omega arith in drop-replicate k n e ∙ ap (λ (m : ℕ). replicate m e) z

pub filled_part : {A : Type 0} {f : ℕ → A} (e : A) (m : ℕ) {n k : ℕ} {a : List A} → FilledTo f (replicate m e) k a → n ≤ k → k ≤ n → a ≡ map f (range 0 n) ++ replicate (m - n) e
filled_part {A} {f} e m {n} {k} so_far g h =
    let z : k ≡ n = omega arith in
    so_far.is ∙ rw (drop-replicate k m e, z)
