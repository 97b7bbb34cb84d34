-- Laws of chains of links.
use mathlib.Core.Path.{◌≡◌, subst}
use Prim.Native.Nat.{ℕ}
use Rattle.line.specs.Links.{Chain, same_station, along, against}

module _ {R : ℕ → ℕ → Type 0} where
  pub forward : {a b : ℕ} → R a b → Chain R a b
  forward r = along r same_station

  pub backward : {a b : ℕ} → R b a → Chain R a b
  backward r = against r same_station

  pub append : {a b c : ℕ} → Chain R a b → Chain R b c → Chain R a c
  append same_station k = k
  append (along r j) k = along r (append j k)
  append (against r j) k = against r (append j k)

  pub reverse : {a b : ℕ} → Chain R a b → Chain R b a
  reverse same_station = same_station
  reverse (along r j) = append (reverse j) (backward r)
  reverse (against r j) = append (reverse j) (forward r)

  pub equal : {a b : ℕ} → a ≡ b → Chain R a b
  equal {a} e = subst (λ (x : ℕ). Chain R a x) e same_station

-- The transport law: if the ends of every link of R, moved by f, are joined by S, so are the ends of every chain of R.
pub transport : {R S : ℕ → ℕ → Type 0} (f : ℕ → ℕ) → ((x y : ℕ) → R x y → Chain S (f x) (f y)) → {a b : ℕ} → Chain R a b → Chain S (f a) (f b)
transport f h same_station = same_station
transport f h (along {a} {b} r j) = append (h a b r) (transport f h j)
transport f h (against {a} {b} r j) = append (reverse (h b a r)) (transport f h j)

-- with every station where it is
pub carry : {R S : ℕ → ℕ → Type 0} → ((x y : ℕ) → R x y → Chain S x y) → {a b : ℕ} → Chain R a b → Chain S a b
carry h j = transport (λ z. z) h j
