-- The digits of a number: how many are allowed plays no part where that is enough, and ten are enough for 32 bits.
use mathlib.Core.Path.{◌≡◌, refl, ap}
use mathlib.Core.Bool.{Bool, true, false, cond}
use mathlib.Core.List.{List, [], ◌∷◌, ◌++◌}
use Prim.Native.Nat.{ℕ, zero, suc, ◌/◌, ◌%◌, ◌^◌, ◌≤◌, ◌<◌}
use native.Mathlib.Nat.{not-suc-le-zero}
use native.Mathlib.Omega.{arith}
use borrow.Author.Tests.{ltb-false, lt-ltb, le-ltb}
use lib.Dec.{ltb}
use lib.ListN.{length, length-append}
use Rattle.words.specs.Words.{digit, digits, decimal}
use Rattle.words.specs.Claims.{DecimalStep, FewDigits, NumberExample}

-- where a tenth part is written, it may be written in another way
tenth : (n : ℕ) (a b : List ℕ) → (10 ≤ n → a ≡ b) → cond (ltb n 10) (digit n ∷ []) (a ++ (digit (n % 10) ∷ [])) ≡ cond (ltb n 10) (digit n ∷ []) (b ++ (digit (n % 10) ∷ []))
tenth n a b h = go (ltb n 10) refl
  where
    go : (t : Bool) → ltb n 10 ≡ t → cond t (digit n ∷ []) (a ++ (digit (n % 10) ∷ [])) ≡ cond t (digit n ∷ []) (b ++ (digit (n % 10) ∷ []))
    go true e = refl
    go false e = ap (λ (l : List ℕ). l ++ (digit (n % 10) ∷ [])) (h (ltb-false n 10 e))

enough : (k m n : ℕ) → n < k → n < m → digits k n ≡ digits m n
unfolding digits
enough zero m n h r = absurd (not-suc-le-zero h)
enough (suc k) zero n h r = absurd (not-suc-le-zero r)
enough (suc k) (suc m) n h r = tenth n (digits k (n / 10)) (digits m (n / 10)) (λ (e : 10 ≤ n). enough k m (n / 10) (omega arith) (omega arith))

pub decimal_step : DecimalStep
unfolding decimal digits
decimal_step n = tenth n (digits n (n / 10)) (digits (suc (n / 10)) (n / 10)) (λ (e : 10 ≤ n). enough n (suc (n / 10)) (n / 10) (omega arith) (omega arith))

-- its two cases
pub decimal_last : (n : ℕ) → n < 10 → decimal n ≡ digit n ∷ []
decimal_last n h = rw (decimal_step n, lt-ltb n 10 h)

pub decimal_longer : (n : ℕ) → 10 ≤ n → decimal n ≡ decimal (n / 10) ++ (digit (n % 10) ∷ [])
decimal_longer n h = rw (decimal_step n, le-ltb n 10 h)

-- a number below 10 to the power k + 1
few : (m k n : ℕ) → n < 10 ^ suc k → length (digits m n) ≤ suc k
unfolding digits
few zero k n h = omega arith
few (suc m) zero n h = rw (lt-ltb n 10 h) (omega arith)
few (suc m) (suc k) n h = go (ltb n 10) (few m k (n / 10) (omega arith))
  where
    go : (t : Bool) → length (digits m (n / 10)) ≤ suc k → length (cond t (digit n ∷ []) (digits m (n / 10) ++ (digit (n % 10) ∷ []))) ≤ suc (suc k)
    go true r = omega arith
    go false r = omega (arith, length-append (digits m (n / 10)) (digit (n % 10) ∷ []))

pub few_digits : FewDigits
unfolding decimal
few_digits k n h = few (suc n) k n h

pub ten_digits : (n : ℕ) → n < 2 ^ 32 → length (decimal n) ≤ 10
ten_digits n h = few_digits 9 n (omega arith)

pub number_example : NumberExample
unfolding digits decimal
number_example = record { largest = refl; zero = refl }
