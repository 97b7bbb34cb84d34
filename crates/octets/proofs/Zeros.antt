-- Zero bytes: the test for them, both ways, and what is left of them.
use Rattle.std.proofs.Common.{◌≡◌, ℕ, zero, suc, ◌+◌, ◌-◌, ◌≤◌, true, eqb, List, [], ◌∷◌, ◌++◌, length, take, drop, replicate, refl, ap, ◌∙◌, arith, length-drop, take-append-drop, length-take-le, drop-drop, eqb-true}
use lib.ListN.{length-replicate}
use lib.Seq.{take-append-le, drop-append-le, drop-append-add}
use Rattle.lists.proofs.Filling.{drop-replicate}
use Rattle.octets.specs.Bytes.{part, all_zero}
use Rattle.octets.proofs.Both.{and_left, and_right}

-- bytes are all zero exactly when they are so many zeros
zeros_pass : (n : ℕ) → all_zero (replicate n 0) ≡ true
unfolding all_zero
zeros_pass zero = refl
zeros_pass (suc n) = zeros_pass n

pass_zeros : (l : List ℕ) → all_zero l ≡ true → l ≡ replicate (length l) 0
unfolding all_zero
pass_zeros [] h = refl
pass_zeros (x ∷ l) h = rw (eqb-true x 0 (and_left (eqb x 0) (all_zero l) h), ← pass_zeros l (and_right (eqb x 0) (all_zero l) h))

-- what is left of equal elements
pub take-replicate : {A : Type 0} (k n : ℕ) (a : A) → k ≤ n → take k (replicate n a) ≡ replicate k a
take-replicate zero zero a h = refl
take-replicate zero (suc n) a h = refl
take-replicate (suc k) zero a h = absurd (omega arith)
take-replicate (suc k) (suc n) a h = rw (take-replicate k n a (omega arith))

-- The two laws of a range of zero bytes: what is written as zeros passes the test, and what passes is written as zeros.
pub zeros_written : (p s : List ℕ) (k i e : ℕ) → length p ≤ i → i ≤ e → e ≤ length p + k → all_zero (part (p ++ (replicate k 0 ++ s)) i e) ≡ true
zeros_written p s k i e low mid high =
    let j = i - length p in
    let at : i ≡ length p + j = omega arith in
    let zs : List ℕ = replicate k 0 in
    let n : length zs ≡ k = length-replicate k 0 in
    let from : drop i (p ++ (zs ++ s)) ≡ replicate (k - j) 0 ++ s =
    ap (λ (m : ℕ). drop m (p ++ (zs ++ s))) at ∙ drop-append-add p (zs ++ s) j ∙ drop-append-le j zs s (omega arith) ∙ ap (λ (l : List ℕ). l ++ s) (drop-replicate j k 0) in
    let m : length (replicate {A = ℕ} (k - j) 0) ≡ k - j = length-replicate (k - j) 0 in
    rw (from, take-append-le (e - i) (replicate (k - j) 0) s (omega arith), take-replicate {A = ℕ} (e - i) (k - j) 0 (omega arith)) (zeros_pass (e - i))

pub zeros_read : (b : List ℕ) (i e : ℕ) → i ≤ e → e ≤ length b → all_zero (part b i e) ≡ true → replicate (e - i) 0 ++ drop e b ≡ drop i b
zeros_read b i e low high h =
    let n : length (part b i e) ≡ e - i = length-take-le (e - i) (drop i b) (omega (arith, length-drop i b)) in
    let zs : part b i e ≡ replicate (e - i) 0 = rw n at (pass_zeros (part b i e) h) in
    let next : i + (e - i) ≡ e = omega arith in
    let rest : drop (e - i) (drop i b) ≡ drop e b = drop-drop (e - i) i b ∙ ap (λ (k : ℕ). drop k b) next in
    rw (← zs, ← rest) (take-append-drop (e - i) (drop i b))
