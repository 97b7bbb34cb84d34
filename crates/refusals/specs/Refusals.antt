-- Refusals, in one form for every entry point (document 01, "The numbers a crew may see"): "The order is that of the numbers", unless a request
-- says otherwise, and the first cause that applies decides.
use Rattle.std.specs.Prelude.{ℕ, ◌≡◌, ◌⊎◌, List, [], ◌∷◌}

-- a line of the refusal table: its number, and its cause in the words of the papers
pub record Refusal : Type 1 where
  pub number : ℕ
  pub cause : Type 0

infix 68 ◌if◌
abbrev pub ◌if◌ : ℕ → Type 0 → Refusal
◌if◌ n c = record { number = n; cause = c }

-- n is the number of the first refusal whose cause applies; where none does, n is what the entry point answers then
abbrev pub First : List Refusal → (ℕ → Type 0) → ℕ → Type 0
First [] otherwise n = otherwise n
First (r ∷ l) otherwise n = (r.cause × (n ≡ r.number)) ⊎ ((¬ r.cause) × First l otherwise n)

-- an entry point that answers 0 where none applies
abbrev pub Refuses : List Refusal → ℕ → Type 0
Refuses l n = First l (λ (k : ℕ). k ≡ 0) n
