-- The fields of a step written one behind the other, and one law for each action.
use mathlib.Core.Path.{◌≡◌, refl, ◌∙◌}
use mathlib.Core.List.{List, ◌++◌}
use Prim.Native.Nat.{ℕ, ◌+◌, ◌≤◌}
use native.Mathlib.Omega.{arith}
use lib.ListN.{length}
use Rattle.line.specs.declared.Action.TheVariants.{Timeout, Deliver, Exit}
use Rattle.line.specs.declared.Message.{Message}
use Rattle.line.specs.declared.Step.{Step}
use Rattle.line.specs.Message.{kind, carried}
use Rattle.octets.specs.Bytes.{le16, le32, overwrite}
use Rattle.octets.proofs.Overwritten.{overwrite_next}
use Rattle.steps.specs.Steps.{step_bytes}

pub fields_written : (l : List ℕ) (i action kind station number : ℕ) {w x y z : List ℕ} → i + 12 ≤ length l → w ≡ overwrite i (le16 action) l → x ≡ overwrite (i + 2) (le16 kind) w
    → y ≡ overwrite (i + 4) (le32 station) x → z ≡ overwrite (i + 8) (le32 number) y → z ≡ overwrite i (le16 action ++ (le16 kind ++ (le32 station ++ le32 number))) l
fields_written l i action kind station number h w x y z =
    let low : i ≤ length l = omega arith in
    let to-station = le16 action ++ le16 kind in
    rw (z, y, x, w)
    (rw (
      overwrite_next i (i + 2) (le16 action) (le16 kind) l refl low,
      overwrite_next i (i + 4) to-station (le32 station) l refl low,
      overwrite_next i (i + 8) (to-station ++ le32 station) (le32 number) l refl low,
    ))

-- x is the step, z what the call left
module _ (l : List ℕ) (i : ℕ) (x : Step) {z : List ℕ} where
  pub timeout_written : x.action ≡ Timeout → z ≡ overwrite i (le16 1 ++ (le16 0 ++ (le32 x.station ++ le32 0))) l → z ≡ overwrite i (step_bytes x) l
  unfolding step_bytes
  timeout_written a e = e ∙ rw a

  pub delivery_written : (m : Message) {k n : ℕ} → x.action ≡ Deliver m → k ≡ kind m.content → n ≡ carried m.content
      → z ≡ overwrite i (le16 2 ++ (le16 k ++ (le32 x.station ++ le32 n))) l → z ≡ overwrite i (step_bytes x) l
  unfolding step_bytes
  delivery_written m a k n e = e ∙ rw (a, k, n)

  pub exit_written : x.action ≡ Exit → z ≡ overwrite i (le16 3 ++ (le16 0 ++ (le32 x.station ++ le32 0))) l → z ≡ overwrite i (step_bytes x) l
  unfolding step_bytes
  exit_written a e = e ∙ rw a
