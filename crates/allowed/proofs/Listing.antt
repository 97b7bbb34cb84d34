-- The whole list: the stations one after another, and the room that is filled with it.
use Prim.Native.Nat.{ℕ, ◌+◌, ◌/◌, ◌≤◌, ◌<◌}
use mathlib.Core.Path.{◌≡◌, refl, sym, ap, ◌∙◌}
use mathlib.Core.List.{List, [], ◌++◌, map, append_assoc, append-nil}
use native.Mathlib.Omega.{arith}
use lib.ListN.{length, take, drop, length-append}
use lib.Seq.{take_at}
use borrow.Author.Tests.{ne_eqb}
use Rattle.line.specs.Node.{numbers}
use Rattle.steps.specs.Steps.{list_bytes}
use Rattle.steps.proofs.Records.{list_size}
use Rattle.std.specs.Prelude.{Ok, Err}
use Rattle.line.specs.declared.Fault.{Fault}
use Rattle.line.specs.Answer.{fault_number}
use Rattle.line.proofs.Answers.{no_fault}
use Rattle.table.specs.Blocks.{line_of}
use Rattle.table.specs.Fault.{fault_of}
use Rattle.table.specs.Index.{index_of, Inspects}
use Rattle.table.proofs.Lines.{line_from, line_end, inspected_clean, inspected_refused}
use Rattle.arrays.specs.Reading.{counts_of}
use Rattle.words.specs.Writing.{Wrote}
use Rattle.words.proofs.Written.{wrote_none, wrote_length, wrote_next, first_size, first_bytes}
use Rattle.filling.specs.Filled.{Filling, refused, filled_with, filled_as}
use Rattle.filling.specs.declared.Filled.{Filled}
use Rattle.next_steps.specs.Allowed.{actions_of, step_by, each_with, allowed_steps, allowed_in}
use Rattle.next_steps.proofs.Few.{listed_few}
use Rattle.allowed.specs.Parts.{node_at, Standing, offered, offered_by}
use Rattle.allowed.proofs.Offered.{offered_append, offered_none}

-- the records of the first i stations are in
pub record ListedTo (l t index counts : List ℕ) (i end : ℕ) (m : List ℕ) : Type 0 where
  pub clean : fault_of t ≡ 0
  pub listed : index ≡ index_of t
  pub counted : counts ≡ counts_of t
  pub within : i ≤ length index
  pub room : 25344 ≤ length l
  pub size : length m ≡ length l
  pub text : List ℕ
  pub wrote : Wrote l 0 text end m
  pub is : text ++ offered (line_of t) (each_with (actions_of (numbers (line_of t))) (drop i (line_of t))) ≡ list_bytes (allowed_steps t)

module _ {l t index counts : List ℕ} where
  pub listed_none : fault_of t ≡ 0 → index ≡ index_of t → counts ≡ counts_of t → 25344 ≤ length l → ListedTo l t index counts 0 0 l
  unfolding allowed_steps offered
  listed_none f e c h = record {
    clean = f;
    listed = e;
    counted = c;
    within = omega arith;
    room = h;
    size = refl;
    text = [];
    wrote = wrote_none (omega arith);
    is = refl;
  }

  module _ {i end : ℕ} {m : List ℕ} (so_far : ListedTo l t index counts i end m) where
    module _ (h : i < length index) where
      abbrev rest : List ℕ
      rest = offered (line_of t) (each_with (actions_of (numbers (line_of t))) (drop (i + 1) (line_of t)))

      piece : offered_by t i ++ rest ≡ offered (line_of t) (each_with (actions_of (numbers (line_of t))) (drop i (line_of t)))
      unfolding each_with
      piece =
          rw (line_from t index so_far.clean so_far.listed i h)
          (sym (offered_append (line_of t) (map (step_by (node_at t i)) (actions_of (numbers (line_of t)))) (each_with (actions_of (numbers (line_of t))) (drop (i + 1) (line_of t)))))

      whole : (so_far.text ++ offered_by t i) ++ rest ≡ list_bytes (allowed_steps t)
      whole = append_assoc so_far.text (offered_by t i) rest ∙ ap (λ (y : List ℕ). so_far.text ++ y) piece ∙ so_far.is

      -- the next station, and room for its records: the whole list has at most 2,112 of them
      pub listed_standing : Standing t index counts i
      listed_standing = record { clean = so_far.clean; listed = so_far.listed; counted = so_far.counted; within = h }

      pub listed_room : end + length (offered_by t i) ≤ length m
      listed_room =
          omega (
            arith,
            listed_few t so_far.clean,
            list_size (allowed_steps t),
            ap length whole,
            length-append (so_far.text ++ offered_by t i) rest,
            length-append so_far.text (offered_by t i),
            so_far.wrote.ends,
            so_far.room,
            so_far.size,
          )

      pub listed_next : {o : List ℕ} {r : ℕ} → Wrote m end (offered_by t i) r o → ListedTo l t index counts (i + 1) r o
      listed_next a =
          let both = wrote_next so_far.wrote a in
          record {
            clean = so_far.clean;
            listed = so_far.listed;
            counted = so_far.counted;
            within = omega arith;
            room = so_far.room;
            size = wrote_length both;
            text = so_far.text ++ offered_by t i;
            wrote = both;
            is = whole;
          }

    pub listed_all : length index ≤ i → Wrote l 0 (list_bytes (allowed_steps t)) end m
    unfolding each_with
    listed_all h =
        let none = line_end t index so_far.clean so_far.listed i h in
        let is = rw (none, offered_none (line_of t), append-nil) at so_far.is in
        rw (← is) so_far.wrote

-- The table is checked first; then the list, made beside the room, fills it.
module _ {t : List ℕ} where
  pub allowed_refused : {f : Fault} → Inspects t (Err f) → (room : List ℕ) {r : Filled} → r ≡ refused f → filled_as r room ≡ allowed_in t room
  unfolding allowed_in
  allowed_refused {f} found room e = rw (e, inspected_refused found, ne_eqb (fault_number f) 0 (no_fault f))

  pub allowed_filled : {index : List ℕ} → Inspects t (Ok index) → {l m : List ℕ} {end : ℕ} → Wrote l 0 (list_bytes (allowed_steps t)) end m
      → (room : List ℕ) {f : Filling ℕ} → f ≡ filled_with (end / 12) (take end m) room → f ≡ allowed_in t room
  unfolding allowed_in
  allowed_filled found {l} {m} {end} a room e =
      let bytes : take end m ≡ list_bytes (allowed_steps t) =
      ap (take end) (first_bytes a) ∙ take_at (list_bytes (allowed_steps t)) (drop end l) end (sym (first_size a)) in
      let amount : end / 12 ≡ length (allowed_steps t) = omega (arith, first_size a, list_size (allowed_steps t)) in
      e ∙ rw (inspected_clean found, bytes, amount)
