-- The records of the station at place i: those of its actions that are allowed, one behind another.
use Prim.Native.Nat.{ℕ, ◌+◌, ◌%◌, ◌≤◌, ◌<◌}
use Rattle.line.specs.Types.{Leave}
use mathlib.Core.Path.{◌≡◌, refl, sym, ap, ◌∙◌}
use mathlib.Core.Bool.{Bool, true, false, cond}
use mathlib.Core.List.{List, [], ◌∷◌, ◌++◌, map, append_assoc, append-nil}
use mathlib.Core.List.{Memᴰ as Member}
use native.Mathlib.Omega.{arith}
use lib.Dec.{eqb, leb}
use lib.ListN.{length, get_or, take, drop, length-append, drop_of_length-le}
use lib.Seq.{get_or-take}
use borrow.Author.Tests.{eqb-false, leb-true}
use Rattle.lists.specs.Lists.{any, keep}
use Rattle.lists.specs.Numbers.{Rising}
use Rattle.lists.proofs.Lists.{map-mem, sort-any}
use Rattle.lists.proofs.Elements.{drop_one, member_at}
use Rattle.lists.proofs.Keeping.{kept_mem}
use Rattle.line.specs.declared.Action.{Action}
use Rattle.line.specs.declared.Action.TheVariants.{Timeout, Deliver, Exit}
use Rattle.line.specs.declared.Content.TheVariants.{RemoveLeft, RemoveRight}
use Rattle.line.specs.declared.Message.{Message}
use Rattle.line.specs.declared.Side.TheVariants.{Left, Right}
use Rattle.line.specs.Message.{introduction, removal, same, precedes, holds}
use Rattle.line.specs.Node.{Node, number, numbers, with_bag_in_order}
use Rattle.line.specs.Leave.{leave_of}
use Rattle.index.specs.Index.{slot_in, numbers_in}
use Rattle.block.specs.Layout.{node_of, fault_of}
use Rattle.steps.specs.Steps.{step_bytes}
use Rattle.steps.proofs.Records.{step_size}
use Rattle.table.specs.Blocks.{block_at, blocks, line_of}
use Rattle.table.proofs.Accepting.{table_accepted}
use Rattle.table.proofs.BlockLaws.{block_member}
use Rattle.table.proofs.FaultLaws.{accepted_passes, passes_clean, no_fault_of}
use Rattle.table.proofs.Indexing.{index_length}
use Rattle.table.proofs.Lines.{clean_few, line_long, numbers_listed, line_at}
use Rattle.rules.specs.Decided.{is_found}
use Rattle.words.specs.Writing.{Wrote}
use Rattle.words.proofs.Written.{wrote_none, wrote_length, wrote_next}
use Rattle.next_steps.specs.Allowed.{actions_of, step_by, is_allowed}
use Rattle.next_steps.proofs.Undelivered.{undelivered}
use Rattle.allowed.specs.Parts.{node_at, action_with, found_with, Small, Standing, Asked, offered, offered_by}
use Rattle.allowed.proofs.Verdicts.{standing_slot}
use Rattle.allowed.proofs.Offered.{offered_one, offered_none, offered_fewer}
use Rattle.allowed.proofs.Actions.{actions_long, action_place}

module _ {t index counts : List ℕ} {i : ℕ} (s : Standing t index counts i) where
  -- its block has no fault of its own
  pub standing_clean : {b : List ℕ} → b ≡ block_at t (slot_in (get_or index i 0)) → fault_of b ≡ 0
  standing_clean e = rw e (no_fault_of (blocks t) (passes_clean t (accepted_passes t s.clean)) (block_member t (slot_in (get_or index i 0)) (standing_slot s)))

  -- the index has at most 64 entries of 32 bits
  pub index_few : length index ≤ 64
  index_few = omega (arith, ap length s.listed, index_length t, clean_few t s.clean)

  -- a message is held by its bag in any order
  pub block_holds : {b : List ℕ} → b ≡ block_at t (slot_in (get_or index i 0)) → (m : Message) → holds m (node_of b).bag ≡ holds m (node_at t i).bag
  unfolding with_bag_in_order
  block_holds {b} e m = sym (ap (λ (x : Node). holds m x.bag) (line_at t index s.clean s.listed i s.within e) ∙ sort-any precedes (same m) (node_of b).bag)

  pub index_small : Small (numbers_in index)
  index_small q m =
      let w = map-mem number (line_of t) (rw (numbers_listed t index s.clean s.listed) at m) in
      rw w.2 (let r = (table_accepted t s.clean).1.ranged w.0 w.1 in omega arith)

  line_place : i < length (line_of t)
  line_place = omega (arith, s.within, line_long t index s.clean s.listed)

  line_rising : Rising (numbers (line_of t))
  line_rising = (table_accepted t s.clean).2.rising

  -- the introductions that its bag holds, of the stations of the index
  module _ {b : List ℕ} (read : b ≡ block_at t (slot_in (get_or index i 0))) (known : List ℕ) (tell : (q : ℕ) → 0 < q → any (eqb q) known ≡ holds (introduction q) (node_of b).bag)
      {chosen : List ℕ} (are : chosen ≡ keep (λ (q : ℕ). any (eqb q) known) (numbers_in index)) where
    told : (q : ℕ) → Member q (numbers (line_of t)) → any (eqb q) known ≡ holds (introduction q) (node_at t i).bag
    told q m =
        let w = map-mem number (line_of t) m in
        let positive : 0 < q = rw w.2 (let r = (table_accepted t s.clean).1.ranged w.0 w.1 in omega arith) in
        tell q positive ∙ block_holds read (introduction q)

    pub chosen_held : (q : ℕ) → Member q chosen → holds (introduction q) (node_at t i).bag ≡ true
    chosen_held q m =
        let k = kept_mem (λ (x : ℕ). any (eqb x) known) (numbers_in index) (rw are at m) in
        sym (told q (rw (numbers_listed t index s.clean s.listed) at k.0)) ∙ k.1

    pub chosen_whole : offered (line_of t) (map (step_by (node_at t i)) (actions_of chosen)) ≡ offered_by t i
    chosen_whole =
        rw (are, numbers_listed t index s.clean s.listed)
        (offered_fewer (line_of t) (node_at t i) (λ (q : ℕ). any (eqb q) known) (numbers (line_of t))
        (λ q m e. undelivered (line_of t) i line_rising line_place (introduction q) (sym (told q m) ∙ e)))

-- the records of the first k actions are in
pub record PutTo (l : List ℕ) (at : ℕ) (t index counts : List ℕ) (i station : ℕ) (left right : Bool) (leave : Leave) (n : ℕ) (b : List ℕ) (end k : ℕ) (m : List ℕ) : Type 0 where
  pub standing : Standing t index counts i
  pub named : station ≡ number (node_at t i)
  pub left_is : left ≡ holds (removal Left) (node_at t i).bag
  pub right_is : right ≡ holds (removal Right) (node_at t i).bag
  pub leave_is : leave ≡ leave_of (line_of t) (node_at t i)
  pub held : (q : ℕ) → Member q (take n b) → holds (introduction q) (node_at t i).bag ≡ true
  pub counted : n ≡ length (take n b)
  pub few : n ≤ 64
  pub within : k ≤ n + 4
  pub fits : at + length (offered_by t i) ≤ length l
  pub size : length m ≡ length l
  pub text : List ℕ
  pub wrote : Wrote l at text end m
  pub is : text ++ offered (line_of t) (map (step_by (node_at t i)) (drop k (actions_of (take n b)))) ≡ offered_by t i

module _ {l t index counts : List ℕ} {at i station : ℕ} {left right : Bool} {leave : Leave} {n : ℕ} {b : List ℕ} where
  pub put_none : Standing t index counts i → station ≡ number (node_at t i) → left ≡ holds (removal Left) (node_at t i).bag → right ≡ holds (removal Right) (node_at t i).bag
      → leave ≡ leave_of (line_of t) (node_at t i) → ((q : ℕ) → Member q (take n b) → holds (introduction q) (node_at t i).bag ≡ true)
      → offered (line_of t) (map (step_by (node_at t i)) (actions_of (take n b))) ≡ offered_by t i → n ≡ length (take n b) → n ≤ 64 → at + length (offered_by t i) ≤ length l
      → PutTo l at t index counts i station left right leave n b at 0 l
  put_none s q e f w held whole c g h = record {
    standing = s;
    named = q;
    left_is = e;
    right_is = f;
    leave_is = w;
    held = held;
    counted = c;
    few = g;
    within = omega arith;
    fits = h;
    size = refl;
    text = [];
    wrote = wrote_none (omega arith);
    is = whole;
  }

  module _ {end k : ℕ} {m : List ℕ} (so_far : PutTo l at t index counts i station left right leave n b end k m) where
    abbrev all : List Action
    all = actions_of (take n b)

    long : length all ≡ n + 4
    long = actions_long b n so_far.counted so_far.few

    module _ (h : k < n + 4) {a : Action} (given : a ≡ action_with (get_or b ((k + 63) % 64) 0) n k) where
      at_place : a ≡ get_or all k Exit
      at_place = given ∙ action_place b n so_far.counted so_far.few k h

      -- whether its message is found
      pub action_asked : {found : Bool} → found ≡ found_with n k left right → Asked t index counts i leave found a
      unfolding removal
      action_asked {found} f = record { standing = so_far.standing; leave_is = λ _. so_far.leave_is; found_is = f ∙ go (eqb k 0) (leb k n) (eqb k (n + 1)) (eqb k (n + 2)) refl refl given }
        where
          bag : List Message
          bag = (node_at t i).bag

          q : ℕ
          q = get_or b ((k + 63) % 64) 0

          introduced : eqb k 0 ≡ false → leb k n ≡ true → holds (introduction q) bag ≡ true
          introduced e g =
              let z = eqb-false k 0 e in
              let y = leb-true k n g in
              let j : (k + 63) % 64 < n = omega (arith, so_far.few) in
              so_far.held q (rw (get_or-take n b ((k + 63) % 64) 0 j) at (member_at (take n b) ((k + 63) % 64) 0 (omega (arith, so_far.counted))))

          go : (x y z w : Bool) → eqb k 0 ≡ x → leb k n ≡ y
              → a ≡ cond x Timeout (cond y (Deliver (introduction q)) (cond z (Deliver (record { content = RemoveLeft })) (cond w (Deliver (record { content = RemoveRight })) Exit)))
              → cond x false (cond y true (cond z left (cond w right false))) ≡ is_found a bag
          go true y z w e g c = rw c
          go false true z w e g c = rw c (sym (introduced e g))
          go false false true w e g c = rw c so_far.left_is
          go false false false true e g c = rw c so_far.right_is
          go false false false false e g c = rw c

      module _ {allowed : Bool} (tells : allowed ≡ is_allowed (line_of t) (step_by (node_at t i) a)) where
        abbrev bytes : List ℕ
        bytes = cond allowed (step_bytes (record { station = station; action = a })) []

        abbrev rest : List ℕ
        rest = offered (line_of t) (map (step_by (node_at t i)) (drop (k + 1) all))

        piece : bytes ++ rest ≡ offered (line_of t) (map (step_by (node_at t i)) (drop k all))
        piece =
            let from : drop k all ≡ a ∷ drop (k + 1) all = drop_one all Exit k (omega (arith, long)) ∙ ap (λ (y : Action). y ∷ drop (k + 1) all) (sym at_place) in
            rw (from, so_far.named, tells) (sym (offered_one (line_of t) (step_by (node_at t i) a) (map (step_by (node_at t i)) (drop (k + 1) all))))

        whole : (so_far.text ++ bytes) ++ rest ≡ offered_by t i
        whole = append_assoc so_far.text bytes rest ∙ ap (λ (y : List ℕ). so_far.text ++ y) piece ∙ so_far.is

        sizes : length so_far.text + length bytes ≤ length (offered_by t i)
        sizes = omega (arith, ap length whole, length-append (so_far.text ++ bytes) rest, length-append so_far.text bytes)

        pub put_asks : (end ≤ length m) × (allowed ≡ true → end + 12 ≤ length m)
        put_asks =
            let e = so_far.wrote.ends in
            let f = so_far.fits in
            let s = so_far.size in
            (omega (arith, so_far.wrote.fits), λ (p : allowed ≡ true). let z : length bytes ≡ 12 = rw p (step_size (record { station = station; action = a })) in omega (arith, sizes))

        pub put_next : {o : List ℕ} {r : ℕ} → Wrote m end bytes r o → PutTo l at t index counts i station left right leave n b r (k + 1) o
        put_next w =
            let both = wrote_next so_far.wrote w in
            record {
              standing = so_far.standing;
              named = so_far.named;
              left_is = so_far.left_is;
              right_is = so_far.right_is;
              leave_is = so_far.leave_is;
              held = so_far.held;
              counted = so_far.counted;
              few = so_far.few;
              within = omega arith;
              fits = so_far.fits;
              size = wrote_length both;
              text = so_far.text ++ bytes;
              wrote = both;
              is = whole;
            }

    pub put_all : n + 4 ≤ k → Wrote l at (offered_by t i) end m
    put_all h =
        let none : drop k all ≡ [] = drop_of_length-le all {i = k} (omega (arith, long)) in
        let is = rw (none, offered_none (line_of t), append-nil) at so_far.is in
        rw (← is) so_far.wrote
