-- What one station does in a step does not hang on its site code: with the code taken out it sends the same, and is afterwards what it would be,
-- with the code taken out.
use mathlib.Core.Path.{◌≡◌, refl, ◌∙◌, ap}
use Rattle.std.specs.Prelude.{Option, Some, None, Ok, Err}
use Rattle.line.specs.Types.{Leave, Neighbour}
use mathlib.Core.Bool.{Bool, true, false, cond}
use Prim.Native.Nat.{ℕ}
use lib.Dec.{eqb}
use Rattle.line.specs.declared.Content.{Content}
use Rattle.line.specs.declared.Content.TheVariants.{Introduction, RemoveLeft, RemoveRight}
use Rattle.line.specs.declared.Station as declared
use Rattle.line.specs.declared.Side.{Side}
use Rattle.line.specs.declared.Side.TheVariants.{Left, Right}
use Rattle.line.specs.declared.Refusal.{Refusal}
use Rattle.line.specs.declared.Refusal.TheVariants.{NotInBag, Staying}
use Rattle.line.specs.declared.Action.{Action}
use Rattle.line.specs.declared.Action.TheVariants.{Timeout, Deliver, Exit}
use Rattle.line.specs.Answer.{Answer, refused, done, require, unless_held}
use Rattle.line.specs.Message.{introduction, holds, remove}
use Rattle.line.specs.Node.{Node, leaving, station_at, at_site, beyond, side_of, neighbour, with_neighbour}
use Rattle.line.specs.Act.{send, notice, timeout, Reaction, unchanged, meet, introduced, drop_neighbour, obeys, removed, received, introduce_both, Effect, kept, act}

-- what was asked for, with f of it
abbrev pub done_with : {A B : Type 0} → (A → B) → Answer A → Answer B
done_with f (refused r) = refused r
done_with f (done a) = done (f a)

abbrev bare : declared.Station → declared.Station
bare p = station_at 0 p

abbrev bare_reaction : Reaction → Reaction
bare_reaction r = record { station = bare r.station; sends = r.sends }

abbrev pub bare_option : Option Node → Option Node
bare_option None = None
bare_option (Some s) = Some (at_site 0 s)

abbrev pub bare_effect : Effect → Effect
bare_effect e = record { after = bare_option e.after; sends = e.sends }

either : {A B : Type 0} (f : A → B) (t : Bool) (a b : A) → cond t (f a) (f b) ≡ f (cond t a b)
either f true a b = refl
either f false a b = refl

-- by the side
turned : (d : Side) (k : Neighbour) (p : declared.Station) → with_neighbour d k (bare p) ≡ bare (with_neighbour d k p)
unfolding with_neighbour
turned Left k p = refl
turned Right k p = refl

pub looks : (d : Side) (p : declared.Station) → neighbour d (bare p) ≡ neighbour d p
looks Left p = refl
looks Right p = refl

obeying : (d : Side) (p : declared.Station) → obeys d (bare p) ≡ obeys d p
obeying Left p = refl
obeying Right p = refl

module _ (p : declared.Station) where
  met : (d : Side) (q : ℕ) (k : Neighbour) → meet d (bare p) q k ≡ bare_reaction (meet d p q k)
  unfolding meet
  met d q None = rw (turned d (Some q) p)
  met d q (Some r) =
      let nearer : Reaction = record { station = with_neighbour d (Some q) p; sends = send q (introduction r) } in
      let farther : Reaction = record { station = p; sends = send r (introduction q) } in
      rw (turned d (Some q) p, either bare_reaction (eqb q r) (unchanged p) farther, either bare_reaction (beyond d q r) nearer (cond (eqb q r) (unchanged p) farther))

  introducing : (q : ℕ) → introduced (bare p) q ≡ bare_reaction (introduced p q)
  unfolding introduced
  introducing q =
      let d = side_of p.number q in
      rw (looks d p, met d q (neighbour d p), either bare_reaction (eqb q p.number) (unchanged p) (meet d p q (neighbour d p)))

  dropping : (d : Side) (k : Neighbour) → drop_neighbour d (bare p) k ≡ bare_reaction (drop_neighbour d p k)
  unfolding drop_neighbour
  dropping d None = refl
  dropping d (Some r) = rw (turned d None p)

  removing : (d : Side) → removed (bare p) d ≡ bare_reaction (removed p d)
  unfolding removed
  removing d =
      rw (obeying d p, looks d p, dropping d (neighbour d p), either bare_reaction (obeys d p) (drop_neighbour d p (neighbour d p)) (unchanged p))

  receiving : (c : Content) → received (bare p) c ≡ bare_reaction (received p c)
  unfolding received
  receiving (Introduction q) = introducing q
  receiving RemoveLeft = removing Left
  receiving RemoveRight = removing Right

-- behind a test, and behind the question whether it may leave
module _ {A B : Type 0} (f : A → B) where
  pub requiring : (t : Bool) (r : Refusal) (a : A) → require t r (done (f a)) ≡ done_with f (require t r (done a))
  unfolding require
  requiring true r a = refl
  requiring false r a = refl

  leaves : (t : Bool) (l : Leave) (a : A) → require t Staying (unless_held l (done (f a))) ≡ done_with f (require t Staying (unless_held l (done a)))
  unfolding require unless_held
  leaves false l a = refl
  leaves true (Ok _) a = refl
  leaves true (Err why) a = refl

pub acts : (l : Leave) (s : Node) (a : Action) → act l (at_site 0 s) a ≡ done_with bare_effect (act l s a)
unfolding act at_site timeout notice
acts l s Timeout = refl
acts l s (Deliver m) =
    ap (λ (r : Reaction). require (holds m s.bag) NotInBag (done (kept (remove m s.bag) r))) (receiving s.station m.content)
    ∙ requiring bare_effect (holds m s.bag) NotInBag (kept (remove m s.bag) (received s.station m.content))
acts l s Exit = leaves bare_effect (leaving s) l (record { after = None; sends = introduce_both s.station.left s.station.right })
