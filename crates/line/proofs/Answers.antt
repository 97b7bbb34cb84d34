-- Laws of answers.
use mathlib.Core.Path.{◌≡◌, refl, ap}
use Rattle.std.specs.Prelude.{Ok, Err}
use Rattle.line.specs.Types.{Ending, Leave}
use mathlib.Core.Logic.{◌⊎◌, inl, inr}
use mathlib.Core.Bool.{Bool, true, false}
use Prim.Native.Nat.{ℕ}
use native.Mathlib.Omega.{arith}
use Rattle.line.specs.declared.Reason.{Reason}
use Rattle.line.specs.declared.Fault.{Fault}
use Rattle.line.specs.declared.Fault.TheVariants.{PartBlock, ManyBlocks, BadCheck, BadField, BadSide, TwoBlocks, NoBlock, BadList, ShortRoom, BadFile, TooMuch}
use Rattle.line.specs.declared.Refusal.{Refusal}
use Rattle.line.specs.declared.Refusal.TheVariants.{Malformed, Absent, NotInBag, Staying, Held, Full}
use Rattle.line.specs.Answer.{fault_number, refusal_number, ending_number, Answer, refused, done, is_done, ◌>>=◌, require, unless_held}
use Rattle.lists.proofs.Lists.{clash}

pub done_inj : {A : Type 0} {a b : A} → done a ≡ done b → a ≡ b
done_inj e = cc

pub refused_done : {A C : Type 0} {r : Refusal} {a : A} → refused r ≡ done a → C
refused_done e = absurd (let z : ◌≡◌ {A = ℕ} 0 1 = cc in omega arith)

-- no refusal has the number 0
pub no_refusal : (r : Refusal) → refusal_number r ≡ 0 → ⊥
no_refusal Malformed e = omega arith
no_refusal Absent e = omega arith
no_refusal NotInBag e = omega arith
no_refusal Staying e = omega arith
no_refusal (Held why) e = omega arith
no_refusal Full e = omega arith

-- and no fault either
pub no_fault : (f : Fault) → fault_number f ≡ 0 → ⊥
no_fault PartBlock e = omega arith
no_fault ManyBlocks e = omega arith
no_fault BadCheck e = omega arith
no_fault BadField e = omega arith
no_fault BadSide e = omega arith
no_fault TwoBlocks e = omega arith
no_fault NoBlock e = omega arith
no_fault BadList e = omega arith
no_fault ShortRoom e = omega arith
no_fault BadFile e = omega arith
no_fault TooMuch e = omega arith

-- "Success is 0": a run with this number came to its end
pub ending_zero : (e : Ending) → ending_number e ≡ 0 → e ≡ Ok tt
ending_zero (Ok _) h = refl
ending_zero (Err r) h = absurd (no_refusal r h)

pub is_done_lem : {A : Type 0} (x : Answer A) → is_done x ≡ true → (a : A) × (x ≡ done a)
unfolding is_done
is_done_lem (refused r) e = clash e refl
is_done_lem (done a) e = (a, refl)

-- what was done after something was done before it
pub bound : {A B : Type 0} (x : Answer A) (f : A → Answer B) {b : B} → (x >>= f) ≡ done b → (a : A) × (x ≡ done a) × (f a ≡ done b)
unfolding ◌>>=◌
bound (refused r) f e = refused_done e
bound (done a) f e = (a, refl, e)

-- what was refused was refused at the start, or after something was done
pub bound_refused : {A B : Type 0} (x : Answer A) (f : A → Answer B) {r : Refusal} → (x >>= f) ≡ refused r → (x ≡ refused r) ⊎ ((a : A) × (x ≡ done a) × (f a ≡ refused r))
unfolding ◌>>=◌
bound_refused (refused q) f e = inl (ap refused (cc))
bound_refused (done a) f e = inr (a, refl, e)

pub after_done : {A B : Type 0} {x : Answer A} (f : A → Answer B) {a : A} → x ≡ done a → (x >>= f) ≡ f a
unfolding ◌>>=◌
after_done f e = rw e

pub after_refused : {A B : Type 0} {x : Answer A} (f : A → Answer B) {r : Refusal} → x ≡ refused r → (x >>= f) ≡ refused r
unfolding ◌>>=◌
after_refused f e = rw e

pub require_true : {A : Type 0} (t : Bool) (r : Refusal) (x : Answer A) → t ≡ true → require t r x ≡ x
unfolding require
require_true t r x e = rw e

pub require_false : {A : Type 0} (t : Bool) (r : Refusal) (x : Answer A) → t ≡ false → require t r x ≡ refused r
unfolding require
require_false t r x e = rw e

-- what was done under a test
pub required : {A : Type 0} (t : Bool) (r : Refusal) {x : Answer A} {a : A} → require t r x ≡ done a → (t ≡ true) × (x ≡ done a)
unfolding require
required true r e = (refl, e)
required false r e = refused_done e

-- what was refused under a test, or behind it
pub required_refused : {A : Type 0} (t : Bool) (r : Refusal) {x : Answer A} {q : Refusal} → require t r x ≡ refused q → ((t ≡ false) × (r ≡ q)) ⊎ ((t ≡ true) × (x ≡ refused q))
unfolding require
required_refused true r e = inr (refl, e)
required_refused false r e = inl (refl, cc)

-- what is answered of a station that may leave, and of one that may not
pub may_leave_lem : {A : Type 0} {l : Leave} (x : Answer A) → l ≡ Ok tt → unless_held l x ≡ x
unfolding unless_held
may_leave_lem x e = rw e

pub may_not : {A : Type 0} {l : Leave} (why : Reason) (x : Answer A) → l ≡ Err why → unless_held l x ≡ refused (Held why)
unfolding unless_held
may_not why x e = rw e

-- what was done by a station that may leave
pub unheld : {A : Type 0} (l : Leave) {x : Answer A} {a : A} → unless_held l x ≡ done a → (l ≡ Ok tt) × (x ≡ done a)
unfolding unless_held
unheld (Ok _) e = (refl, e)
unheld (Err why) e = refused_done e

-- what was refused of a station for a reason, or though it may leave
pub unheld_refused : {A : Type 0} (l : Leave) {x : Answer A} {q : Refusal} → unless_held l x ≡ refused q
    → ((why : Reason) × (l ≡ Err why) × (Held why ≡ q)) ⊎ ((l ≡ Ok tt) × (x ≡ refused q))
unfolding unless_held
unheld_refused (Ok _) e = inr (refl, e)
unheld_refused (Err why) e = inl (why, refl, cc)
