-- What a step sends, and where it arrives (document 01, "What a step does at station p" and "The numbers a crew may see", 12 to 15).
use Rattle.std.specs.Prelude.{ℕ, ◌≡◌, Bool, true, false, cond, ◌&&◌, List, eqb, ltb, length, get_or, set, Ok, Err, Option, Some, None, Result, is_some}
use Rattle.std.specs.Option.{unwrap_or}
use Rattle.line.specs.Types.{Ending, Leave}
use Rattle.lists.specs.Places.{first_at}
use Rattle.line.specs.declared.Action.{Action}
use Rattle.line.specs.declared.Message.{Message}
use Rattle.line.specs.declared.Station as declared
use Rattle.line.specs.declared.Refusal.{Refusal}
use Rattle.line.specs.declared.Refusal.TheVariants.{Full}
use Rattle.line.specs.Message.{capacity}
use Rattle.bag.specs.declared.Bag.{Bag}
use Rattle.bag.specs.Held.{held, ordered}
use Rattle.bag.specs.Changes.{Put}
use Rattle.index.specs.Index.{slot_in, numbers_in}
use Rattle.rules.specs.declared.Sending.{Sending}
use Rattle.rules.specs.declared.Decision.{Decision}
use Rattle.rules.specs.Decided.{is_found, rest, Decides}
use Rattle.moves.specs.declared.Plan.{Plan}

-- the place of the receiver among the numbers; the sender's own place i where nothing is sent, or where nobody has that number
abbrev pub receiver_of : List ℕ → Option Sending → ℕ → ℕ
receiver_of l None i = i
receiver_of l (Some x) i = cond (ltb (first_at (eqb x.to) l) (length l)) (first_at (eqb x.to) l) i

-- "a bag that must receive holds 32" is refused
abbrev pub room_for : Option Sending → ℕ → Bool
room_for None c = true
room_for (Some x) c = ltb c capacity

-- whether the receivers of what is sent have room
abbrev pub verdict_in : Bool → Ending
verdict_in true = Ok tt
verdict_in false = Err Full

-- a and b are the counts of the receivers' bags
abbrev pub verdict_of : Decision → ℕ → ℕ → Ending
verdict_of d a b = verdict_in (room_for d.sendings.first a && room_for d.sendings.second b)

-- the slot of the receiver
abbrev pub slot_for : List ℕ → Option Sending → ℕ → ℕ
slot_for index x i = slot_in (get_or index (receiver_of (numbers_in index) x i) 0)

-- p, where nothing refuses it
abbrev pub unless_refused : Ending → Plan → Result Plan Refusal
unless_refused (Ok _) p = Ok p
unless_refused (Err r) p = Err r

-- The step at place i, of what its station decides. The refusals come in the order of their numbers: that of the station itself, then that
-- of a bag without room.
abbrev pub planned : List ℕ → List ℕ → ℕ → Result Decision Refusal → Result Plan Refusal
planned index counts i (Err r) = Err r
planned index counts i (Ok d) =
    unless_refused (verdict_of d (get_or counts (slot_for index d.sendings.first i) 0) (get_or counts (slot_for index d.sendings.second i) 0))
    (record { decision = d; first = slot_for index d.sendings.first i; second = slot_for index d.sendings.second i })

-- r is the step of station s, at place i of the index, worked out, or its refusal; l says whether it may leave, and found whether its bag
-- holds the message of a delivery
pub record Plans (index counts : List ℕ) (i : ℕ) (l : Leave) (found : Bool) (s : declared.Station) (a : Action) (r : Result Plan Refusal) : Type 0 where
  pub decision : Result Decision Refusal
  pub decides : (b : List Message) → found ≡ is_found a b → Decides l s b a decision
  pub is : r ≡ planned index counts i decision

-- r is the station's own bag after the step, where a message of it was delivered; without one it is the bag that there was
pub record BagAfter (a : Action) (own : Bag) (r : Option Bag) : Type 0 where
  pub found_is : is_some r ≡ is_found a (ordered own)
  pub ordered_is : ordered (unwrap_or r own) ≡ rest a (ordered own)
  pub counted : own.count ≡ length (held own) → (unwrap_or r own).count ≡ length (held (unwrap_or r own))

-- new is the row of a slot with one m more, and counts' the counts with that of the slot raised
pub record PutIn (row : List Message) (counts : List ℕ) (slot : ℕ) (m : Message) (new : List Message) (counts' : List ℕ) : Type 0 where
  pub count : ℕ
  pub put : Put (record { messages = row; count = get_or counts slot 0 }) m (record { messages = new; count = count })
  pub counts_are : counts' ≡ set counts slot count
