-- A step worked out: what the decision of the station at place i and the bags at the receivers' places say is what the step does.
use Prim.Native.Nat.{ℕ, ◌<◌}
use Rattle.std.specs.Prelude.{Some, None, Ok, Err, Option, Result}
use Rattle.line.specs.Types.{Leave}
use mathlib.Core.Path.{◌≡◌, refl, sym, ap, ap₂, ◌∙◌}
use mathlib.Core.Logic.{◌≢◌}
use mathlib.Core.Bool.{Bool, true, false, cond, ◌&&◌}
use mathlib.Core.List.Memᴰ
use mathlib.Core.List.{List, Memᴰ as Member}
use lib.ListN.{length, get_or, set, length-set, length-map}
use lib.Seq.{get_or-set_same, get_or-set_other, map-set_same}
use Rattle.line.specs.Message.{holds}
use Rattle.line.specs.declared.Message.{Message}
use Rattle.line.specs.declared.Action.{Action}
use Rattle.line.specs.declared.Action.TheVariants.{Timeout, Deliver, Exit}
use Rattle.line.specs.declared.Step as declared
use Rattle.line.specs.declared.Refusal.{Refusal}
use Rattle.line.specs.declared.Refusal.TheVariants.{NotInBag, Full}
use Rattle.lists.specs.Lists.{all}
use Rattle.line.specs.Answer.{Answer, refused, done, ◌>>=◌, require}
use Rattle.line.specs.Node.{Node, Line, number, numbers, Present, nobody}
use Rattle.line.specs.Links.{Linked}
use Rattle.line.specs.Accepted.{Sided}
use Rattle.line.specs.Leave.{leave_of}
use Rattle.line.specs.Act.{Send, Effect, act}
use Rattle.line.specs.Step.{replace, without, send_all, has_room, commit, step}
use Rattle.line.proofs.Answers.{require_true, require_false, refused_done}
use Rattle.line.proofs.LeaveTest.{leave_tested}
use Rattle.line.proofs.Local.{LinksKept, act_links}
use Rattle.line.proofs.Sends.{Clear, clear_act}
use Rattle.line.proofs.Whole.{Sound}
use Rattle.line.proofs.Changes.{send_append, send_numbers, send_without, apart_across}
use Rattle.line.proofs.Places.{place, with_bag, bag_numbers, find_at, change_at, without_at, untouched}
use Rattle.lists.specs.Places.{remove_at}
use Rattle.lists.proofs.Lists.{all_append}
use Rattle.lists.proofs.Elements.{member_at, map_at, remove_set}
use Rattle.rules.specs.declared.Sending.{Sending}
use Rattle.rules.specs.declared.Decision.{Decision}
use Rattle.rules.specs.Decided.{sent, both_sent, rest, effect, decided, Decides, is_found}
use Rattle.moves.specs.Holders.{is_exit}
use Rattle.moves.specs.Sends.{receiver_of, room_for}
use Rattle.effects.proofs.Posting.{arrived, receiver_within, receiver_there, send_one, room_one}

-- whether a station may leave is looked at by an exit only
act_unless_exit : (a b : Leave) (s : Node) (c : Action) → (is_exit c ≡ true → a ≡ b) → act b s c ≡ act a s c
unfolding act
act_unless_exit a b s Timeout h = refl
act_unless_exit a b s (Deliver m) h = refl
act_unless_exit a b s Exit h = ap (λ (l : Leave). act l s Exit) (sym (h refl))

-- Station x .station stands at place i; r is its decision, or its refusal.
pub record Decided (line : Line) (x : declared.Step) (i : ℕ) (l : Leave) (r : Result Decision Refusal) : Type 0 where
  pub sound : Sound line
  pub within : i < length line
  pub found : number (place line i) ≡ x.station
  pub asked : is_exit x.action ≡ true → l ≡ leave_of line (place line i)
  pub decides : Decides l (place line i).station (place line i).bag x.action r

module _ {line : Line} {x : declared.Step} {i : ℕ} {l : Leave} {r : Result Decision Refusal} (k : Decided line x i l r) where
  acts : act (leave_of line (place line i)) (place line i) x.action ≡ decided r (rest x.action (place line i).bag)
  acts = act_unless_exit l (leave_of line (place line i)) (place line i) x.action k.asked ∙ sym k.decides.says

  steps : step line x ≡ (decided r (rest x.action (place line i).bag) >>= (λ (e : Effect). commit line (number (place line i)) e))
  unfolding step ◌>>=◌
  steps =
      ap (λ (a : Answer Node). a >>= (λ (s : Node). act (leave_of line s) s x.action >>= (λ (e : Effect). commit line (number s) e)))
      (find_at x.station line i nobody k.sound.written.rising k.within k.found)
      ∙ ap (λ (a : Answer Effect). a >>= (λ (e : Effect). commit line (number (place line i)) e)) acts

-- the station itself refuses
pub step_refused : {line : Line} {x : declared.Step} {i : ℕ} {l : Leave} {r : Refusal} → Decided line x i l (Err r) → step line x ≡ refused r
unfolding ◌>>=◌
step_refused k = steps k

-- it does not
module _ {line : Line} {x : declared.Step} {i : ℕ} {l : Leave} {d : Decision} (k : Decided line x i l (Ok d)) where
  abbrev here_is : Node
  here_is = place line i

  -- the bag of the station afterwards
  abbrev left : List Message
  left = rest x.action here_is.bag

  acted : act (leave_of line here_is) here_is x.action ≡ done (effect d left)
  acted = acts k

  -- a step that is done and delivers nothing leaves the bag as it is
  pub unfound : is_found x.action here_is.bag ≡ false → left ≡ here_is.bag
  unfolding act
  unfound = same x.action acted
    where
      same : (c : Action) {e : Effect} → act (leave_of line here_is) here_is c ≡ done e → is_found c here_is.bag ≡ false → rest c here_is.bag ≡ here_is.bag
      same Timeout e f = refl
      same (Deliver m) e f = refused_done (sym (require_false (holds m here_is.bag) NotInBag _ f) ∙ e)
      same Exit e f = refl

  there_is : Member here_is line
  there_is = member_at line i nobody k.within

  sided : Sided here_is
  sided = k.sound.accepted.sided here_is there_is

  outcome : LinksKept line (number here_is) (Linked here_is) (effect d left).after (effect d left).sends
  outcome = act_links line here_is sided (k.sound.accepted.small here_is there_is) (leave_of line here_is) (leave_tested line here_is (Ok tt)).0 x.action acted

  clear : Clear (number here_is) (both_sent d.sendings)
  clear = clear_act here_is sided (leave_of line here_is) x.action acted

  -- whoever receives is linked, so has a block; and the station keeps its number
  reached : (m : Send) → Member m (both_sent d.sendings) → Linked here_is m.to
  reached = of d.gone outcome
    where
      of : (g : Bool) → LinksKept line (number here_is) (Linked here_is) (cond g None (Some (record { station = d.station; bag = left }))) (both_sent d.sendings)
          → (m : Send) → Member m (both_sent d.sendings) → Linked here_is m.to
      of true o m = o.fair.reaches m
      of false o m = o.fair.reaches m

  pub named : d.station.number ≡ number here_is
  named = of d.gone refl outcome
    where
      of : (g : Bool) → d.gone ≡ g → LinksKept line (number here_is) (Linked here_is) (cond g None (Some (record { station = d.station; bag = left }))) (both_sent d.sendings)
          → d.station.number ≡ number here_is
      of true e o = ap (λ s. s.number) (k.decides.itself e)
      of false e o = o.named

  known : (m : Send) → Member m (both_sent d.sendings) → Present line m.to
  known m h = k.sound.accepted.known here_is there_is m.to (reached m h)

  -- what the station itself stores
  abbrev one : Option Sending
  one = d.sendings.first

  abbrev two : Option Sending
  two = d.sendings.second

  abbrev stored : Line
  stored = set line i (record { station = d.station; bag = left })

  pub stored_numbers : numbers stored ≡ numbers line
  stored_numbers = map-set_same number line i (record { station = d.station; bag = left }) nobody named

  stored_within : i < length stored
  stored_within = rw (length-set line i (record { station = d.station; bag = left })) k.within

  stored_here : place stored i ≡ record { station = d.station; bag = left }
  stored_here = get_or-set_same line i (record { station = d.station; bag = left }) nobody k.within

  -- the places of those who receive, and the bags there
  abbrev at_one : ℕ
  at_one = receiver_of (numbers line) one i

  abbrev at_two : ℕ
  at_two = receiver_of (numbers line) two i

  known_one : (m : Send) → Member m (sent one) → Present line m.to
  known_one m h = known m (Memᴰ.append_left (sent two) h)

  known_two : (m : Send) → Member m (sent two) → Present line m.to
  known_two m h = known m (Memᴰ.append_right (sent one) h)

  -- a receiver is not the sender
  elsewhere : (y : Option Sending) → ((m : Send) → Member m (sent y) → Present line m.to) → ((m : Send) → Member m (sent y) → Member m (both_sent d.sendings))
      → (m : Send) → Member m (sent y) → receiver_of (numbers line) y i ≢ i
  elsewhere y there-are among m h e = clear.away m (among m h) (sym (receiver_there line y i there-are m h) ∙ ap (λ (j : ℕ). number (place line j)) e)

  -- what the first message makes of the line, and then the second
  abbrev first_posted : Line
  first_posted = with_bag stored at_one (arrived one (place stored at_one).bag)

  abbrev both_posted : Line
  both_posted = with_bag first_posted at_two (arrived two (place first_posted at_two).bag)

  first_sent : send_all (sent one) stored ≡ first_posted
  first_sent = rw stored_numbers at (send_one stored i (rw stored_numbers k.sound.written.rising) stored_within one (λ m h. rw stored_numbers (known_one m h)))

  first_numbers : numbers first_posted ≡ numbers line
  first_numbers = bag_numbers stored at_one (arrived one (place stored at_one).bag) ∙ stored_numbers

  first_within : i < length first_posted
  first_within = rw (sym (length-map first_posted number) ∙ ap length first_numbers ∙ length-map line number) k.within

  posted : send_all (both_sent d.sendings) stored ≡ both_posted
  posted =
      send_append (sent one) (sent two) stored ∙ ap (send_all (sent two)) first_sent
      ∙ rw first_numbers at (send_one first_posted i (rw first_numbers k.sound.written.rising) first_within two (λ m h. rw first_numbers (known_two m h)))

  -- a receiver's bag is the one that it had before the step
  pub first_unmoved : (m : Send) → Member m (sent one) → place stored at_one ≡ place line at_one
  first_unmoved m h = get_or-set_other line i at_one (record { station = d.station; bag = left }) nobody (elsewhere one known_one (λ n. Memᴰ.append_left (sent two)) m h)

  pub second_unmoved : (m : Send) → Member m (sent two) → place first_posted at_two ≡ place line at_two
  second_unmoved m h =
      let other = get_or-set_other line i at_two (record { station = d.station; bag = left }) nobody (elsewhere two known_two (λ n. Memᴰ.append_right (sent one)) m h) in
      ap (λ (l : Line). place l at_two) (sym first_sent)
      ∙ untouched (sent one) stored at_two (rw (length-set line i (record { station = d.station; bag = left })) (receiver_within line two i k.within))
      (λ n g e. apart_across (sent one) (sent two) clear.once g h (sym e ∙ ap number other ∙ receiver_there line two i known_two m h))
      ∙ other

  -- the counts of the receivers' bags
  module _ (a b : ℕ) (a-is : a ≡ length (place line at_one).bag) (b-is : b ≡ length (place line at_two).bag) where
    rooms : all (has_room line) (both_sent d.sendings) ≡ (room_for one a && room_for two b)
    rooms =
        all_append (has_room line) (sent one) (sent two)
        ∙ ap₂ (λ (s t : Bool). s && t) (room_one line i k.sound.written.rising k.within one a known_one a-is)
        (room_one line i k.sound.written.rising k.within two b known_two b-is)

    committed : step line x ≡ require (room_for one a && room_for two b) Full (done (send_all (both_sent d.sendings) (replace (number here_is) (effect d left).after line)))
    unfolding ◌>>=◌ commit
    committed =
        steps k
        ∙ ap (λ (t : Bool). require t Full (done (send_all (both_sent d.sendings) (replace (number here_is) (effect d left).after line)))) rooms

    -- a bag that must receive holds 32
    pub step_full : (room_for one a && room_for two b) ≡ false → step line x ≡ refused Full
    step_full e = committed ∙ require_false _ Full _ e

    module _ (fit : (room_for one a && room_for two b) ≡ true) where
      -- nothing refuses the step
      pub step_fits : step line x ≡ done (send_all (both_sent d.sendings) (replace (number here_is) (effect d left).after line))
      step_fits = committed ∙ require_true _ Full _ fit

      -- the station stays
      pub step_stays : d.gone ≡ false → step line x ≡ done both_posted
      unfolding replace
      step_stays e =
          step_fits
          ∙ ap (λ (g : Bool). done (send_all (both_sent d.sendings) (replace (number here_is) (cond g None (Some (record { station = d.station; bag = left }))) line))) e
          ∙ ap (λ (l : Line). done (send_all (both_sent d.sendings) l))
          (change_at (number here_is) (λ (t : Node). record { station = d.station; bag = left }) line i nobody k.sound.written.rising k.within refl)
          ∙ ap done posted

      -- the station goes
      pub step_leaves : d.gone ≡ true
          → step line x ≡ done (remove_at i both_posted)
      unfolding replace
      step_leaves e =
          let after = send_all (both_sent d.sendings) stored in
          let same : numbers after ≡ numbers line = send_numbers (both_sent d.sendings) stored ∙ stored_numbers in
          let n = number here_is in
          let at : number (place after i) ≡ n = sym (map_at number after i nobody 0 (after_within after same)) ∙ ap (λ (l : List ℕ). get_or l i 0) same ∙ map_at number line i nobody 0 k.within in
          step_fits
          ∙ ap (λ (g : Bool). done (send_all (both_sent d.sendings) (replace n (cond g None (Some (record { station = d.station; bag = left }))) line))) e
          ∙ ap (λ (l : Line). done (send_all (both_sent d.sendings) l)) (gone_first ∙ sym gone_stored)
          ∙ ap done (sym (send_without n (both_sent d.sendings) stored) ∙ without_at n after i nobody (rw same k.sound.written.rising) (after_within after same) at)
          ∙ ap (λ (l : Line). done (remove_at i l)) posted
        where
          after_within : (after : Line) → numbers after ≡ numbers line → i < length after
          after_within after e = rw (sym (length-map after number) ∙ ap length e ∙ length-map line number) k.within

          gone_first : without (number here_is) line ≡ remove_at i line
          gone_first = without_at (number here_is) line i nobody k.sound.written.rising k.within refl

          gone_stored : without (number here_is) stored ≡ remove_at i line
          gone_stored =
              without_at (number here_is) stored i nobody (rw stored_numbers k.sound.written.rising) stored_within (ap number stored_here ∙ named)
              ∙ remove_set line i (record { station = d.station; bag = left })
