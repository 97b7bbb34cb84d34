-- The same by place, where the numbers of a line rise: the node at place i has the number q.
use Prim.Native.Nat.{ℕ, zero, suc, ◌<◌}
use mathlib.Core.Path.{◌≡◌, refl, sym, ap, ◌∙◌}
use mathlib.Core.Logic.{◌≢◌}
use mathlib.Core.List.Memᴰ.{head as here}
use mathlib.Core.List.Memᴰ.{tail as there}
use mathlib.Core.List.{List, [], ◌∷◌, map, Memᴰ as Member}
use native.Mathlib.Nat.{le_of_suc-le-suc, not-suc-le-zero}
use native.Mathlib.Omega.{arith}
use lib.Dec.{ltb}
use lib.ListN.{length, get_or, set, length-map}
use lib.Seq.{map-set_same}
use borrow.Author.Tests.{eq-eqb, ne_eqb}
use Rattle.lists.specs.Places.{remove_at}
use Rattle.lists.specs.Numbers.{Rising}
use Rattle.lists.proofs.Lists.{mem-map}
use Rattle.lists.proofs.Elements.{member_at, map_at}
use Rattle.lists.proofs.Distinct.{same_truth, rising_distinct}
use Rattle.line.specs.declared.Message.{Message}
use Rattle.line.specs.Answer.{done}
use Rattle.line.specs.Message.{put, capacity}
use Rattle.line.specs.Node.{Node, Line, number, numbers, nobody}
use Rattle.line.specs.Act.{Send, send}
use Rattle.line.specs.Step.{find, change, without, with_message, send_all, has_room}
use Rattle.line.proofs.Changes.{unique, member_found, Nowhere, change_same, change_other, change_nowhere, without_nowhere, room_true, true_room}

-- the node at a place, and the line with another bag there
abbrev pub place : Line → ℕ → Node
place line a = get_or line a nobody

abbrev pub with_bag : Line → ℕ → List Message → Line
with_bag line a b = set line a (record { station = (place line a).station; bag = b })

-- another bag leaves the numbers as they are
pub bag_numbers : (line : Line) (a : ℕ) (b : List Message) → numbers (with_bag line a b) ≡ numbers line
bag_numbers line a b = map-set_same number line a (record { station = (place line a).station; bag = b }) nobody refl

-- behind the one with the number, and in front of it
behind : (t : Node) (line : Line) {q : ℕ} → Rising (numbers (t ∷ line)) → number t ≡ q → Nowhere q line
behind t line r e u m f = omega (arith, r.0 (number u) (mem-map number m), e, f)

before : (t : Node) (line : Line) (i : ℕ) (d : Node) {q : ℕ} → Rising (numbers (t ∷ line)) → i < length line → number (get_or line i d) ≡ q → number t ≢ q
before t line i d r h e f = omega (arith, r.0 (number (get_or line i d)) (mem-map number (member_at line i d h)), e, f)

pub find_at : (q : ℕ) (line : Line) (i : ℕ) (d : Node) → Rising (numbers line) → i < length line → number (get_or line i d) ≡ q → find q line ≡ done (get_or line i d)
find_at q line i d r h e = member_found q line (rising_distinct (numbers line) r) (member_at line i d h) e

pub change_at : (q : ℕ) (f : Node → Node) (line : Line) (i : ℕ) (d : Node) → Rising (numbers line) → i < length line → number (get_or line i d) ≡ q
    → map (change q f) line ≡ set line i (f (get_or line i d))
change_at q f [] i d r h e = absurd (not-suc-le-zero h)
change_at q f (t ∷ line) zero d r h e = rw (change_same q f t e, change_nowhere q f line (behind t line r e))
change_at q f (t ∷ line) (suc i) d r h e =
    rw (change_other q f t (before t line i d r (le_of_suc-le-suc h) e), change_at q f line i d r.1 (le_of_suc-le-suc h) e)

pub without_at : (q : ℕ) (line : Line) (i : ℕ) (d : Node) → Rising (numbers line) → i < length line → number (get_or line i d) ≡ q → without q line ≡ remove_at i line
unfolding without remove_at
without_at q [] i d r h e = absurd (not-suc-le-zero h)
without_at q (t ∷ line) zero d r h e = rw (eq-eqb (number t) q e) (without_nowhere q line (behind t line r e))
without_at q (t ∷ line) (suc i) d r h e =
    rw (ne_eqb (number t) q (before t line i d r (le_of_suc-le-suc h) e)) (ap (λ (z : Line). t ∷ z) (without_at q line i d r.1 (le_of_suc-le-suc h) e))

pub room_at : (m : Send) (line : Line) (i : ℕ) (d : Node) → Rising (numbers line) → i < length line → number (get_or line i d) ≡ m.to
    → has_room line m ≡ ltb (length (get_or line i d).bag) capacity
room_at m line i d r h e =
    let here_is = member_at line i d h in
    same_truth (has_room line m) (ltb (length (get_or line i d).bag) capacity) (λ b. room_true m line b (get_or line i d) here_is e)
    (λ b. true_room m line (λ t k z. rw (unique line (rising_distinct (numbers line) r) k here_is (z ∙ sym e)) b))

-- one message is one bag stored
pub send_at : (q : ℕ) (m : Message) (line : Line) (i : ℕ) → Rising (numbers line) → i < length line → number (place line i) ≡ q
    → send_all (send q m) line ≡ with_bag line i (put m (place line i).bag)
unfolding send_all with_message
send_at q m line i r h e = change_at q (with_message m) line i nobody r h e

-- a node to which nothing is sent
pub untouched : (l : List Send) (line : Line) (k : ℕ) → k < length line → ((m : Send) → Member m l → number (place line k) ≢ m.to) → place (send_all l line) k ≡ place line k
unfolding send_all
untouched [] line k h away = refl
untouched (m ∷ l) line k h away =
    let f = change m.to (with_message m.message) in
    let one : place (map f line) k ≡ place line k = map_at f line k nobody nobody h ∙ change_other m.to (with_message m.message) (place line k) (away m (here refl)) in
    untouched l (map f line) k (rw (length-map line f) h) (λ n g e. away n (there g) (sym (ap number one) ∙ e)) ∙ one
