-- What a tally keeps from one call to the next.
use Rattle.std.proofs.Common.{ℕ, ◌≡◌, ◌∙◌, length, refl}
use Rattle.mentions.specs.declared.Tally.{Tally}
use Rattle.mentions.specs.Tally.{Below}
use Rattle.mentions.specs.Growing.{Ready, Keeps}

pub keeps_itself : (t : Tally) → length t.counts.now ≡ length t.smallest.now → Keeps t t
keeps_itself t e = record { index = refl; counts = refl; smallest = refl; alike = e }

pub keeps_more : {a b c : Tally} → Keeps a b → Keeps b c → Keeps a c
keeps_more k m = record { index = m.index ∙ k.index; counts = m.counts ∙ k.counts; smallest = m.smallest ∙ k.smallest; alike = m.alike }

pub ready_after : {a b : Tally} {j k : ℕ} → Ready j a → Keeps a b → Below k b.counts.now → Ready k b
ready_after r m h = record { rising = rw m.index r.rising; alike = m.alike; below = h }
