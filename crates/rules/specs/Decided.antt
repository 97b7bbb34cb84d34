-- What the code's answers say in the terms of the step rules (document 01, "What a step does at station p").
use Rattle.std.specs.Prelude.{◌≡◌, Bool, true, false, cond, List, [], ◌++◌, Some, None, Ok, Err, Option, Result, IfOk}
use Rattle.line.specs.Types.{Leave}
use Rattle.line.specs.declared.Station as declared
use Rattle.line.specs.declared.Message.{Message}
use Rattle.line.specs.declared.Action.{Action}
use Rattle.line.specs.declared.Action.TheVariants.{Timeout, Deliver, Exit}
use Rattle.line.specs.declared.Refusal.{Refusal}
use Rattle.line.specs.Message.{holds, remove}
use Rattle.line.specs.Answer.{Answer, refused, done}
use Rattle.line.specs.Act.{Send, send, Reaction, Effect, act}
use Rattle.rules.specs.declared.Sending.{Sending}
use Rattle.rules.specs.declared.Sendings.{Sendings}
use Rattle.rules.specs.declared.Reacted.{Reacted}
use Rattle.rules.specs.declared.Decision.{Decision}

-- nothing, or one message to one station
abbrev pub sent : Option Sending → List Send
sent None = []
sent (Some x) = send x.to x.message

abbrev pub both_sent : Sendings → List Send
both_sent p = sent p.first ++ sent p.second

abbrev pub reaction : Reacted → Reaction
reaction r = record { station = r.station; sends = sent r.sending }

-- whether the bag holds the message of a delivery
abbrev pub is_found : Action → List Message → Bool
is_found Timeout b = false
is_found (Deliver m) b = holds m b
is_found Exit b = false

-- the bag of the station after the step: "one copy leaves p's bag"
abbrev pub rest : Action → List Message → List Message
rest Timeout b = b
rest (Deliver m) b = remove m b
rest Exit b = b

-- what the decision does, where b is the bag afterwards
abbrev pub effect : Decision → List Message → Effect
effect d b = record { after = cond d.gone None (Some (record { station = d.station; bag = b })); sends = both_sent d.sendings }

-- the refusal, or the effect
abbrev pub decided : Result Decision Refusal → List Message → Answer Effect
decided (Ok d) b = done (effect d b)
decided (Err r) b = refused r

-- r is the decision of station s with the bag b; a station that goes is the one that it was
pub record Decides (l : Leave) (s : declared.Station) (b : List Message) (a : Action) (r : Result Decision Refusal) : Type 0 where
  pub says : decided r (rest a b) ≡ act l (record { station = s; bag = b }) a
  pub itself : IfOk r (λ d. d.gone ≡ true → d.station ≡ s)
