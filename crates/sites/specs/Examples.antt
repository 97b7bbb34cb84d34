-- Situations of document 01 ("Thirteen situations to try") with site codes (document 02, T-05): one for each way in which a step changes a
-- station, and a refused step.
use Rattle.std.specs.Prelude.{List, [], ◌∷◌, Some, None}
use Rattle.line.specs.declared.Side.TheVariants.{Left}
use Rattle.line.specs.Message.{introduction, removal}
use Rattle.line.specs.Node.{at_site}
use Rattle.line.specs.Situations.{Situation, doing, refusing, staying, leaving, single, deliver_to, exit_of}
use Rattle.sites.specs.Sites.{without_sites}

-- a situation with all codes taken out
abbrev pub situation_without_sites : Situation → Situation
situation_without_sites x =
    record { before = without_sites x.before; step = x.step; answer = x.answer; steps = x.steps; after = without_sites x.after }

unfoldable pub site_situations : List Situation
site_situations =
    -- 1: a neighbour is set, and a station receives; 9 has no code
    doing
    (at_site 9999 (single 3 []) ∷ at_site 256 (staying 5 (Some 3) (Some 9) (introduction 7 ∷ [])) ∷ at_site 1 (single 7 []) ∷ single 9 [] ∷ [])
    (deliver_to 5 (introduction 7))
    (at_site 9999 (single 3 []) ∷ at_site 256 (staying 5 (Some 3) (Some 7) []) ∷ at_site 1 (single 7 (introduction 9 ∷ [])) ∷ single 9 [] ∷ []) ∷
    -- 6: a neighbour is dropped
    doing
    (at_site 9999 (single 3 []) ∷ at_site 256 (staying 5 (Some 3) (Some 9) (removal Left ∷ [])) ∷ at_site 1 (single 9 []) ∷ [])
    (deliver_to 5 (removal Left))
    (at_site 9999 (single 3 (introduction 5 ∷ [])) ∷ at_site 256 (staying 5 None (Some 9) []) ∷ at_site 1 (single 9 []) ∷ []) ∷
    -- 10: a station goes, and its code with it
    doing
    (at_site 9999 (single 3 []) ∷ at_site 256 (leaving 5 (Some 3) (Some 9) []) ∷ at_site 1 (single 9 []) ∷ [])
    (exit_of 5)
    (at_site 9999 (single 3 (introduction 9 ∷ [])) ∷ at_site 1 (single 9 (introduction 3 ∷ [])) ∷ []) ∷
    -- 11: refused with 14
    refusing
    (at_site 9999 (single 3 []) ∷ at_site 256 (leaving 5 (Some 3) (Some 9) (removal Left ∷ [])) ∷ at_site 1 (single 9 []) ∷ [])
    (exit_of 5) 14 ∷ []
