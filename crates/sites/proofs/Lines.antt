-- So site codes play no part in runs, in the written order, nor in whether a line is in line.
use mathlib.Core.Path.{◌≡◌, refl, sym, ◌∙◌, ap}
use Rattle.std.specs.Prelude.{Some, None, Ok, Err}
use Rattle.line.specs.Types.{Neighbour, Reading}
use mathlib.Core.List.{List, [], ◌∷◌, map}
use Rattle.line.specs.Answer.{Answer, refused, done}
use Rattle.lists.specs.Lists.{sort}
use Rattle.line.specs.Node.{Line, number, at_site, lower, with_bag_in_order, in_written_order}
use Rattle.line.specs.InLine.{first, neighbours_after, neighbours_in_line, is_quiet, stays, in_line}
use Rattle.line.specs.Run.{try, run}
use Rattle.lists.proofs.Lists.{sort-map}
use Rattle.line.proofs.Runs.{AnswersAlike, run_simulates}
use Rattle.sites.specs.Sites.{without_sites, run_without_sites}
use Rattle.sites.specs.Claims.{SitesPlayNoPart}
use Rattle.sites.proofs.Stations.{done_with}
use Rattle.sites.proofs.Steps.{leaving_same, all_same, steps_same}

-- one line is the other with all codes taken out
abbrev Bare : Line → Line → Type 0
Bare a b = without_sites a ≡ b

tries : (line : Line) (x : Reading) → try (without_sites line) x ≡ done_with without_sites (try line x)
unfolding try
tries line (Ok x) = steps_same line x
tries line (Err r) = refl

answered : (a b : Line) (x : Reading) → Bare a b → AnswersAlike Bare (try a x) (try b x)
answered a b x h = rw (← h, tries a x) (go (try a x))
  where
    go : (z : Answer Line) → AnswersAlike Bare z (done_with without_sites z)
    go (refused r) = refl
    go (done line) = refl

runs_same : (line : Line) (l : List Reading) → run (without_sites line) l ≡ run_without_sites (run line l)
runs_same line l =
    let w = run_simulates Bare answered l line (without_sites line) refl in
    λ i. record { ending = sym w.ending i; steps = sym w.steps i; line = sym w.lines i }

-- the order looks at numbers alone
ordered : (line : Line) → in_written_order (without_sites line) ≡ without_sites (in_written_order line)
unfolding in_written_order with_bag_in_order lower at_site
ordered line = ap (sort lower) (tidied line) ∙ sym (sorted (map with_bag_in_order line))
  where
    tidied : (line : Line) → map with_bag_in_order (without_sites line) ≡ without_sites (map with_bag_in_order line)
    tidied [] = refl
    tidied (s ∷ line) = rw (tidied line)

    sorted : (line : Line) → without_sites (sort lower line) ≡ sort lower (without_sites line)
    sorted line = sort-map (at_site 0) lower line

-- in line looks at neighbours, bags and leaving marks
neighbours_same : (before : Neighbour) (line : Line) → neighbours_after before (without_sites line) ≡ neighbours_after before line
unfolding neighbours_after first at_site
neighbours_same before [] = refl
neighbours_same before (s ∷ []) = refl
neighbours_same before (s ∷ t ∷ line) = rw (neighbours_same (Some (number s)) (t ∷ line))

lined_same : (line : Line) → in_line (without_sites line) ≡ in_line line
unfolding in_line neighbours_in_line is_quiet at_site
lined_same line = rw (neighbours_same None line, all_same is_quiet (λ s. refl) line, all_same stays (λ s. refl) line)

pub sites_play_no_part : SitesPlayNoPart
sites_play_no_part = record { order = ordered; nidec = leaving_same; lined = lined_same; runs = runs_same }
