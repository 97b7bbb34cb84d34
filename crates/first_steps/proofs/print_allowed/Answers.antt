use Rattle.first_steps.proofs.Within.{listed_within, listed_taken}
use Rattle.first_steps.proofs.print_allowed.Goals as goal

-- What the list's function says of its answer: the list lies within the room.
pub slice_bounds-print_steps-end : goal.slice_bounds-print_steps-end
slice_bounds-print_steps-end g c = search listed_within

pub slice_bounds-print_steps-end-2 : goal.slice_bounds-print_steps-end-2
slice_bounds-print_steps-end-2 g c = search listed_taken

pub returns : goal.returns
returns g c = search listed_within
