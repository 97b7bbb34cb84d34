use Rattle.steps.proofs.Writing.{fields_written}
use Rattle.steps.proofs.write_fields.Goals as goal

pub returns : goal.returns
returns c = search fields_written
