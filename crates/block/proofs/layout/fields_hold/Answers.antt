use Rattle.block.proofs.FieldLaws.{count_small, header_good, header_bad}
use Rattle.block.proofs.layout.fields_hold.Goals as goal

pub rest_holds-requires : goal.rest_holds-requires
rest_holds-requires c = search count_small

pub returns-then-header_holds : goal.returns-then-header_holds
returns-then-header_holds c = search header_good

pub returns-else-header_holds : goal.returns-else-header_holds
returns-else-header_holds c = search header_bad
