use Rattle.unpack_laws.proofs.MarksLeaving.{marks_unit}
use Rattle.unpack_laws.proofs.marked.what_is_marked.Goals as goal

pub returns : goal.returns
returns c = λ given places old now so_far amid. marks_unit given places old now so_far amid
