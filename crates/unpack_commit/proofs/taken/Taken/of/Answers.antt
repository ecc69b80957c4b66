use Rattle.std.proofs.Common.{ap, ◌∙◌}
use Rattle.std.specs.List.{list_any}
use Rattle.std.specs.Str.{bytes_eq}
use Rattle.unpack_commit.proofs.taken.Taken.of.Goals as goal

pub invariant_of-result : goal.invariant_of-result
invariant_of-result c = λ q. c.in_ok-texts.ensures q ∙ ap (list_any (bytes_eq q)) c.as_slice.ensures.value
