use Rattle.std.proofs.Common.{subst}
use Rattle.std.specs.List.Sorted.{IsPermutation}
use Rattle.std.proofs.lemmas.Result.{IfOk-weaker}
use Rattle.host_core.specs.Paths.{Path}
use Rattle.file_lists.proofs.Sorting.{same_moved}
use Rattle.file_lists.proofs.ordering.in_order.Goals as goal

pub returns-clause-same : goal.returns-clause-same
returns-clause-same c =
    let moves = subst (λ l. IsPermutation {X = Path} l c.sort_by.new.self.items) c.sorted.view_is c.sort_by.ensures.permutation in
    IfOk-weaker c.each_once.result _ _ (λ drawn same. same_moved c.args.paths c.sort_by.new.self.items drawn moves same) c.each_once.ensures.same
