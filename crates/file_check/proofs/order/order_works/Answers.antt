use Rattle.std.proofs.Common.{rules}
use Rattle.std.proofs.lemmas.List.Sorted.{answers_always}
use Rattle.std.proofs.lemmas.Map.Keys.{IsDistinct-IsPermutation}
use Rattle.file_check.specs.Ready.{is_one_place}
use Rattle.file_check.proofs.Ordering.{is_before, ranks, in_order, one_place_flips}
use Rattle.file_check.proofs.order.order_works.Goals as goal

pub returns-clause-order : goal.returns-clause-order
returns-clause-order c = λ distinct.
    in_order _ (c.sort_unstable_by.ensures.sorted is_before ranks (answers_always _ _ _ (λ f a r f' k. search rules)))
    (IsDistinct-IsPermutation is_one_place one_place_flips _ _ c.sort_unstable_by.ensures.permutation distinct)
