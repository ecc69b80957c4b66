use Rattle.std.proofs.Common.{List, sym, subst, ◌∙◌}
use Rattle.host_core.specs.Paths.{Path}
use Rattle.file_check.specs.Ships.{FitsConffiles}
use Rattle.file_lists.specs.Increasing.{AreIncreasing}
use Rattle.tests_steps.proofs.Unsettled.{fits_none}
use Rattle.tests_steps.proofs.alias_rows.works_behind.Goals as goal

pub works_of-requires-clause-order : goal.works_of-requires-clause-order
works_of-requires-clause-order c = subst AreIncreasing (sym (c.as_slice.ensures.value ∙ c.new-conffiles.ensures.items)) tt

pub works_of-requires-clause-conffiles : goal.works_of-requires-clause-conffiles
works_of-requires-clause-conffiles c = subst (λ (l : List Path). FitsConffiles l c.in_ok-files.files.items) (sym (c.as_slice.ensures.value ∙ c.new-conffiles.ensures.items)) (fits_none c.in_ok-files.files.items)
