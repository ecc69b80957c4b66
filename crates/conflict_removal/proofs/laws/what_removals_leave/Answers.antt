use Rattle.conflict_removal.proofs.Left.{amid_aside, removed_aside, removed_later, removed_order}
use Rattle.conflict_removal.proofs.laws.what_removals_leave.Goals as goal

pub returns-clause-later : goal.returns-clause-later
returns-clause-later c = λ ways. removed_later ways c.what_a_run_of_stages_leaves.ensures.later

pub returns-clause-order : goal.returns-clause-order
returns-clause-order c = λ ways. removed_order ways c.what_a_run_of_stages_leaves.ensures.later

pub returns-clause-aside : goal.returns-clause-aside
returns-clause-aside c = λ ways names failed before after s t told now q aside own removed h.
    removed_aside ways c.what_a_run_of_stages_leaves.ensures.later q own c.what_stages_leave.ensures.run names failed before after s t told now aside removed h

pub returns-clause-amid : goal.returns-clause-amid
returns-clause-amid c = λ ways names before s so_far now q aside own amid.
    amid_aside ways c.what_a_run_of_stages_leaves.ensures.later q own c.what_stages_leave.ensures.run c.what_stages_leave.ensures.running names before s so_far now aside amid

pub returns-clause-opens : goal.returns-clause-opens
returns-clause-opens c = λ ways names before s so_far now amid. amid.opens
