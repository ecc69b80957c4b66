use Rattle.disappearance.proofs.Asides.{all_aside, all_later, all_order, amid_aside}
use Rattle.disappearance.proofs.laws.what_disappearances_leave.Goals as goal

pub returns-clause-later : goal.returns-clause-later
returns-clause-later c = λ incoming version ways. all_later incoming version ways

pub returns-clause-order : goal.returns-clause-order
returns-clause-order c = λ incoming version ways. all_order incoming version ways

pub returns-clause-aside : goal.returns-clause-aside
returns-clause-aside c = λ incoming version ways losing names failed before after s t told now q aside own run honest.
    all_aside c.what_stages_leave.ensures.run c.what_stages_leave.ensures.running q own incoming version ways losing names failed before after s t told now aside run honest

pub returns-clause-amid : goal.returns-clause-amid
returns-clause-amid c = λ incoming version ways losing before s so_far now q aside own amid.
    amid_aside c.what_stages_leave.ensures.run c.what_stages_leave.ensures.running q own incoming version ways losing before s so_far now aside amid

pub returns-clause-opens : goal.returns-clause-opens
returns-clause-opens c = λ incoming version ways losing before s so_far now amid. amid.opens
