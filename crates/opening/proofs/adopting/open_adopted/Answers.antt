use Rattle.host_core.proofs.Moments.{since_now}
use Rattle.opening.specs.Parts.{fault_in}
use Rattle.opening.proofs.Brought.{brought_then, later_of}
use Rattle.opening.proofs.TakingUp.{moments_adopted, moments_open, opens_refused, opens_taken, taken_up}
use Rattle.opening.proofs.adopting.open_adopted.Goals as goal

pub returns-in-Ok-clause-opens : goal.returns-in-Ok-clause-opens
returns-in-Ok-clause-opens g c = λ h.
    let before = c.take_up.ensures.silent.honest h in
    let opened = c.in-Ok.opened in
    opens_taken (fault_in c.take_up.result) opened.diversions.ways opened.database.records _ _ _ (c.in-Ok.ensures.opens before) c.take_up.ensures.sound (c.in-Ok.ensures.opened before).records.holds c.in-Ok.ensures.one (since_now _ _ _ c.take_up.ensures.any_moment h)

pub returns-in-Ok-clause-taken_up : goal.returns-in-Ok-clause-taken_up
returns-in-Ok-clause-taken_up g c = λ h.
    let before = c.take_up.ensures.silent.honest h in
    taken_up c.take_up.result c.in-Ok.opened _ _ _ (c.in-Ok.ensures.opens before) (c.in-Ok.ensures.opened before) (c.in-Ok.ensures.followed before) c.in-Ok.ensures.one c.take_up.ensures.lists c.take_up.ensures.diversions
    (c.take_up.ensures.records h) (c.take_up.ensures.still h) (c.take_up.ensures.rest h)

pub returns-in-Ok-clause-any_moment : goal.returns-in-Ok-clause-any_moment
returns-in-Ok-clause-any_moment g c =
    let opened = c.in-Ok.opened in
    moments_adopted opened.diversions.ways opened.database.records opened.lists.lists _ _ _ c.in-Ok.ensures.opened c.take_up.ensures.silent.honest c.open_of_one.ensures.any_moment c.take_up.ensures.any_moment

pub returns-in-Ok-clause-brought : goal.returns-in-Ok-clause-brought
returns-in-Ok-clause-brought g c = λ h stopped. brought_then c.take_up.result _ _ _ (c.in-Ok.ensures.brought (c.take_up.ensures.silent.honest h) stopped) (later_of _ _ _ c.take_up.ensures.any_moment)

pub returns-in-Err-clause-opens : goal.returns-in-Err-clause-opens
returns-in-Err-clause-opens g c = λ h. opens_refused c.in-Err.fault _ _ (c.in-Err.ensures.shut h)

pub returns-in-Err-clause-any_moment : goal.returns-in-Err-clause-any_moment
returns-in-Err-clause-any_moment g c = moments_open _ _ c.open_of_one.ensures.any_moment
