use Rattle.std.proofs.Common.{sym, refl, ◌∙◌}
use Rattle.std.proofs.lemmas.Result.{IfOk-weaker}
use Rattle.host_core.proofs.Moments.{since_start, since_weaker}
use Rattle.package_files.specs.Laid.{IsTakingPlace, IsCommitting}
use Rattle.package_files.proofs.PartWay.{taken_commits, same_commits, taking_commits, same_committing, can_take}
use Rattle.package_files.proofs.committing.commit_one.Goals as goal

pub returns-then-not-is_exchanged-clause-taken : goal.returns-then-not-is_exchanged-clause-taken
returns-then-not-is_exchanged-clause-taken g c = λ h whole. same_commits c.args.work.now _ _ (sym c.is_exchanged.ensures ∙ c.if-not-is_exchanged.true) refl

pub returns-then-not-is_exchanged-clause-any_moment : goal.returns-then-not-is_exchanged-clause-any_moment
returns-then-not-is_exchanged-clause-any_moment g c =
    let old = g.H.Host.state c.args.host.now in
    let x = c.args.work.now in
    since_start (λ so_far. IsCommitting x old.world) old (same_committing x old.world old.world (sym c.is_exchanged.ensures ∙ c.if-not-is_exchanged.true) refl)

pub take_place-requires-clause-ready : goal.take_place-requires-clause-ready
take_place-requires-clause-ready g c = λ h. can_take c.args.work.now _ (sym c.is_exchanged.ensures ∙ c.if-not-is_exchanged.false) (c.requires.ready h)

pub returns-clause-taken : goal.returns-clause-taken
returns-clause-taken g c = λ h.
    IfOk-weaker c.take_place.result _ _ (λ whole taken is. taken_commits c.args.work.now _ _ (sym c.is_exchanged.ensures ∙ c.if-not-is_exchanged.false) (taken is)) (c.take_place.ensures.taken h)

pub returns-clause-any_moment : goal.returns-clause-any_moment
returns-clause-any_moment g c =
    let old = g.H.Host.state c.args.host.now in
    let x = c.args.work.now in
    since_weaker (λ so_far. IsTakingPlace x old.world) (λ so_far. IsCommitting x old.world) old (g.H.Host.state c.take_place.new.host)
    (λ so_far w taking. taking_commits x old.world w (sym c.is_exchanged.ensures ∙ c.if-not-is_exchanged.false) taking) c.take_place.ensures.any_moment
