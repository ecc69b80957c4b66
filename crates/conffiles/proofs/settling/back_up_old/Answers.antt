use Rattle.std.proofs.Common.{sym, subst, ap, ◌∙◌, not}
use Rattle.std.specs.Prelude.{IsSome}
use Rattle.host_core.proofs.Moments.{since_then, since_weaker_if}
use Rattle.conffiles.specs.declared.decisions.Decision.TheVariants.{BackupOld}
use Rattle.conffiles.specs.Settling.{settled_files, backed_up, shipped_name, HasChanged, IsChanging, CanSettle}
use Rattle.conffiles.proofs.Settlings.{on_ok, reads_changing, reads_then_changing, shipped_some, copy_on_way, take_on_way, take_done, can_after}
use Rattle.conffiles.proofs.settling.back_up_old.Goals as goal

pub returns-in_err-kind-clause-any_moment : goal.returns-in_err-kind-clause-any_moment
returns-in_err-kind-clause-any_moment g c = reads_changing (settled_files BackupOld) c.args.path.now _ _ c.kind.ensures.reads c.requires

pub returns-then-is_none-clause-any_moment : goal.returns-then-is_none-clause-any_moment
returns-then-is_none-clause-any_moment g c = reads_changing (settled_files BackupOld) c.args.path.now _ _ c.kind.ensures.reads c.requires

pub returns-in_err-back_up-clause-any_moment : goal.returns-in_err-back_up-clause-any_moment
returns-in_err-back_up-clause-any_moment g c =
    let x = c.args.path.now in
    let old = (g.H.Host.state c.args.host.now).world in
    let mid = (g.H.Host.state c.kind.new.self).world in
    let same = sym c.kind.ensures.reads.world in
    reads_then_changing (settled_files BackupOld) x _ _ _ c.kind.ensures.reads c.requires
    (since_weaker_if _ _ _ _ (λ h so_far w is. copy_on_way x mid w (subst (λ v. IsSome (v (shipped_name x))) same (shipped_some old x _ _ c.in_ok-shipped.ensures (c.in_ok-kind.ensures.found (c.back_up.ensures.silent.honest h)) (c.is_none.ensures ∙ ap not c.if-is_none.false))) is) c.back_up.ensures.any_moment)

pub take_new-requires : goal.take_new-requires
take_new-requires g c = λ h.
    let x = c.args.path.now in
    let before = c.back_up.ensures.silent.honest h in
    let can = subst (CanSettle x) (sym c.kind.ensures.reads.world) (c.requires (c.kind.ensures.reads.honest before)) in
    can_after x _ _ can (c.in_ok-back_up.ensures.copied h)

pub returns-clause-settled : goal.returns-clause-settled
returns-clause-settled g c = λ h.
    let x = c.args.path.now in
    let old = (g.H.Host.state c.args.host.now).world in
    let last = c.take_new.ensures.silent.honest h in
    let before = c.back_up.ensures.silent.honest last in
    let some = shipped_some old x _ _ c.in_ok-shipped.ensures (c.in_ok-kind.ensures.found before) (c.is_none.ensures ∙ ap not c.if-is_none.false) in
    let copied = subst (λ w. HasChanged backed_up x w (g.H.Host.state c.back_up.new.host).world) c.kind.ensures.reads.world (c.in_ok-back_up.ensures.copied last) in
    on_ok c.take_new.result (take_done x old _ _ some copied) (c.take_new.ensures.settled h)

pub returns-clause-any_moment : goal.returns-clause-any_moment
returns-clause-any_moment g c =
    let x = c.args.path.now in
    let old = (g.H.Host.state c.args.host.now).world in
    let mid = (g.H.Host.state c.kind.new.self).world in
    let same = sym c.kind.ensures.reads.world in
    since_then (λ so_far. IsChanging (settled_files BackupOld) x old) _ _ _
    (reads_then_changing (settled_files BackupOld) x _ _ _ c.kind.ensures.reads c.requires
    (since_weaker_if _ _ _ _ (λ h so_far w is. copy_on_way x mid w (subst (λ v. IsSome (v (shipped_name x))) same (shipped_some old x _ _ c.in_ok-shipped.ensures (c.in_ok-kind.ensures.found (c.back_up.ensures.silent.honest h)) (c.is_none.ensures ∙ ap not c.if-is_none.false))) is) c.back_up.ensures.any_moment))
    (since_weaker_if _ _ _ _ (λ h so_far w is.
    let last = c.take_new.ensures.silent.honest h in
    take_on_way x old _ w (shipped_some old x _ _ c.in_ok-shipped.ensures (c.in_ok-kind.ensures.found (c.back_up.ensures.silent.honest last)) (c.is_none.ensures ∙ ap not c.if-is_none.false))
    (subst (λ v. HasChanged backed_up x v (g.H.Host.state c.back_up.new.host).world) c.kind.ensures.reads.world (c.in_ok-back_up.ensures.copied last)) is) c.take_new.ensures.any_moment)
