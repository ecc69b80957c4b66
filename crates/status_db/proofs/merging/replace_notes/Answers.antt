use Rattle.std.proofs.Common.{◌≡◌, true, refl, sym, subst}
use Rattle.host_core.specs.Host.{AtEachMoment}
use Rattle.host_core.proofs.Moments.{since_then, since_weaker, since_weaker_if}
use Rattle.host_core.specs.Paths.{is_path}
use Rattle.host_core.specs.World.{HasParent}
use Rattle.administration.specs.Files.{NoDirectory, IsReplaced, IsReplacing}
use Rattle.administration.specs.Places.{status_path, temporary}
use Rattle.status_db.specs.Taking.{IsReplacingNotes, IsTakingNotes}
use Rattle.status_db.proofs.NotedWorlds.{replacing_notes_not, status_parent}
use Rattle.status_db.proofs.Taken.{replacing_file, replacing_notes, replaced_by, files_after}
use Rattle.administration.specs.Places.{home_path}
use Rattle.status_db.proofs.RecordTurns.{goes_here, later_by, status_alone}
use Rattle.status_db.specs.Held.{is_record_place}
use Rattle.scattered_losses.proofs.TakingTurns.{turns_by_moments}
use Rattle.status_db.proofs.merging.replace_notes.Goals as goal

pub replace-requires-clause-room : goal.replace-requires-clause-room
replace-requires-clause-room g c = subst (λ p. is_path (temporary p) ≡ true) (sym c.in_ok-path.ensures) refl

pub replace-requires-clause-parent : goal.replace-requires-clause-parent
replace-requires-clause-parent g c = λ h. subst (HasParent (g.H.Host.state c.args.host.now).world) (sym c.in_ok-path.ensures) (status_parent _ (c.requires.unblocked h))

pub replace-requires-clause-target : goal.replace-requires-clause-target
replace-requires-clause-target g c = λ h. subst (λ p. NoDirectory ((g.H.Host.state c.args.host.now).world p)) (sym c.in_ok-path.ensures) (c.requires.target h)

pub replace-requires-clause-spare : goal.replace-requires-clause-spare
replace-requires-clause-spare g c = λ h. subst (λ p. NoDirectory ((g.H.Host.state c.args.host.now).world (temporary p))) (sym c.in_ok-path.ensures) (c.requires.unblocked h).status_spare

pub returns-in_err-replace-clause-any_moment : goal.returns-in_err-replace-clause-any_moment
returns-in_err-replace-clause-any_moment g c =
    let old = g.H.Host.state c.args.host.now in
    let first = subst (λ p. AtEachMoment (IsReplacing p c.args.status.now) old (g.H.Host.state c.replace.new.host)) c.in_ok-path.ensures c.replace.ensures.any_moment in
    since_weaker _ _ _ _ (λ so_far w is. replacing_file c.args.status.now old.world w is) first

pub take_merged-requires-clause-files : goal.take_merged-requires-clause-files
take_merged-requires-clause-files g c = λ h n lt.
    let old = g.H.Host.state c.args.host.now in
    let there = subst (λ p. IsReplaced p c.args.status.now old.world (g.H.Host.state c.replace.new.host).world) c.in_ok-path.ensures (c.in_ok-replace.ensures.replaced h) in
    files_after c.args.status.now old.world (g.H.Host.state c.replace.new.host).world there n (c.requires.files (c.replace.ensures.silent.honest h) n lt)

pub returns-clause-merged : goal.returns-clause-merged
returns-clause-merged g c = λ h.
    let old = g.H.Host.state c.args.host.now in
    let there = subst (λ p. IsReplaced p c.args.status.now old.world (g.H.Host.state c.replace.new.host).world) c.in_ok-path.ensures (c.in_ok-replace.ensures.replaced (c.take_merged.ensures.silent.honest h)) in
    replaced_by c.take_merged.result c.args.status.now c.args.count old.world (g.H.Host.state c.replace.new.host).world (g.H.Host.state c.take_merged.new.host).world there (c.take_merged.ensures.taken h)

pub returns-clause-any_moment : goal.returns-clause-any_moment
returns-clause-any_moment g c =
    let old = g.H.Host.state c.args.host.now in
    let mid = g.H.Host.state c.replace.new.host in
    let first = subst (λ p. AtEachMoment (IsReplacing p c.args.status.now) old mid) c.in_ok-path.ensures c.replace.ensures.any_moment in
    since_then _ _ _ _ (since_weaker _ (λ so_far. IsReplacingNotes c.args.status.now old.world) _ _ (λ so_far w is. replacing_file c.args.status.now old.world w is) first)
    (since_weaker_if (λ so_far. IsTakingNotes mid.world) (λ so_far. IsReplacingNotes c.args.status.now old.world) _ _ (λ h so_far w is. replacing_notes c.args.status.now old.world mid.world w
    (subst (λ p. IsReplaced p c.args.status.now old.world mid.world) c.in_ok-path.ensures (c.in_ok-replace.ensures.replaced (c.take_merged.ensures.silent.honest h))) is) c.take_merged.ensures.any_moment)

pub returns-in_err-path-clause-any_moment : goal.returns-in_err-path-clause-any_moment
returns-in_err-path-clause-any_moment g c = replacing_notes_not c.args.status.now _ c.requires.unblocked

pub returns-in_err-path-clause-turns : goal.returns-in_err-path-clause-turns
returns-in_err-path-clause-turns g c = goes_here _

pub returns-in_err-replace-clause-turns : goal.returns-in_err-replace-clause-turns
returns-in_err-replace-clause-turns g c = λ h.
    let old = g.H.Host.state c.args.host.now in
    let first = subst (λ p. AtEachMoment (IsReplacing p c.args.status.now) old (g.H.Host.state c.replace.new.host)) c.in_ok-path.ensures c.replace.ensures.any_moment in
    turns_by_moments is_record_place home_path old (g.H.Host.state c.replace.new.host) h (since_weaker _ _ _ _ (λ so_far w is. status_alone c.args.status.now old.world w is) first)

pub returns-clause-turns : goal.returns-clause-turns
returns-clause-turns g c = λ h.
    let old = g.H.Host.state c.args.host.now in
    let mid = g.H.Host.state c.replace.new.host in
    let first = subst (λ p. AtEachMoment (IsReplacing p c.args.status.now) old mid) c.in_ok-path.ensures c.replace.ensures.any_moment in
    c.take_merged.ensures.turns old (later_by (IsReplacing status_path c.args.status.now) old mid first)
    (turns_by_moments is_record_place home_path old mid (c.take_merged.ensures.silent.honest h) (since_weaker _ _ _ _ (λ so_far w is. status_alone c.args.status.now old.world w is) first)) h
