use Rattle.std.proofs.Common.{◌≡◌, ◌++◌, ℕ, List, ap, refl, subst, sym, ◌∙◌}
use Rattle.undo_rows.specs.Transcript.{TellsAll}
use Rattle.unit_reports.specs.Held.{held_by}
use Rattle.unit_reports.specs.Units.{calls_of}
use Rattle.unit_reports.specs.Watching.{IsTold}
use Rattle.unit_reports.specs.declared.report.Unit.{Unit as AUnit}
use Rattle.dpkg_session.specs.Turns.{unread}
use Rattle.dpkg_session.proofs.Told.{tells_whole}
use Rattle.dpkg_session.proofs.Turned.{all_taken, broken_taken, writable_stays, lent_stays}
use Rattle.dpkg_session.proofs.unpacks.take_trees.Goals as goal

pub run_units-requires-clause-between : goal.run_units-requires-clause-between
run_units-requires-clause-between g c = c.requires.indexed

pub returns-in-Ok-clause-run : goal.returns-in-Ok-clause-run
returns-in-Ok-clause-run g c =
    let done = c.in-Ok.ensures.turned in
    let us = done.turned.turned in
    let new = c.run_units.new.turns in
    all_taken g.T.Trees.reads g.T.Trees.words _ _ (held_by c.args.administration.now c.args.unpacks.now.diversions.now) (g.H.Host.state c.args.host.now) c.requires.none us done.q (unread new.trees.now new.labels.now new.diversions.now (new.trees.ghost_name, new.labels.ghost_name, new.diversions.ghost_name)) (held_by c.run_units.new.administration new.diversions.now) (g.H.Host.state c.run_units.new.host) _
    done.turned.come done.ended (g.H.Host.settled c.run_units.new.host) (done.turned.are ∙ ap (λ (l : List AUnit). l ++ us) c.new-units.ensures.items) refl

pub returns-in-Err-clause-run : goal.returns-in-Err-clause-run
returns-in-Err-clause-run g c =
    let stop = c.in-Err.ensures.stopped in
    let us = stop.turned.turned in
    let new = c.run_units.new.turns in
    broken_taken g.T.Trees.reads g.T.Trees.words _ _ (held_by c.args.administration.now c.args.unpacks.now.diversions.now) (g.H.Host.state c.args.host.now) c.requires.none us stop.q (unread new.trees.now new.labels.now new.diversions.now (new.trees.ghost_name, new.labels.ghost_name, new.diversions.ghost_name)) stop.after (held_by c.run_units.new.administration new.diversions.now) stop.m (g.H.Host.state c.run_units.new.host) c.in-Err.unit _
    stop.turned.come stop.broken.called (g.H.Host.settled c.run_units.new.host) (stop.turned.are ∙ ap (λ (l : List AUnit). l ++ us) c.new-units.ensures.items) refl

pub returns-in-Ok-clause-told : goal.returns-in-Ok-clause-told
returns-in-Ok-clause-told g c =
    let old = g.H.Host.state c.args.host.now in
    let new = g.H.Host.state c.run_units.new.host in
    let us = c.run_units.new.units.items in
    tells_whole old new us (subst (λ (l : List AUnit). TellsAll old new (calls_of l) (calls_of us)) c.new-units.ensures.items c.in-Ok.ensures.told)

pub returns-in-Err-clause-told : goal.returns-in-Err-clause-told
returns-in-Err-clause-told g c =
    let old = g.H.Host.state c.args.host.now in
    let new = g.H.Host.state c.run_units.new.host in
    let us = c.run_units.new.units.items in
    subst (λ (l : List AUnit). TellsAll old new (calls_of l) (calls_of us ++ c.in-Err.unit.calls.items)) c.new-units.ensures.items c.in-Err.ensures.told_stopped

pub returns-in-Ok-clause-watched : goal.returns-in-Ok-clause-watched
returns-in-Ok-clause-watched g c =
    let tells = c.run_units.ensures.watched in
    subst (λ (us : List AUnit). IsTold g.W.Watcher.tells (g.H.Host.state c.args.host.now) c.args.watcher.now us c.run_units.new.watcher) (sym (tells.grown ∙ ap (λ (l : List AUnit). l ++ tells.more) c.new-units.ensures.items)) tells.told

pub returns-in-Err-clause-watched : goal.returns-in-Err-clause-watched
returns-in-Err-clause-watched g c =
    let tells = c.run_units.ensures.watched in
    subst (λ (us : List AUnit). IsTold g.W.Watcher.tells (g.H.Host.state c.args.host.now) c.args.watcher.now us c.run_units.new.watcher) (sym (tells.grown ∙ ap (λ (l : List AUnit). l ++ tells.more) c.new-units.ensures.items)) tells.told

pub returns-in-Ok-clause-trees_stay : goal.returns-in-Ok-clause-trees_stay
returns-in-Ok-clause-trees_stay g c = ap (λ (names : ℕ × ℕ × ℕ). names.0) (lent_stays _ _ c.run_units.ensures.goes)

pub returns-in-Ok-clause-labels_stay : goal.returns-in-Ok-clause-labels_stay
returns-in-Ok-clause-labels_stay g c = ap (λ (names : ℕ × ℕ × ℕ). names.1) (lent_stays _ _ c.run_units.ensures.goes)

pub returns-in-Err-clause-trees_stay : goal.returns-in-Err-clause-trees_stay
returns-in-Err-clause-trees_stay g c = ap (λ (names : ℕ × ℕ × ℕ). names.0) (lent_stays _ _ c.run_units.ensures.goes)

pub returns-in-Err-clause-labels_stay : goal.returns-in-Err-clause-labels_stay
returns-in-Err-clause-labels_stay g c = ap (λ (names : ℕ × ℕ × ℕ). names.1) (lent_stays _ _ c.run_units.ensures.goes)

pub returns-in-Ok-clause-diversions_stay : goal.returns-in-Ok-clause-diversions_stay
returns-in-Ok-clause-diversions_stay g c = ap (λ (names : ℕ × ℕ × ℕ). names.2) (lent_stays _ _ c.run_units.ensures.goes)

pub returns-in-Ok-clause-writable : goal.returns-in-Ok-clause-writable
returns-in-Ok-clause-writable g c = writable_stays _ _ c.run_units.ensures.goes

pub returns-in-Err-clause-diversions_stay : goal.returns-in-Err-clause-diversions_stay
returns-in-Err-clause-diversions_stay g c = ap (λ (names : ℕ × ℕ × ℕ). names.2) (lent_stays _ _ c.run_units.ensures.goes)

pub returns-in-Err-clause-writable : goal.returns-in-Err-clause-writable
returns-in-Err-clause-writable g c = writable_stays _ _ c.run_units.ensures.goes
