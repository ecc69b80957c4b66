use Rattle.std.proofs.Common.{ℕ, List, subst, sym}
use Rattle.host_core.specs.Host.{Since}
use Rattle.unit_reports.specs.Held.{held_by}
use Rattle.removal_run.specs.Turns.{AreAccepted, IsAmidTurns}
use Rattle.removal_run.proofs.Accepting.{accepted_first}
use Rattle.removal_run.proofs.Sorting.{refused_all, refused_calls}
use Rattle.removal_run.proofs.Ending.{since_none, since_removals}
use Rattle.name_sets.specs.Names.{each_once}
use Rattle.removal_run.specs.Refusals.{refusals}
use Rattle.removal_run.proofs.run.remove_packages.Goals as goal

pub run_sorted-requires-clause-accepted : goal.run_sorted-requires-clause-accepted
run_sorted-requires-clause-accepted g c = subst (AreAccepted c.args.options.extents c.args.administration.now.database.records) (sym c.in-Ok.ensures.waiting) (accepted_first c.args.options.extents c.args.administration.now.database.records (each_once c.args.names.items))

pub run_sorted-requires-clause-told : goal.run_sorted-requires-clause-told
run_sorted-requires-clause-told g c = refused_calls (refusals c.args.options.extents c.args.administration.now.database.records (each_once c.args.names.items)) c.in-Ok.sorted.refused.items c.in-Ok.ensures.refused

pub run_sorted-requires-clause-refused : goal.run_sorted-requires-clause-refused
run_sorted-requires-clause-refused g c = refused_all (refusals c.args.options.extents c.args.administration.now.database.records (each_once c.args.names.items)) c.in-Ok.sorted.refused.items c.in-Ok.ensures.refused

pub returns-in-Ok-clause-any_moment : goal.returns-in-Ok-clause-any_moment
returns-in-Ok-clause-any_moment g c =
    let before = held_by c.args.administration.now c.args.diversions.now in
    since_removals c.args.names.items c.args.options c.args.packages.now before (g.H.Host.state c.args.host.now) (g.H.Host.state c.run_sorted.new.host) c.requires.indexed
    (subst (λ (names : List (List ℕ)). Since (IsAmidTurns c.args.options c.args.packages.now names before (g.H.Host.state c.args.host.now)) (g.H.Host.state c.args.host.now) (g.H.Host.state c.run_sorted.new.host)) c.in-Ok.ensures.waiting c.run_sorted.ensures.any_moment)

pub returns-in-Err-clause-any_moment : goal.returns-in-Err-clause-any_moment
returns-in-Err-clause-any_moment g c = since_none c.args.names.items c.args.options (held_by c.args.administration.now c.args.diversions.now) (g.H.Host.state c.args.host.now)
