use Rattle.std.proofs.Common.{[], ℕ, List, Some, subst, sym}
use Rattle.std.proofs.lemmas.List.{append-nil}
use Rattle.host_core.specs.Host.{Since}
use Rattle.unit_reports.specs.Held.{held_by}
use Rattle.unit_reports.specs.Units.{calls_of}
use Rattle.undo_rows.specs.Transcript.{TellsAll}
use Rattle.undo_rows.specs.declared.rows.Called.{Called}
use Rattle.configure_run.specs.Run.{HasRun, IsAmidRun, IsConfigureRun}
use Rattle.configure_run.proofs.Runs.{run_of_whole}
use Rattle.configure_run.proofs.run.configure_packages.Goals as goal

pub returns-in-Ok-clause-whole : goal.returns-in-Ok-clause-whole
returns-in-Ok-clause-whole g c = λ none. (subst (λ (ns : List (List ℕ)). IsConfigureRun ns c.args.options c.run_all.new.units.items (held_by c.args.administration.now c.args.diversions.now) (held_by c.run_all.new.administration c.args.diversions.now) (g.H.Host.state c.args.host.now) (g.H.Host.state c.run_all.new.host)) c.as_slice.ensures.value c.in-Ok.ensures.ok)

pub returns-in-Ok-clause-part : goal.returns-in-Ok-clause-part
returns-in-Ok-clause-part g c = run_of_whole c.args.names.items c.args.options (held_by c.args.administration.now c.args.diversions.now) c.run_all.new.units.items (held_by c.run_all.new.administration c.args.diversions.now) (g.H.Host.state c.args.host.now) (g.H.Host.state c.run_all.new.host) (subst (λ (ns : List (List ℕ)). IsConfigureRun ns c.args.options c.run_all.new.units.items (held_by c.args.administration.now c.args.diversions.now) (held_by c.run_all.new.administration c.args.diversions.now) (g.H.Host.state c.args.host.now) (g.H.Host.state c.run_all.new.host)) c.as_slice.ensures.value c.in-Ok.ensures.ok)

pub returns-in-Ok-clause-told : goal.returns-in-Ok-clause-told
returns-in-Ok-clause-told g c = subst (TellsAll (g.H.Host.state c.args.host.now) (g.H.Host.state c.run_all.new.host) []) (sym {A = List Called} (append-nil (calls_of c.run_all.new.units.items))) c.in-Ok.ensures.told

pub returns-in-Ok-clause-any_moment : goal.returns-in-Ok-clause-any_moment
returns-in-Ok-clause-any_moment g c = subst (λ (ns : List (List ℕ)). Since (IsAmidRun ns c.args.options (held_by c.args.administration.now c.args.diversions.now) (g.H.Host.state c.args.host.now)) (g.H.Host.state c.args.host.now) (g.H.Host.state c.run_all.new.host)) c.as_slice.ensures.value c.run_all.ensures.any_moment

pub returns-clause-part : goal.returns-clause-part
returns-clause-part g c = subst (λ (ns : List (List ℕ)). HasRun ns c.args.options c.run_all.new.units.items (Some c.in-Err.unit) (held_by c.args.administration.now c.args.diversions.now) (g.H.Host.state c.args.host.now) (g.H.Host.state c.run_all.new.host)) c.as_slice.ensures.value c.in-Err.ensures.err

pub returns-clause-told : goal.returns-clause-told
returns-clause-told g c = c.in-Err.ensures.told_broken

pub returns-clause-any_moment : goal.returns-clause-any_moment
returns-clause-any_moment g c = subst (λ (ns : List (List ℕ)). Since (IsAmidRun ns c.args.options (held_by c.args.administration.now c.args.diversions.now) (g.H.Host.state c.args.host.now)) (g.H.Host.state c.args.host.now) (g.H.Host.state c.run_all.new.host)) c.as_slice.ensures.value c.run_all.ensures.any_moment
