use Rattle.std.proofs.Common.{rules, ◌≡◌, ◌∷◌}
use Rattle.unit_reports.specs.Held.{held_by}
use Rattle.unit_runs.proofs.Barred.{not_taken}
use Rattle.trigger_run.proofs.Processings.{unit_tells}
use Rattle.trigger_run.proofs.Turning.{broken_one, since_next}
use Rattle.trigger_run.proofs.turns.take_next.Goals as goal

pub returns-in-Ok-clause-barred : goal.returns-in-Ok-clause-barred
returns-in-Ok-clause-barred g c = not_taken c.args.barred c.in-Ok.ensures.barred

pub returns-in-Ok-clause-any_moment : goal.returns-in-Ok-clause-any_moment
returns-in-Ok-clause-any_moment g c =
    let left = c.remove-name.new.self.items in
    let first : c.args.names.now.items ≡ c.remove-name.result ∷ left = search rules in
    since_next c.args.names.now.items left (held_by c.args.administration.now c.args.diversions.now) c.remove-name.result left first (g.H.Host.state c.args.host.now) (g.H.Host.state c.process_one.new.host) c.process_one.ensures.any_moment

pub returns-in-Err-clause-taken : goal.returns-in-Err-clause-taken
returns-in-Err-clause-taken g c =
    let left = c.remove-name.new.self.items in
    let first : c.args.names.now.items ≡ c.remove-name.result ∷ left = search rules in
    broken_one c.args.names.now.items left (held_by c.args.administration.now c.args.diversions.now) c.remove-name.result left first (g.H.Host.state c.args.host.now) (g.H.Host.state c.process_one.new.host) c.in-Err.unit c.in-Err.ensures.broken_off

pub returns-in-Err-clause-told : goal.returns-in-Err-clause-told
returns-in-Err-clause-told g c = unit_tells _ _ (g.H.Host.state c.args.host.now) (g.H.Host.state c.process_one.new.host) c.in-Err.unit c.in-Err.ensures.broken_off.called

pub returns-in-Err-clause-any_moment : goal.returns-in-Err-clause-any_moment
returns-in-Err-clause-any_moment g c =
    let left = c.remove-name.new.self.items in
    let first : c.args.names.now.items ≡ c.remove-name.result ∷ left = search rules in
    since_next c.args.names.now.items left (held_by c.args.administration.now c.args.diversions.now) c.remove-name.result left first (g.H.Host.state c.args.host.now) (g.H.Host.state c.process_one.new.host) c.process_one.ensures.any_moment
