use Rattle.std.specs.Prelude.{IfOk}
use Rattle.host_core.specs.Host.{Since}
use Rattle.std.proofs.Common.{◌≡◌, ◌∙◌, List, None, inr, sym, subst, ap}
use Rattle.administration.specs.Directories.{IsStanding}
use Rattle.host_core.specs.Paths.{Path}
use Rattle.host_core.specs.World.{IsDirectory, IsLoose}
use Rattle.trigger_journal.specs.Places.{triggers_directory}
use Rattle.trigger_files.specs.Registered.{IsRegistering}
use Rattle.trigger_files.proofs.Moments.{answered_behind, looked_then, only_looked, registered_behind, registering_here}
use Rattle.trigger_files.proofs.Planned.{registered_blocked, registered_without}
use Rattle.status_records.specs.declared.record.Record.{Record}
use Rattle.trigger_files.specs.Registered.{HasRegistered}
use Rattle.trigger_files.proofs.registering.write_interests.Goals as goal

pub returns-in_err-look-clause-any_moment : goal.returns-in_err-look-clause-any_moment
returns-in_err-look-clause-any_moment g c = only_looked (IsRegistering c.args.database.now.records) _ _ (registering_here c.args.database.now.records) c.look.ensures.looks.reads

pub returns-in-Directory-clause-any_moment : goal.returns-in-Directory-clause-any_moment
returns-in-Directory-clause-any_moment g c =
    let records = c.args.database.now.records in
    let new = g.H.Host.state c.register.new.host in
    looked_then (IsRegistering records) (g.H.Host.state c.args.host.now) (g.H.Host.state c.look.new.host) new (registering_here records) c.look.ensures.looks.reads
    (subst (λ (rs : List Record). Since (λ so_far. IsRegistering rs (g.H.Host.state c.look.new.host).world) (g.H.Host.state c.look.new.host) new) c.records.ensures c.register.ensures.any_moment)

pub returns-in-Directory-clause-on_disk : goal.returns-in-Directory-clause-on_disk
returns-in-Directory-clause-on_disk g c = answered_behind c.register.result _ _ _ c.look.ensures.looks.reads c.register.ensures.on_disk

pub returns-in-Nothing-clause-any_moment : goal.returns-in-Nothing-clause-any_moment
returns-in-Nothing-clause-any_moment g c = only_looked (IsRegistering c.args.database.now.records) _ _ (registering_here c.args.database.now.records) c.look.ensures.looks.reads

pub returns-clause-registered : goal.returns-clause-registered
returns-clause-registered g c = λ h.
    let w = (g.H.Host.state c.args.host.now).world in
    registered_blocked c.args.database.now.records w _ c.look.ensures.looks.reads.world
    (subst (λ (p : Path). IsLoose (w p)) c.in_ok-directory.ensures (subst (λ s. IsStanding s (w c.in_ok-directory.directory)) c.in-Loose.is (c.in_ok-look.ensures.looks.found h)))

pub returns-clause-any_moment : goal.returns-clause-any_moment
returns-clause-any_moment g c = only_looked (IsRegistering c.args.database.now.records) _ _ (registering_here c.args.database.now.records) c.look.ensures.looks.reads
