use Rattle.std.proofs.Common.{◌≤◌, ◌+◌, IfOk, IsTrue, Result, subst}
use Rattle.administration.specs.declared.fault.AdministrationFault.{AdministrationFault}
use Rattle.host_core.specs.Host.{faults}
use Rattle.foretold_changes.specs.Changes.{unread_paths}
use Rattle.foretold_changes.specs.Told.{IsLookedOver}
use Rattle.foretold_changes.specs.declared.looking.LookedOver.{LookedOver}
use Rattle.command_line.proofs.telling_hosts.tell_changes.Goals as goal

pub returns-in-Ok-changes_text-clause-told : goal.returns-in-Ok-changes_text-clause-told
returns-in-Ok-changes_text-clause-told g c = λ new first last given few honest.
    let old = g.H.Host.state c.args.host.now in
    let now = g.H.Host.state c.changes_text.new.host in (
      first + faults old,
      last + faults now,
      c.in-Ok-changes_text.ensures.told honest new first last (subst (λ (looked : Result LookedOver AdministrationFault). IfOk looked (λ over. IsTrue now.honest → IsLookedOver old.world new over)) c.in-Ok.is given honest)
          (subst (λ (looked : Result LookedOver AdministrationFault). IfOk looked (λ over. unread_paths over.looked.items + first ≤ last)) c.in-Ok.is few),
    )
