use Rattle.std.proofs.Common.{◌≡◌, ℕ, List, Option, ap, sym, subst, ◌∙◌}
use Rattle.host_core.specs.Host.{Since}
use Rattle.record_changes.specs.Run as changing
use Rattle.record_changes.specs.declared.change.RecordChange.{RecordChange}
use Rattle.command_line.specs.Packages.{HasWorked, selections_of}
use Rattle.command_line.specs.declared.packages.Work.{Work}
use Rattle.command_line.specs.declared.packages.Work.TheVariants as work
use Rattle.unit_reports.specs.Held.{held_by}
use Rattle.command_line.proofs.Begun.{nothing_done}
use Rattle.command_line.proofs.packages.carry_out.Goals as goal

pub returns-in_ok-names-in-Configure-clause-done : goal.returns-in_ok-names-in-Configure-clause-done
returns-in_ok-names-in-Configure-clause-done g c =
    let session = c.args.session.now in
    let before = held_by session.administration session.diversions in
    let begun = g.H.Host.state session.host in
    let after = held_by c.configure.new.self.administration c.configure.new.self.diversions in
    let end = g.H.Host.state c.configure.new.self.host in
    let done = c.configure.ensures in
    subst (λ (asked : Work). HasWorked asked c.configure.result before after begun end) (sym c.in-Configure.is)
    (subst (λ (names : Option (List (List ℕ))). HasWorked (work.Configure names c.in-Configure.options) c.configure.result before after begun end) (c.in_ok-names-in-Configure.ensures) record {
      part = done.part c.requires;
      whole = λ none. done.whole c.requires none;
      counts = done.counts c.requires;
      told = done.told;
      any_moment = done.any_moment c.requires;
    })

pub returns-in_ok-names-in-Remove-clause-done : goal.returns-in_ok-names-in-Remove-clause-done
returns-in_ok-names-in-Remove-clause-done g c =
    let session = c.args.session.now in
    let before = held_by session.administration session.diversions in
    let begun = g.H.Host.state session.host in
    let after = held_by c.remove.new.self.administration c.remove.new.self.diversions in
    let end = g.H.Host.state c.remove.new.self.host in
    let done = c.remove.ensures in
    subst (λ (asked : Work). HasWorked asked c.remove.result before after begun end) (sym c.in-Remove.is)
    (subst (λ (names : List (List ℕ)). HasWorked (work.Remove names c.in-Remove.ignore_depends) c.remove.result before after begun end) (c.in_ok-names-in-Remove.ensures ∙ c.as_slice.ensures) record {
      part = done.part c.requires;
      whole = λ none. done.whole c.requires none;
      counts = done.counts c.requires;
      told = done.told;
      any_moment = done.any_moment c.requires;
    })

pub returns-in_ok-names-in-Purge-clause-done : goal.returns-in_ok-names-in-Purge-clause-done
returns-in_ok-names-in-Purge-clause-done g c =
    let session = c.args.session.now in
    let before = held_by session.administration session.diversions in
    let begun = g.H.Host.state session.host in
    let after = held_by c.purge.new.self.administration c.purge.new.self.diversions in
    let end = g.H.Host.state c.purge.new.self.host in
    let done = c.purge.ensures in
    subst (λ (asked : Work). HasWorked asked c.purge.result before after begun end) (sym c.in-Purge.is)
    (subst (λ (names : List (List ℕ)). HasWorked (work.Purge names c.in-Purge.ignore_depends) c.purge.result before after begun end) (c.in_ok-names-in-Purge.ensures ∙ c.as_slice-in-Purge.ensures) record {
      part = done.part c.requires;
      whole = λ none. done.whole c.requires none;
      counts = done.counts c.requires;
      told = done.told;
      any_moment = done.any_moment c.requires;
    })

pub returns-in_ok-selections-in-Select-clause-done : goal.returns-in_ok-selections-in-Select-clause-done
returns-in_ok-selections-in-Select-clause-done g c =
    let session = c.args.session.now in
    let before = held_by session.administration session.diversions in
    let begun = g.H.Host.state session.host in
    let after = held_by c.change.new.self.administration c.change.new.self.diversions in
    let end = g.H.Host.state c.change.new.self.host in
    let done = c.change.ensures in
    let same : c.in_ok-selections-in-Select.selections.items ≡ selections_of c.in-Select.told = c.in_ok-selections-in-Select.ensures ∙ ap selections_of c.as_slice-in-Select.ensures in
    subst (λ (asked : Work). HasWorked asked c.change.result before after begun end) (sym c.in-Select.is) record {
      part = subst (λ (chosen : List RecordChange). changing.HasRun chosen c.change.result.units.items c.change.result.last before begun end) same (done.part c.requires);
      whole = λ none. subst (λ (chosen : List RecordChange). changing.IsChangeRun chosen c.change.result.units.items before after begun end) same (done.whole c.requires none);
      counts = done.counts c.requires;
      told = done.told;
      any_moment = subst (λ (chosen : List RecordChange). Since (changing.IsAmidRun chosen before begun) begun end) same (done.any_moment c.requires);
    }

pub returns-in-RemoveSelected-clause-done : goal.returns-in-RemoveSelected-clause-done
returns-in-RemoveSelected-clause-done g c =
    let session = c.args.session.now in
    let before = held_by session.administration session.diversions in
    let begun = g.H.Host.state session.host in
    let after = held_by c.remove_selected.new.self.administration c.remove_selected.new.self.diversions in
    let end = g.H.Host.state c.remove_selected.new.self.host in
    let done = c.remove_selected.ensures in
    subst (λ (asked : Work). HasWorked asked c.remove_selected.result before after begun end) (sym c.in-RemoveSelected.is) record {
      part = done.part c.requires;
      whole = λ none. done.whole c.requires none;
      counts = done.counts c.requires;
      told = done.told;
      any_moment = done.any_moment c.requires;
    }

pub returns-in-ProcessTriggers-clause-done : goal.returns-in-ProcessTriggers-clause-done
returns-in-ProcessTriggers-clause-done g c =
    let session = c.args.session.now in
    let before = held_by session.administration session.diversions in
    let begun = g.H.Host.state session.host in
    let idle = c.idle.ensures in
    subst (λ (asked : Work). HasWorked asked c.idle.result before before begun begun) (sym c.in-ProcessTriggers.is) (nothing_done c.idle.result before begun idle)
