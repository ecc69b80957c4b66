use Rattle.std.proofs.Common.{◌≡◌, List, ap, map, subst, sym, ◌∙◌}
use Rattle.dependency_check.specs.Waiting.{Waiting}
use Rattle.recorded_packages.specs.Packages.{ArePackagesOf}
use Rattle.relation_index.specs.declared.package.Package.{Package}
use Rattle.status_records.specs.declared.record.Record.{Record}
use Rattle.dependency_check.specs.Breaking.{AreBreakers}
use Rattle.configure_run.specs.Starting.{IsBegun, satisfies, waits}
use Rattle.configure_run.proofs.Numbers.{begun_even, named_apart}
use Rattle.configure_run.proofs.queue.Queue.of.Goals as goal
use Rattle.configure_run.proofs.queue.Queue.of.Goals.{In_ok-queue}

begun : (c : In_ok-queue) → IsBegun c.args.names.now c.args.database.now.records c.in_ok-queue.queue
begun c =
    let is = c.in_ok-queue.ensures in
    let packages : c.in_ok-queue.queue.packages ≡ c.args.packages = ap (λ (q : Waiting). q.packages) is in
    record {
      packages = subst (ArePackagesOf c.args.database.now.records) (sym {A = List Package} packages) c.requires;
      installed = ap (λ (q : Waiting). q.installed) is ∙ c.as_slice-2.ensures.value ∙ c.in_ok-installed.ensures ∙ ap (map satisfies) c.records.ensures;
      waiting = ap (λ (q : Waiting). q.waiting) is ∙ c.as_slice-3.ensures.value ∙ c.in_ok-waiting.ensures ∙ ap (map (waits c.args.names.now)) c.records-2.ensures;
    }

pub invariant_of-result : goal.invariant_of-result
invariant_of-result c =
    let so = begun (goal.at.invariant_of-result c).In_ok-queue in (
      sym (ap (λ (q : Waiting). q.waiting) c.in_ok-queue.ensures ∙ c.as_slice-3.ensures.value),
      begun_even c.args.names.now c.args.database.now.records c.in_ok-queue.queue so,
      named_apart c.args.database.now.records c.in_ok-queue.queue.packages c.law.ensures.order so.packages,
      subst (λ (ps : List Package). AreBreakers ps c.in_ok-breakers.breakers) (c.as_slice.ensures.list ∙ sym {A = List Package} (ap (λ (q : Waiting). q.packages) c.in_ok-queue.ensures)) c.in_ok-breakers.ensures,
    )
