use Rattle.std.proofs.Common.{rules, List, subst, sym}
use Rattle.recorded_packages.specs.Packages.{ArePackagesOf}
use Rattle.relation_index.specs.declared.package.Package.{Package}
use Rattle.configure_run.specs.Starting.{AreSilentOf}
use Rattle.status_records.specs.declared.record.Record.{Record}
use Rattle.configure_run.proofs.Numbers.{are_silent}
use Rattle.configure_run.proofs.run.begun.Goals as goal

pub of-requires : goal.of-requires
of-requires g c = subst (ArePackagesOf c.args.database.now.records) (sym {A = List Package} c.replace-taken.ensures.value) c.requires.indexed

pub returns-in-Ok-clause-looks : goal.returns-in-Ok-clause-looks
returns-in-Ok-clause-looks g c = record {
  found = λ honest.
      are_silent c.args.names.now c.args.database.now.records c.in_ok-queue.queue c.in_ok-queue.ensures (g.H.Host.state c.args.host.now).world c.in-Ok.silent.items
      (subst (λ (rs : List Record). AreSilentOf (g.H.Host.state c.args.host.now).world c.args.names.now rs c.in-Ok.silent.items) c.records.ensures (c.in-Ok.ensures.looks.found honest));
  reads = search rules;
  silent = search rules;
  counts = search rules;
}
