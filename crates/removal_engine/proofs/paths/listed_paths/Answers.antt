use Rattle.std.proofs.Common.{sym, subst}
use Rattle.std.specs.List.{AllByRecursion}
use Rattle.file_lists.specs.Owners.{IsListable}
use Rattle.status_records.specs.declared.entries.ConffileEntry.{ConffileEntry}
use Rattle.removal_engine.proofs.Chosen.{mapped_more}
use Rattle.removal_engine.proofs.Listable.{ship_listable, listable_more}
use Rattle.removal_engine.proofs.paths.listed_paths.Goals as goal

pub loop-entry-preserved : goal.loop-entry-preserved
loop-entry-preserved c =
    let at = c.in_ok-at.ensures in
    record {
      paths = mapped_more (λ (e : ConffileEntry). e.path) c.args.entries.now c.loop-entry.entry-index c.entry-item.result c.in_ok-at.field-0 c.loop-entry.paths.items _ c.loop-entry-test.true c.entry-item.is c.loop-entry.invariant.paths at c.in_ok-push.ensures.items;
      listable = subst (AllByRecursion IsListable) (sym c.in_ok-push.ensures.items) (listable_more c.loop-entry.paths.items c.in_ok-at.field-0 c.loop-entry.invariant.listable (subst IsListable (sym at) (ship_listable c.entry-item.result.path c.law.ensures)));
    }
