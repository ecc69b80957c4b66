use Rattle.std.proofs.Common.{◌∙◌, [], not, sym, ap, subst}
use Rattle.std.specs.BTreeSet.{contains_text}
use Rattle.std.specs.List.{AllByRecursion}
use Rattle.file_lists.specs.Owners.{IsListable}
use Rattle.status_records.specs.declared.entries.ConffileEntry.{ConffileEntry}
use Rattle.unpack_plan.proofs.Gathered.{chosen_more, passed_over}
use Rattle.unpack_plan.proofs.Listable.{ship_listable, listable_more}
use Rattle.unpack_plan.proofs.lists.staying_paths.Goals as goal

pub loop-entry-preserved-then-contains : goal.loop-entry-preserved-then-contains
loop-entry-preserved-then-contains c =
    let told = ap not (ap (contains_text c.args.shipped.now) (sym c.as_str.ensures) ∙ sym c.contains.ensures ∙ c.if-contains.true) in
    record {
      paths = passed_over (λ (e : ConffileEntry). not (contains_text c.args.shipped.now e.path)) (λ (e : ConffileEntry). e.path) c.args.entries.now c.loop-entry.entry-index c.entry-item.result [] c.loop-entry.paths.items c.loop-entry-test.true c.entry-item.is told c.loop-entry.invariant.paths;
      listable = c.loop-entry.invariant.listable;
    }

pub loop-entry-preserved : goal.loop-entry-preserved
loop-entry-preserved c =
    let told = ap not (ap (contains_text c.args.shipped.now) (sym c.as_str.ensures) ∙ sym c.contains.ensures ∙ c.if-contains.false) in
    let at = c.in_ok-at.ensures in
    record {
      paths = chosen_more (λ (e : ConffileEntry). not (contains_text c.args.shipped.now e.path)) (λ (e : ConffileEntry). e.path) c.args.entries.now c.loop-entry.entry-index c.entry-item.result c.in_ok-at.field-0 [] c.loop-entry.paths.items _ c.loop-entry-test.true c.entry-item.is told c.loop-entry.invariant.paths at c.in_ok-push.ensures.items;
      listable = subst (AllByRecursion IsListable) (sym c.in_ok-push.ensures.items) (listable_more c.loop-entry.paths.items c.in_ok-at.field-0 c.loop-entry.invariant.listable (subst IsListable (sym at) (ship_listable c.entry-item.result.path c.law.ensures)));
    }
