use Rattle.std.proofs.Common.{◌≡◌, ◌<◌, List, length, get_or, ap, subst, ◌∙◌}
use Rattle.status_records.specs.declared.entries.ConffileEntry.{ConffileEntry}
use Rattle.removal_engine.proofs.KeptEntries.{kept_behind}
use Rattle.removal_engine.proofs.records.kept_entries.Goals as goal

pub push-requires : goal.push-requires
push-requires c =
    let es = c.args.entries.now in
    let i = c.loop-entry.entry-index in
    let e = c.entry-item.result in
    let value = c.as_slice-entry-items.ensures in
    let lt : i < length es = subst (λ (l : List ConffileEntry). i < length l) value c.loop-entry-test.true in
    let at : e ≡ get_or es i e = c.entry-item.is ∙ ap (λ (l : List ConffileEntry). get_or l i e) value in
    kept_behind es i e c.in_ok-kept_entry.field-0 c.loop-entry.kept lt at c.law.ensures c.in_ok-kept_entry.ensures c.loop-entry.invariant
