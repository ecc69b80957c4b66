use Rattle.std.proofs.Common.{List, ap, ◌∙◌}
use Rattle.std.specs.BTreeSet.{contains_text}
use Rattle.status_records.specs.Conffiles.{committed_entries}
use Rattle.status_records.specs.declared.entries.ConffileEntry.{ConffileEntry}
use Rattle.unpack_plan.specs.Yielded.{counted_entries}
use Rattle.unpack_plan.proofs.records.entries_after.Goals as goal

pub returns : goal.returns
returns c =
    let digests = c.args.digests.now in
    c.in_ok-entries.ensures
    ∙ ap (λ (es : List ConffileEntry). committed_entries es digests c.args.flagged.now (contains_text c.args.ships.now.texts)) (c.in_ok-counted.ensures ∙ ap (λ (es : List ConffileEntry). counted_entries c.args.giving.now es digests) c.in_ok-recorded.ensures)
