use Rattle.std.proofs.Common.{Option, ap, ◌∙◌}
use Rattle.status_records.specs.declared.entries.ConffileEntry.{ConffileEntry}
use Rattle.status_records.specs.Conffiles.{renewed_entry}
use Rattle.status_records.proofs.SameRecords.{same_entry}
use Rattle.status_records.proofs.committed.shipped_entry.Goals as goal

pub returns : goal.returns
returns c =
    let p = c.args.digest.now in
    let found = c.in-Some.ensures in
    same_entry _ _ (c.in_ok-copy.ensures ∙ ap (λ (o : Option ConffileEntry). (renewed_entry o p).path) found) (ap (λ (o : Option ConffileEntry). (renewed_entry o p).digest) found)
    (ap (λ (o : Option ConffileEntry). (renewed_entry o p).obsolete) found) (ap (λ (o : Option ConffileEntry). (renewed_entry o p).remove_on_upgrade) found)
