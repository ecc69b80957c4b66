use Rattle.std.proofs.Common.{◌∙◌, sym, ap}
use Rattle.status_records.proofs.SameRecords.{same_record}
use Rattle.status_records.specs.declared.record.Record.{Record}
use Rattle.record_changes.specs.Activated.{with_pending}
use Rattle.record_changes.proofs.Changing.{installed_keeps}
use Rattle.record_changes.proofs.changed.activated.Goals as goal

pub returns : goal.returns
returns c =
    let same = c.in_ok-kept.ensures in
    let r = c.args.entry.now in
    same_record _ _ record {
      name = ap (λ (x : Record). x.name) same;
      wanted = ap (λ (x : Record). x.want) same;
      flagged = ap (λ (x : Record). x.flag) same;
      standing = ap (λ (x : Record). x.state) same;
      version = ap (λ (x : Record). x.version) same;
      config_version = ap (λ (x : Record). x.config_version) same;
      removed_since = ap (λ (x : Record). x.removed_since) same;
      conffiles = ap (λ (x : Record). x.conffiles) same;
      pending = ap (λ (x : Record). x.pending) same;
      triggers = c.in_ok-triggers.ensures ∙ sym (installed_keeps r.state (with_pending c.args.names.now r.triggers) c.requires);
      fields = ap (λ (x : Record). x.fields) same;
    }
