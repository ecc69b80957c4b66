use Rattle.std.proofs.Common.{◌∙◌, ap, refl}
use Rattle.status_records.specs.declared.record.Record.{Record}
use Rattle.status_records.proofs.SameRecords.{same_record}
use Rattle.adopted_conffiles.specs.Adopted.{settled}
use Rattle.adopted_conffiles.proofs.finding.settled.Goals as goal

pub returns : goal.returns
returns c =
    let made = c.in_ok-plain.ensures in
    same_record _ (settled c.args.record.now) (record {
      name = ap (λ (r : Record). r.name) made;
      wanted = ap (λ (r : Record). r.want) made;
      flagged = ap (λ (r : Record). r.flag) made;
      standing = ap (λ (r : Record). r.state) made;
      version = ap (λ (r : Record). r.version) made;
      config_version = ap (λ (r : Record). r.config_version) made;
      removed_since = refl;
      conffiles = ap (λ (r : Record). r.conffiles) made ∙ c.in_ok-conffiles.ensures;
      pending = ap (λ (r : Record). r.pending) made ∙ c.new.ensures;
      triggers = ap (λ (r : Record). r.triggers) made;
      fields = ap (λ (r : Record). r.fields) made;
    })
