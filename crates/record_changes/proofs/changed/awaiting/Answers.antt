use Rattle.std.proofs.Common.{◌&&◌, ◌∙◌, is_some, ap}
use Rattle.status_records.proofs.SameRecords.{same_record}
use Rattle.status_records.specs.Standings.{version_beside}
use Rattle.status_records.specs.Triggers.{is_configured, left_may_stand, may_stand}
use Rattle.status_records.specs.declared.triggers.Triggers.{Triggers}
use Rattle.status_records.specs.declared.words.State.{State}
use Rattle.record_changes.specs.Activated.{none_beside}
use Rattle.record_changes.proofs.Awaiting.{kept_same}
use Rattle.record_changes.proofs.changed.awaiting.Goals as goal

pub invariant_of-result : goal.invariant_of-result
invariant_of-result c =
    let r = c.args.entry.now in
    let t = c.in_ok-triggers.triggers in
    let kept = kept_same t r c.in_ok-kept.kept c.in_ok-kept.ensures in
    record {
      writable = c.in_ok-kept.kept.writable;
      current = ap (λ (s : State). is_configured s t && is_some c.in_ok-kept.kept.config_version) kept.standing ∙ ap (λ v. is_configured r.state t && is_some v) kept.config_version ∙ none_beside (is_configured r.state t) r.config_version;
      beside = ap (λ (s : State). may_stand s t) kept.standing ∙ ap (may_stand r.state) c.in_ok-triggers.ensures ∙ left_may_stand r.state (record { pending = r.triggers.pending; awaited = c.args.names.now });
    }

pub returns : goal.returns
returns c =
    let r = c.args.entry.now in
    let t = c.in_ok-triggers.triggers in
    let kept = kept_same t r c.in_ok-kept.kept c.in_ok-kept.ensures in
    same_record _ _ record {
      name = kept.name;
      wanted = kept.wanted;
      flagged = kept.flagged;
      standing = kept.standing;
      version = kept.version;
      config_version = kept.config_version ∙ ap (λ (x : Triggers). version_beside (is_configured r.state x) r.config_version) c.in_ok-triggers.ensures;
      removed_since = kept.removed_since;
      conffiles = kept.conffiles;
      pending = kept.pending;
      triggers = c.in_ok-triggers.ensures;
      fields = kept.fields;
    }
