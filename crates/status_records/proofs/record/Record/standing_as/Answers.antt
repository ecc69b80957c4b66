use Rattle.std.proofs.Common.{refl, ap, ◌∙◌, ◌&&◌}
use Rattle.std.specs.Prelude.{is_some, option_copied}
use Rattle.status_records.specs.Standings.{version_beside, one_version}
use Rattle.status_records.specs.Triggers.{is_configured, triggers_beside, may_stand, left_may_stand}
use Rattle.status_records.specs.Words.{is_installed}
use Rattle.status_records.proofs.SameRecords.{same_record}
use Rattle.status_records.proofs.record.Record.standing_as.Goals as goal

pub returns : goal.returns
returns c = same_record _ _ record {
  name = c.in_ok-copy.ensures;
  wanted = refl;
  flagged = refl;
  standing = refl;
  version = c.in_ok-copy-2.ensures;
  config_version = c.in_ok-version_beside.ensures ∙ ap (version_beside (is_installed c.args.state)) c.last_configured.ensures;
  removed_since = refl;
  conffiles = c.in_ok-copy-3.ensures;
  pending = c.in_ok-copy-4.ensures;
  triggers = c.in_ok-beside.ensures;
  fields = c.in_ok-copy-5.ensures;
}

pub invariant_of-result-clause-beside : goal.invariant_of-result-clause-beside
invariant_of-result-clause-beside c = ap (may_stand c.args.state) c.in_ok-beside.ensures ∙ left_may_stand c.args.state c.args.self.now.triggers

pub invariant_of-result-clause-current : goal.invariant_of-result-clause-current
invariant_of-result-clause-current c =
    (λ i. is_configured c.args.state (c.in_ok-beside.ensures i) && is_some (c.in_ok-version_beside.ensures i)) ∙ one_version (is_installed c.args.state) (is_some (triggers_beside c.args.state c.args.self.now.triggers).awaited) (option_copied c.last_configured.result)
