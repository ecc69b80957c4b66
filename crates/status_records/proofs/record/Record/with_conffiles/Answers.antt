use Rattle.std.proofs.Common.{refl}
use Rattle.status_records.proofs.SameRecords.{same_record}
use Rattle.status_records.proofs.record.Record.with_conffiles.Goals as goal

pub returns : goal.returns
returns c = same_record _ _ record {
  name = c.in_ok-copy.ensures;
  wanted = refl;
  flagged = refl;
  standing = refl;
  version = c.in_ok-copy-2.ensures;
  config_version = c.in_ok-copied_version.ensures;
  removed_since = refl;
  conffiles = c.conffiles.view_is;
  pending = c.pending.view_is;
  triggers = c.in_ok-copy-3.ensures;
  fields = c.in_ok-copy-4.ensures;
}
