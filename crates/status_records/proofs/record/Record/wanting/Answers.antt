use Rattle.std.proofs.Common.{refl}
use Rattle.status_records.proofs.SameRecords.{same_record}
use Rattle.status_records.proofs.record.Record.wanting.Goals as goal

pub returns : goal.returns
returns c = same_record _ _ record {
  name = c.in_ok-copy.ensures;
  wanted = refl;
  flagged = refl;
  standing = refl;
  version = c.in_ok-copy-2.ensures;
  config_version = c.in_ok-copied_version.ensures;
  removed_since = refl;
  conffiles = c.in_ok-copy-3.ensures;
  pending = c.in_ok-copy-4.ensures;
  triggers = c.in_ok-copy-5.ensures;
  fields = c.in_ok-copy-6.ensures;
}
