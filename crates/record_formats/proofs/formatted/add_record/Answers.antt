use Rattle.std.proofs.Common.{rules}
use Rattle.record_formats.specs.Values.{shown_record}
use Rattle.record_formats.proofs.formatted.add_record.Goals as goal

pub returns : goal.returns
unfolding shown_record
returns c = search rules
