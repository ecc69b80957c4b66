use Rattle.std.proofs.Common.{rules}
use Rattle.status_records.proofs.record.is_own.Goals as goal

pub returns-then-eq_ignore_ascii_case-8 : goal.returns-then-eq_ignore_ascii_case-8
returns-then-eq_ignore_ascii_case-8 c = search rules

pub returns-else-eq_ignore_ascii_case-8 : goal.returns-else-eq_ignore_ascii_case-8
returns-else-eq_ignore_ascii_case-8 c = search rules
