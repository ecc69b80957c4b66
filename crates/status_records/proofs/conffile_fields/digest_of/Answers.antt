use Rattle.std.proofs.Common.{sym}
use Rattle.status_records.proofs.ConffileReading.{no_digest}
use Rattle.status_records.proofs.conffile_fields.digest_of.Goals as goal

pub returns-in-Err-clause-exact : goal.returns-in-Err-clause-exact
returns-in-Err-clause-exact c = sym (no_digest c.args.text.now c.in-Err.ensures.cases.0)
