use Rattle.std.proofs.Common.{sym}
use Rattle.status_records.proofs.ConffileReading.{no_digest}
use Rattle.verification.proofs.sums.digest_of.Goals as goal

pub returns-in-Err-clause-exact : goal.returns-in-Err-clause-exact
returns-in-Err-clause-exact c = sym (no_digest c.args.digits.now c.in-Err.ensures.cases.0)
