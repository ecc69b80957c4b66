use Rattle.std.proofs.Common.{◌∙◌}
use Rattle.std.proofs.lemmas.Result.{IfOk-weaker}
use Rattle.status_records.specs.Standings.{with_conffiles}
use Rattle.unpack_commit.proofs.losing.without_conffiles.Goals as goal

pub returns : goal.returns
returns c = IfOk-weaker c.with_conffiles.result _ _ (λ r is. is ∙ (λ i. with_conffiles (c.in_ok-conffiles.ensures i) (c.in_ok-pending.ensures i) c.args.entry.now)) c.with_conffiles.ensures
