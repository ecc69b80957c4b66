use Rattle.std.proofs.Common.{◌≡◌, ◌+◌, ℕ, take, sym, ap, ◌∙◌, rules}
use Rattle.unpack_rows.specs.Stages.{has_files}
use Rattle.unpack_steps.proofs.FirstKinds.{files_here, none_more}
use Rattle.unpack_steps.proofs.halves.count_before.Goals as goal

pub returns-then-is_files-clause-next : goal.returns-then-is_files-clause-next
returns-then-is_files-clause-next c =
    let l = c.args.kinds.now in
    let here = files_here l c.loop-kind.kind-index c.kind-item.result c.loop-kind-test.true c.kind-item.is (sym c.is_files.ensures ∙ c.if-is_files.true) in
    ap (λ (n : ℕ). has_files (take (n + 1) l)) c.loop-kind.invariant.0 ∙ here.0 ∙ sym here.1

pub loop-kind-preserved : goal.loop-kind-preserved
loop-kind-preserved c =
    (search rules, none_more c.args.kinds.now c.loop-kind.kind-index c.kind-item.result c.loop-kind-test.true c.kind-item.is (sym c.is_files.ensures ∙ c.if-is_files.false) c.loop-kind.invariant.1)
