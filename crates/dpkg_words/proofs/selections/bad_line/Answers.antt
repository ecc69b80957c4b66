use Rattle.std.proofs.Common.{arith, ◌≡◌, ◌+◌, ◌∙◌, Some, ap, suc, sym}
use Rattle.dpkg_words.specs.Selections.{is_readable_by}
use Rattle.dpkg_words.proofs.Lines.{bad_at, none_bad}
use Rattle.dpkg_words.proofs.selections.bad_line.Goals as goal

pub returns-then-not-is_readable_by : goal.returns-then-not-is_readable_by
returns-then-not-is_readable_by c =
    let number : c.loop-line.number + 1 ≡ suc c.loop-line.line-index = omega (arith, c.loop-line.invariant.0) in
    let words = c.as_slice.ensures ∙ c.in_ok-words.ensures in
    ap Some number
    ∙ sym (bad_at c.args.lines.now c.loop-line.line-index _ c.loop-line-test.true c.loop-line.invariant.1 (sym (c.if-not-is_readable_by.ensures ∙ ap is_readable_by words)))

pub returns : goal.returns
returns c = sym (none_bad c.args.lines.now c.loop-line.line-index (omega (arith, c.loop-line-test.false)) c.loop-line.invariant.1)
