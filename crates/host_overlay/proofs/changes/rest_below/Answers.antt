use Rattle.std.proofs.Common.{◌++◌, sym, ap, ◌∙◌, List, ℕ}
use Rattle.host_overlay.proofs.Splits.{lacks_prefix}
use Rattle.host_overlay.proofs.changes.rest_below.Goals as goal

pub returns-in_default-strip_prefix-clause-none : goal.returns-in_default-strip_prefix-clause-none
unfolding lib.Utf8.encode
returns-in_default-strip_prefix-clause-none c = λ b.
    let k = c.in-Some.ensures.cases in
    lacks_prefix c.args.top.now c.args.path.now c.in-Some.rest.now b.0 k.0 (k.1.1 ∙ ap (λ (l : List ℕ). c.args.top.now ++ l) (sym k.2)) c.in_default-strip_prefix.ensures.cases b.1
