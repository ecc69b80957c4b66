use Rattle.std.proofs.Common.{◌++◌, ◌∙◌, sym, ap, List, ℕ}
use Rattle.control_members.proofs.Cutting.{lacks_prefix}
use Rattle.info_format.proofs.pairs.ending_behind.Goals as goal

pub returns-in_default-strip_prefix-clause-none : goal.returns-in_default-strip_prefix-clause-none
unfolding lib.Utf8.encode
returns-in_default-strip_prefix-clause-none c = λ name ending.
    let k = c.in-Some.ensures.cases in
    let is = sym c.as_str.ensures ∙ k.1.1 ∙ ap (λ (l : List ℕ). c.as_str-2.result.now ++ l) (sym k.2) ∙ ap (λ (l : List ℕ). l ++ c.in-Some.rest.now) c.as_str-2.ensures in
    lacks_prefix c.args.front.now c.args.entry.now c.in-Some.rest.now name k.0 is c.in_default-strip_prefix.ensures.cases
