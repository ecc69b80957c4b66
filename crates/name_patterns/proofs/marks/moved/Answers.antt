use Rattle.std.proofs.Common.{◌≤◌, ◌++◌, ◌∙◌, ap, sym, arith, drop, length, append-nil}
use Rattle.std.proofs.lemmas.List.{drop_all}
use Rattle.name_patterns.specs.Marks.{moved_each}
use Rattle.name_patterns.proofs.Marked.{none_left}
use Rattle.name_patterns.proofs.marks.moved.Goals as goal

pub returns : goal.returns
returns c =
    let end : length c.args.text.now ≤ c.loop-i.i = omega (arith, c.loop-i-test.false) in
    let out = c.loop-i.behind.items in
    let ms = drop c.loop-i.i c.args.marks.now in
    sym (append-nil out)
    ∙ ap (λ x. out ++ x) (sym (none_left c.args.wanted ms))
    ∙ ap (λ x. out ++ moved_each c.args.wanted ms x) (sym (drop_all c.loop-i.i c.args.text.now end))
    ∙ c.loop-i.invariant
