use Rattle.std.proofs.Common.{◌<◌, ◌+◌, ◌++◌, ◌∷◌, ◌∙◌, [], ap, sym, false, arith, drop, length, map, append_assoc}
use Rattle.std.proofs.lemmas.List.{drop_more}
use Rattle.name_patterns.proofs.marks.begun.Goals as goal

pub loop-byte-preserved : goal.loop-byte-preserved
loop-byte-preserved c =
    let text = c.args.text.now in
    let i = c.loop-byte._byte-index in
    let before = c.loop-byte.marks.items in
    let lt : i < length text = omega (arith, c.loop-byte-test.true) in
    ap (λ x. x ++ map (λ b. false) (drop (i + 1) text)) c.in_ok-push-2.ensures.items
    ∙ append_assoc before (false ∷ []) (map (λ b. false) (drop (i + 1) text))
    ∙ ap (λ x. before ++ map (λ b. false) x) (sym (drop_more text i 0 lt))
    ∙ c.loop-byte.invariant
