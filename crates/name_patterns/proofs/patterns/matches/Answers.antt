use Rattle.std.proofs.Common.{◌≡◌, ◌<◌, ◌≤◌, ◌+◌, ◌&&◌, ℕ, List, Bool, false, not, ap, sym, ◌∙◌, arith, drop, get_or, length, suc}
use Rattle.std.proofs.lemmas.List.{drop_more, drop_all}
use Rattle.name_patterns.specs.Patterns.{is_quoting, matches, matches_behind}
use Rattle.name_patterns.specs.Marks.{marked_behind}
use Rattle.name_patterns.proofs.Marked.{any_marked, at_start, length-begun, length-marked, one_sign, whole}
use Rattle.name_patterns.proofs.patterns.matches.Goals as goal

pub loop-sign-init : goal.loop-sign-init
loop-sign-init c = record {
  each = ap length c.in_ok-marks.ensures ∙ length-begun c.args.text.now;
  so_far = ap (λ ms. any_marked (matches_behind false c.args.pattern.now) ms c.args.text.now) c.in_ok-marks.ensures ∙ at_start (matches_behind false c.args.pattern.now) c.args.text.now;
}

step : (pattern text : List ℕ) (i : ℕ) (q r : Bool) (ms new : List Bool) → i < length pattern → length ms ≡ suc (length text) → any_marked (matches_behind q (drop i pattern)) ms text ≡ matches pattern text
    → new ≡ marked_behind q (get_or pattern i 0) ms text → r ≡ is_quoting q (get_or pattern i 0) → any_marked (matches_behind r (drop (i + 1) pattern)) new text ≡ matches pattern text
step pattern text i q r ms new lt each so_far added quoting =
    let c = get_or pattern i 0 in
    let cs = drop (i + 1) pattern in
    ap (λ x. any_marked (matches_behind r cs) x text) added
    ∙ ap (λ x. any_marked (matches_behind x cs) (marked_behind q c ms text) text) quoting
    ∙ sym (one_sign q c cs ms text each)
    ∙ ap (λ x. any_marked (matches_behind q x) ms text) (sym (drop_more pattern i 0 lt))
    ∙ so_far

pub loop-sign-preserved : goal.loop-sign-preserved
loop-sign-preserved c = record {
  each = ap length c.in_ok-marks-2.ensures ∙ length-marked c.loop-sign.quoted (get_or c.args.pattern.now c.loop-sign.sign-index 0) c.loop-sign.marks.items c.args.text.now c.loop-sign.invariant.each;
  so_far = step c.args.pattern.now c.args.text.now c.loop-sign.sign-index c.loop-sign.quoted _ c.loop-sign.marks.items _ (omega (arith, c.loop-sign-test.true)) c.loop-sign.invariant.each c.loop-sign.invariant.so_far c.in_ok-marks-2.ensures c.is_quoting-quoted.ensures;
}

pub returns : goal.returns
returns c =
    let end : length c.args.pattern.now ≤ c.loop-sign.sign-index = omega (arith, c.loop-sign-test.false) in
    c.is_whole.ensures
    ∙ ap (λ ms. not c.loop-sign.quoted && get_or ms (length c.args.text.now) false) c.as_slice.ensures.value
    ∙ sym (whole c.loop-sign.quoted c.loop-sign.marks.items c.args.text.now c.loop-sign.invariant.each)
    ∙ ap (λ x. any_marked (matches_behind c.loop-sign.quoted x) c.loop-sign.marks.items c.args.text.now) (sym (drop_all c.loop-sign.sign-index c.args.pattern.now end))
    ∙ c.loop-sign.invariant.so_far
