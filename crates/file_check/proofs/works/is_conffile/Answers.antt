use Rattle.std.proofs.Common.{◌∙◌, ◌<◌, ◌+◌, ◌-◌, ◌/◌, [], get_or, sym, arith, length}
use Rattle.std.specs.Ordering.{nat_cmp}
use Rattle.std.specs.Cmp.Lexicographic.{slice_cmp}
use Rattle.std.proofs.lemmas.Map.Lookups.{exact_bytes}
use Rattle.file_lists.proofs.Entries.{contains_any}
use Rattle.file_lists.proofs.Increasing.{get_or_any}
use Rattle.file_lists.proofs.Finding.{behind, before_more, behind_more}
use Rattle.file_check.proofs.Shipping.{none_of}
use Rattle.file_check.proofs.works.is_conffile.Goals as goal

pub returns-in-Equal : goal.returns-in-Equal
returns-in-Equal c =
    let paths = c.args.conffiles.now in
    let path = c.args.path.now in
    let middle = c.loop-low.low + (c.loop-low.high - c.loop-low.low) / 2 in
    let lt : middle < length paths = omega (arith, c.loop-low-test.true, c.loop-low.invariant.within) in
    let here = c.as_str.ensures ∙ c.index-conffiles-middle.is ∙ get_or_any paths middle c.index-conffiles-middle.result [] lt in
    let same = exact_bytes (get_or paths middle []) path (sym (c.cmp.ensures ∙ (λ i. slice_cmp nat_cmp (here i) (c.as_str-in-loop-low.ensures i))) ∙ c.in-Equal.is) in
    sym (contains_any paths path (middle, lt, get_or_any paths middle path [] lt ∙ same))

pub loop-low-preserved-in-Less : goal.loop-low-preserved-in-Less
loop-low-preserved-in-Less c =
    let paths = c.args.conffiles.now in
    let path = c.args.path.now in
    let middle = c.loop-low.low + (c.loop-low.high - c.loop-low.low) / 2 in
    let lt : middle < length paths = omega (arith, c.loop-low-test.true, c.loop-low.invariant.within) in
    let here = c.as_str.ensures ∙ c.index-conffiles-middle.is ∙ get_or_any paths middle c.index-conffiles-middle.result [] lt in
    let less = sym (c.cmp.ensures ∙ (λ i. slice_cmp nat_cmp (here i) (c.as_str-in-loop-low.ensures i))) ∙ c.in-Less.is in
    record {
      order = omega (arith, c.loop-low-test.true);
      within = c.loop-low.invariant.within;
      before = before_more paths path middle c.requires.order lt less;
      behind = c.loop-low.invariant.behind;
    }

pub loop-low-preserved : goal.loop-low-preserved
loop-low-preserved c =
    let paths = c.args.conffiles.now in
    let path = c.args.path.now in
    let middle = c.loop-low.low + (c.loop-low.high - c.loop-low.low) / 2 in
    let lt : middle < length paths = omega (arith, c.loop-low-test.true, c.loop-low.invariant.within) in
    let here = c.as_str.ensures ∙ c.index-conffiles-middle.is ∙ get_or_any paths middle c.index-conffiles-middle.result [] lt in
    let greater = sym (c.cmp.ensures ∙ (λ i. slice_cmp nat_cmp (here i) (c.as_str-in-loop-low.ensures i))) ∙ c.in-Greater.is in
    record {
      order = omega arith;
      within = omega (arith, lt);
      before = c.loop-low.invariant.before;
      behind = behind_more paths path middle c.requires.order (behind path (get_or paths middle []) greater);
    }

pub returns : goal.returns
returns c =
    let inv = c.loop-low.invariant in
    none_of c.args.conffiles.now c.args.path.now c.loop-low.low c.loop-low.high (omega (arith, c.loop-low-test.false)) inv.before inv.behind
