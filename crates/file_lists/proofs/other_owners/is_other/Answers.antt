use Rattle.std.proofs.Common.{◌≡◌, ◌∙◌, ℕ, List, true, false, filter, sym, ap, subst, arith, Contains}
use Rattle.std.specs.Str.{bytes_eq}
use Rattle.std.proofs.lemmas.List.{take_all}
use Rattle.host_core.specs.Paths.{Path}
use Rattle.diversions.specs.Ways.{place}
use Rattle.file_lists.proofs.Indexes.{each_more}
use Rattle.file_lists.proofs.OtherOwners.{own_none, lies_told, none_lies}
use Rattle.file_lists.proofs.other_owners.is_other.Goals as goal

pub returns-then-eq : goal.returns-then-eq
returns-then-eq c =
    let ways = c.args.diversions.now.ways in
    let list = c.args.list.now in
    let same : bytes_eq list.name c.args.name.now ≡ true =
    ap (λ (n : List ℕ). bytes_eq n c.args.name.now) (sym c.as_str.ensures) ∙ ap (bytes_eq c.as_str.result.now) (sym c.as_str-2.ensures) ∙ sym c.eq.ensures ∙ c.if-eq.true in
    sym (own_none ways c.args.at.now c.args.name.now list.name same (filter (λ path. bytes_eq (place ways list.name path) c.args.at.now) list.paths))

pub returns-then-branch : goal.returns-then-branch
returns-then-branch c =
    let list = c.args.list.now in
    let path = c.path-item.result in
    let other : bytes_eq list.name c.args.name.now ≡ false =
    ap (λ (n : List ℕ). bytes_eq n c.args.name.now) (sym c.as_str.ensures) ∙ ap (bytes_eq c.as_str.result.now) (sym c.as_str-2.ensures) ∙ sym c.eq.ensures ∙ c.if-eq.false in
    sym (lies_told c.args.diversions.now.ways c.args.at.now c.args.name.now list.name other list.paths path
    (subst (λ (l : List Path). Contains l path) c.as_slice-path-items.ensures (c.loop-path.path-index, c.loop-path-test.true, sym c.path-item.is)) (sym c.in_ok-is_at.ensures ∙ c.if-branch.true))

pub loop-path-preserved : goal.loop-path-preserved
loop-path-preserved c =
    each_more (λ (path : Path). bytes_eq (place c.args.diversions.now.ways c.args.list.now.name path) c.args.at.now ≡ false) c.as_slice-path-items.result.now c.loop-path.path-index c.path-item.result c.loop-path-test.true c.path-item.is
    c.loop-path.invariant (sym c.in_ok-is_at.ensures ∙ c.if-branch.false)

pub returns : goal.returns
returns c =
    let items = c.as_slice-path-items.result.now in
    let all = take_all c.loop-path.path-index items (omega (arith, c.loop-path-test.false)) in
    sym (none_lies c.args.diversions.now.ways c.args.at.now c.args.name.now c.args.list.now.name c.args.list.now.paths
    (λ path has. c.loop-path.invariant path (subst (λ (l : List Path). Contains l path) (sym (all ∙ c.as_slice-path-items.ensures)) has)))
