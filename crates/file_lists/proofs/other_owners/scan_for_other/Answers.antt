use Rattle.std.proofs.Common.{◌∙◌, List, sym, subst, arith, Contains}
use Rattle.std.proofs.lemmas.List.{take_all}
use Rattle.file_lists.specs.declared.paths.PackageList.{PackageList}
use Rattle.file_lists.proofs.OtherOwners.{list_told, lists_none}
use Rattle.file_lists.proofs.other_owners.scan_for_other.Goals as goal

pub returns : goal.returns
returns c =
    let all = take_all c.loop-list.list-index c.args.lists.now (omega (arith, c.loop-list-test.false)) in
    sym (lists_none c.args.diversions.now.ways c.args.at.now c.args.name.now c.args.lists.now (λ l has. c.loop-list.invariant l (subst (λ (ls : List PackageList). Contains ls l) (sym all) has)))

pub returns-then-branch : goal.returns-then-branch
returns-then-branch c =
    sym (list_told c.args.diversions.now.ways c.args.at.now c.args.name.now c.args.lists.now c.list-item.result (c.loop-list.list-index, c.loop-list-test.true, sym c.list-item.is) (sym c.in_ok-is_other.ensures ∙ c.if-branch.true))
