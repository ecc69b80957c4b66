use Rattle.std.proofs.Common.{◌≤◌, ◌∙◌, List, length, sym, subst}
use Rattle.std.proofs.lemmas.List.{take_all}
use Rattle.file_lists.specs.Owners.{AreListPaths, paths_of}
use Rattle.host_core.specs.Paths.{Path}
use Rattle.unpack_plan.proofs.Listable.{listed_are}
use Rattle.unpack_plan.proofs.lists.listed_paths.Goals as goal

pub returns-clause-paths : goal.returns-clause-paths
returns-clause-paths c =
    let lists = c.args.lists.now.lists in
    let all = paths_of lists c.args.name.now in
    let whole = take_all c.loop-path.path-index all (subst (λ (l : List Path). length l ≤ c.loop-path.path-index) c.list_of-path-items.ensures c.loop-path-test.false) in
    subst AreListPaths (sym (c.loop-path.invariant ∙ whole)) (listed_are lists c.args.name.now c.law.ensures)
