use Rattle.std.proofs.Common.{◌∙◌, ◌<◌, sym, ap, subst, List, ℕ, length}
use Rattle.std.proofs.Math.ListN.{set}
use Rattle.file_lists.specs.declared.paths.PackageList.{PackageList}
use Rattle.file_lists.specs.Table.{IsSet}
use Rattle.file_lists.specs.Writing.{package_list, with_paths_at}
use Rattle.file_lists.proofs.Tables.{name_at, lists_set, is_set}
use Rattle.file_lists.proofs.table.Table.set.Goals as goal

pub invariant_of-self : goal.invariant_of-self
invariant_of-self c =
    let lists = c.self.inside.lists.items in
    let lt = subst (λ (l : List PackageList). c.args.at < length l) (sym c.self.view_is) c.requires.at in
    lists_set lists c.args.at c.args.paths c.index_mut.result.now.name (sym (name_at lists c.args.at c.index_mut.result.now lt c.index_mut.ensures.value)) c.self.invariant c.requires.paths

pub returns-clause-value : goal.returns-clause-value
returns-clause-value c =
    let lists = c.self.inside.lists.items in
    let lt = subst (λ (l : List PackageList). c.args.at < length l) (sym c.self.view_is) c.requires.at in
    ap (λ (n : List ℕ). set lists c.args.at (package_list n c.args.paths)) (sym (name_at lists c.args.at c.index_mut.result.now lt c.index_mut.ensures.value)) ∙ ap (with_paths_at c.args.at c.args.paths) c.self.view_is

pub returns-clause-set : goal.returns-clause-set
returns-clause-set c =
    let lists = c.self.inside.lists.items in
    let lt = subst (λ (l : List PackageList). c.args.at < length l) (sym c.self.view_is) c.requires.at in
    subst (λ (l : List PackageList). IsSet c.args.at c.args.paths l (set lists c.args.at (package_list c.index_mut.result.now.name c.args.paths))) c.self.view_is
    (is_set lists c.args.at c.args.paths c.index_mut.result.now.name (sym (name_at lists c.args.at c.index_mut.result.now lt c.index_mut.ensures.value)) c.self.invariant lt)
