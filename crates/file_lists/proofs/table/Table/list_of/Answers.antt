use Rattle.std.proofs.Common.{◌∙◌, sym, ap, subst, List}
use Rattle.file_lists.specs.declared.paths.PackageList.{PackageList}
use Rattle.file_lists.specs.Owners.{paths_of}
use Rattle.file_lists.specs.Table.{IsAt}
use Rattle.file_lists.proofs.Tables.{paths_at, no_paths}
use Rattle.file_lists.proofs.table.Table.list_of.Goals as goal

pub returns-in-Some : goal.returns-in-Some
returns-in-Some c =
    let lists = c.self.inside.lists.items in
    let name = c.as_bytes.ensures.value ∙ c.as_str.ensures in
    let is = subst (λ (l : List PackageList). IsAt l c.as_bytes.result.now c.in-Some.at) (sym c.self.view_is) c.in-Some.ensures.some in
    c.as_slice.ensures ∙ ap (λ (l : PackageList). l.paths) c.index.ensures ∙ sym (paths_at lists c.in-Some.at c.index.result.now c.self.invariant.names is.0)
    ∙ ap (paths_of lists) (is.1 ∙ name) ∙ ap (λ (l : List PackageList). paths_of l c.args.name.now) c.self.view_is

pub returns-in-None : goal.returns-in-None
returns-in-None c = sym (ap (paths_of c.args.self.now) (sym (c.as_bytes.ensures.value ∙ c.as_str.ensures)) ∙ no_paths c.args.self.now c.as_bytes.result.now c.in-None.ensures.none)
