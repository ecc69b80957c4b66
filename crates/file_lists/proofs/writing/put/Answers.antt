use Rattle.std.proofs.Common.{◌∙◌, ◌<◌, sym, ap, subst, List, ℕ, length, arith}
use Rattle.std.proofs.lemmas.List.Edits.{length-insert}
use Rattle.host_core.specs.Paths.{Path}
use Rattle.file_lists.specs.Index.{IsIndexed}
use Rattle.file_lists.specs.declared.paths.PackageList.{PackageList}
use Rattle.file_lists.specs.Writing.{package_list, with_list, IsEntered}
use Rattle.file_lists.proofs.Changed.{indexed_with, with_there}
use Rattle.file_lists.proofs.writing.put.Goals as goal

pub returns-in-Some-clause-indexed : goal.returns-in-Some-clause-indexed
returns-in-Some-clause-indexed c =
    subst (IsIndexed c.enter.new.index) (sym c.set.ensures.value)
    (indexed_with c.args.table.now c.in-Some.at c.args.paths c.args.index.now c.enter.new.index c.in-Some.ensures.some.0 c.requires.indexed
    (subst (λ (l : List Path). IsEntered c.args.index.now l c.in-Some.at c.enter.new.index) c.as_slice.ensures c.enter.ensures))

pub returns-in-Some-clause-table : goal.returns-in-Some-clause-table
returns-in-Some-clause-table c =
    c.set.ensures.value ∙ with_there c.args.table.now c.as_bytes.result.now c.args.paths c.in-Some.at c.law.ensures.names c.in-Some.ensures.some
    ∙ ap (λ (n : List ℕ). with_list n c.args.paths c.args.table.now) (c.as_bytes.ensures.value ∙ c.as_str.ensures)

pub enter_new-requires : goal.enter_new-requires
enter_new-requires c =
    let lists = c.args.table.now in
    let at = c.in_ok-at-in-None.at in
    let list = package_list c.in_ok-copy-in-None.field-0 c.args.paths in
    let within = c.in_ok-at-in-None.ensures.place in
    subst (λ (ls : List PackageList). at < length ls) (sym c.in_ok-at-in-None.ensures.there) (let count = length-insert lists at list within in omega (arith, count, within))

pub returns-in-None-clause-indexed : goal.returns-in-None-clause-indexed
returns-in-None-clause-indexed c = c.enter_new.ensures c.args.table.now (record {
  list = package_list c.in_ok-copy-in-None.field-0 c.args.paths;
  within = c.in_ok-at-in-None.ensures.place;
  counted = ap (λ (ls : List PackageList). length ls) c.as_slice-count.ensures;
  is = c.in_ok-at-in-None.ensures.there;
})
    c.requires.indexed
