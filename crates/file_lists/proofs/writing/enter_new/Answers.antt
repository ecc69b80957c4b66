use Rattle.std.proofs.Common.{◌∙◌, sym, ap, subst, List, ℕ, length, get_or}
use Rattle.std.proofs.lemmas.List.Edits.{get_or-insert_at}
use Rattle.host_core.specs.Paths.{Path}
use Rattle.file_lists.specs.Index.{HaveRoom, IsIndexed}
use Rattle.file_lists.specs.declared.paths.PackageList.{PackageList}
use Rattle.file_lists.specs.Writing.{IsEntered}
use Rattle.file_lists.proofs.Moved.{indexed_inserted}
use Rattle.file_lists.proofs.writing.enter_new.Goals as goal

pub returns : goal.returns
returns c = λ lists come indexed.
    let at = c.args.at in
    let mid = c.make_room.new.index in
    let stood = c.index-as_slice-at.result in
    let paths = c.as_slice-2.ensures ∙ ap (λ (l : PackageList). l.paths) (ap (λ (ls : List PackageList). get_or ls at stood) (c.as_slice.ensures ∙ come.is) ∙ get_or-insert_at lists at come.list stood come.within) in
    subst (IsIndexed c.enter.new.index) (sym come.is)
    (indexed_inserted lists at come.list come.within c.args.index.now mid c.enter.new.index indexed
    (subst (λ (n : ℕ). HaveRoom at n c.args.index.now mid) come.counted c.make_room.ensures)
    (subst (λ (ps : List Path). IsEntered mid ps at c.enter.new.index) paths c.enter.ensures))
