use Rattle.std.proofs.Common.{◌≡◌, ◌∙◌, Bool, List, not, ap, subst}
use Rattle.std.specs.BTreeSet.{contains_text}
use Rattle.std.specs.List.{filter}
use Rattle.host_core.specs.Paths.{Path}
use Rattle.list_changes.specs.NewList.{IsNewList}
use Rattle.status_records.specs.declared.entries.ConffileEntry.{ConffileEntry}
use Rattle.unpack_plan.specs.Lists.{entry_paths, staying}
use Rattle.unpack_plan.specs.Records.{is_shipped}
use Rattle.unpack_plan.proofs.lists.new_list.Goals as goal

pub returns : goal.returns
returns c =
    let files = c.args.files.now in
    let kept : (λ (e : ConffileEntry). not (contains_text c.in_ok-set.set e.path)) ≡ (λ e. not (is_shipped files e.path)) = λ i e. not (c.in_ok-set.ensures e.path i) in
    let stays = c.as_slice-2.ensures.value ∙ c.in_ok-staying.ensures.paths ∙ ap (λ (es : List ConffileEntry). entry_paths (filter (λ e. not (contains_text c.in_ok-set.set e.path)) es)) c.as_slice.ensures ∙ ap (λ (P : ConffileEntry → Bool). entry_paths (filter P c.args.fresh.now.conffiles)) kept in
    record {
      paths_are = c.in_ok-paths.ensures.paths;
      are = subst (λ (l : List Path). IsNewList l (staying files c.args.fresh.now.conffiles) c.in_ok-paths.paths) c.requires.shipped
          (subst (λ (l : List Path). IsNewList c.args.shipped.now l c.in_ok-paths.paths) stays c.in_ok-paths.ensures.list);
    }
