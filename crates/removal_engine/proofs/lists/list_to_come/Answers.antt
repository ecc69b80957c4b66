use Rattle.std.proofs.Common.{List, ap, subst, ◌∙◌}
use Rattle.host_core.specs.Paths.{Path}
use Rattle.list_changes.specs.NewList.{IsWithParents}
use Rattle.removal_engine.specs.Lists.{housed}
use Rattle.removal_engine.specs.Records.{entry_paths}
use Rattle.removal_engine.proofs.lists.list_to_come.Goals as goal

pub returns : goal.returns
returns c =
    let paths = c.in_ok-paths.paths in
    let staying = c.as_slice-2.ensures.value ∙ c.in_ok-staying.ensures.paths ∙ ap entry_paths (c.as_slice.ensures ∙ c.in_ok-kept.ensures) in
    let above = c.as_slice-3.ensures.value ∙ c.in_ok-housed.ensures.paths in
    record {
      are_paths = c.in_ok-paths.ensures.paths;
      are = subst (λ (l : List Path). IsWithParents l (housed c.args.entry.now c.args.stored) paths) staying (subst (λ (l : List Path). IsWithParents c.as_slice-2.result.now l paths) above c.in_ok-paths.ensures.list);
    }
