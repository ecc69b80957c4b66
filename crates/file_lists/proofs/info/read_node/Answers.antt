use Rattle.std.proofs.Common.{◌∙◌, ◌↔◌, sym, ap, subst, List, ℕ, Some, Contains}
use Rattle.std.proofs.lemmas.Result.{IfOk-weaker}
use Rattle.diversions.specs.Lines.{lines_in}
use Rattle.file_lists.specs.Lists.{Lists, paths_in}
use Rattle.file_lists.specs.Owners.{AreListPaths}
use Rattle.file_lists.proofs.info.read_node.Goals as goal

pub returns-in_default-clause-paths : goal.returns-in_default-clause-paths
returns-in_default-clause-paths c = subst AreListPaths (sym c.new.ensures.items) record { order = tt; room = tt }

pub returns-in-File-clause-lists : goal.returns-in-File-clause-lists
returns-in-File-clause-lists c =
    IfOk-weaker c.read_list.result _ _ (λ paths same q. subst (λ n. Contains paths q ↔ Lists n q) (sym (c.in-Some.is ∙ ap (λ n. Some n) c.in-File.is))
    (same q)) c.read_list.ensures.same
