use Rattle.std.proofs.Common.{◌∙◌, ◌%◌, sym, ap, subst, length}
use Rattle.std.proofs.lemmas.Bool.{MatchBool-at_true}
use Rattle.host_core.specs.Paths.{Path}
use Rattle.aliases.specs.Aliases.{IsFree}
use Rattle.aliases.proofs.Following.{resolved_free}
use Rattle.file_lists.specs.Index.{Keyed, path_number}
use Rattle.file_lists.proofs.index.Index.row_number_for.Goals as goal

pub returns-then-is_free-clause-row : goal.returns-then-is_free-clause-row
returns-then-is_free-clause-row c =
    let free : IsFree c.args.self.now.aliases c.args.path.now = subst (IsFree c.args.self.now.aliases) c.as_str.ensures (subst (λ (k : Keyed). IsFree k.aliases c.as_str.result.now) c.self.view_is (MatchBool-at_true _ _ c.if-is_free.true c.is_free.ensures)) in
    c.row_number.ensures.row ∙ ap (λ (p : Path). path_number p % length c.args.self.now.rows) (sym (resolved_free c.args.self.now.aliases c.args.path.now free))
