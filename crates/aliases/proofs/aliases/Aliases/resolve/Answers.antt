use Rattle.std.proofs.Common.{◌≡◌, sym, subst}
use Rattle.std.specs.Prelude.{IfOk}
use Rattle.std.proofs.lemmas.Bool.{MatchBool-at_true}
use Rattle.host_core.specs.Paths.{Path}
use Rattle.aliases.specs.Aliases.{IsFree}
use Rattle.aliases.proofs.Following.{resolved_free}
use Rattle.aliases.proofs.aliases.Aliases.resolve.Goals as goal

pub returns-then-is_free : goal.returns-then-is_free
returns-then-is_free c =
    subst (λ (x : Path). IfOk c.copy.result (λ p. p ≡ x))
    (sym (resolved_free c.args.self.now c.args.path.now (subst (IsFree c.args.self.now) c.as_str.ensures (MatchBool-at_true _ _ c.if-is_free.true c.is_free.ensures)))) c.copy.ensures
