use Rattle.std.proofs.Common.{◌∙◌, sym, subst}
use Rattle.std.specs.Prelude.{IfOk, option_copied, ◌≡◌}
use Rattle.std.proofs.lemmas.Bool.{MatchBool-at_true}
use Rattle.host_core.specs.Paths.{Path}
use Rattle.aliases.specs.Aliases.{IsFree}
use Rattle.aliases.proofs.Following.{resolved_free}
use Rattle.diversions.specs.Ways.{entry_at}
use Rattle.diversions.proofs.Aliased.{none_behind}
use Rattle.diversions.proofs.ways.Ways.entry_behind.Goals as goal

pub returns-then-is_empty : goal.returns-then-is_empty
returns-then-is_empty c = none_behind c.args.self.now.aliases c.args.self.now.entries c.args.path.now (c.is_empty.ensures.0 c.if-is_empty.true) c.requires.unlisted

pub returns-then-is_free : goal.returns-then-is_free
returns-then-is_free c =
    subst (λ (p : Path). IfOk c.entry_at.result (λ o. option_copied o ≡ entry_at c.args.self.now.aliases c.args.self.now.entries p))
    (c.as_str-then-is_free.ensures ∙ sym (resolved_free c.args.self.now.aliases c.args.path.now (subst (IsFree c.args.self.now.aliases) c.as_str.ensures (MatchBool-at_true _ _ c.if-is_free.true c.is_free.ensures))))
    c.entry_at.ensures
