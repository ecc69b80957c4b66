use Rattle.std.proofs.Common.{◌∙◌, ap, sym}
use Rattle.std.specs.Str.{bytes_eq}
use Rattle.std.proofs.lemmas.Bool.{MatchBool-at_true}
use Rattle.host_core.specs.Paths.{Path}
use Rattle.aliases.proofs.Following.{resolved_free}
use Rattle.aliases.proofs.aliases.Aliases.is_at.Goals as goal

pub returns-then-is_free : goal.returns-then-is_free
returns-then-is_free c = c.eq.ensures ∙ ap (λ (p : Path). bytes_eq p c.args.place.now) (sym (resolved_free c.args.self.now c.args.path.now (MatchBool-at_true _ _ c.if-is_free.true c.is_free.ensures)))
