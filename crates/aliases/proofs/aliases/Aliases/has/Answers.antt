use Rattle.std.proofs.Common.{◌∙◌, ap, List}
use Rattle.std.specs.String.{string_bytes}
use Rattle.aliases.specs.Aliases.{Alias, is_alias}
use Rattle.aliases.proofs.Kept.{some_under}
use Rattle.aliases.proofs.aliases.Aliases.has.Goals as goal

pub returns : goal.returns
returns c = c.contains_key.ensures ∙ some_under string_bytes c.self.inside.targets.entries c.args.path.now ∙ ap (λ (l : List Alias). is_alias l c.args.path.now) c.self.view_is
