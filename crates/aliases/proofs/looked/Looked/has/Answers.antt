use Rattle.std.proofs.Common.{◌∙◌, ap, List}
use Rattle.std.specs.List.{list_any}
use Rattle.std.specs.Str.{bytes_eq}
use Rattle.std.specs.String.{string_bytes}
use Rattle.host_core.specs.Paths.{Path}
use Rattle.aliases.proofs.Tables.{some_text}
use Rattle.aliases.proofs.looked.Looked.has.Goals as goal

pub returns : goal.returns
returns c = c.contains.ensures ∙ some_text string_bytes c.self.inside.ways.keys c.args.way.now ∙ ap (λ (l : List Path). list_any (bytes_eq c.args.way.now) l) c.self.view_is
