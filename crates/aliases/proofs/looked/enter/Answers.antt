use Rattle.std.proofs.Common.{◌∙◌, ap, refl}
use Rattle.std.specs.String.{string_bytes, string_eq}
use Rattle.aliases.specs.Entries.{texts_of}
use Rattle.aliases.proofs.Remembered.{entered, kept_in}
use Rattle.aliases.proofs.looked.enter.Goals as goal

pub returns : goal.returns
returns c = ap (texts_of string_bytes) (kept_in c.insert.result _ (c.insert.ensures.succeeds c.requires.room) c.insert.ensures.keys) ∙ entered string_bytes string_eq c.args.ways.now.keys c.args.way (λ a b. refl) c.requires.new
