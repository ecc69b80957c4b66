use Rattle.std.proofs.Common.{ap, Some, codes, [], ◌∷◌}
use Rattle.clap.specs.Words.{Rule}
use Rattle.clap.specs.declared.builder.ArgAction.TheVariants.{Set}
use Rattle.command_words.proofs.command.root.Goals as goal

pub returns : goal.returns
returns c =
    rw (c.default_value.ensures, c.action.ensures, c.long.ensures)
    (ap (λ (r : Rule). record r { long = Some (codes "root"); action = Some Set; defaults = codes "/" ∷ [] }) c.new.ensures.rule)
