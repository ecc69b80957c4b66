use Rattle.std.proofs.Common.{◌≡◌, ◌∙◌, ap, sym, subst, ℕ, List, Option, codes}
use Rattle.std.specs.Prelude.{option_and_then}
use Rattle.control_fields.specs.Names.{IsFieldCalled, is_called}
use Rattle.stated_relations.specs.Relations.{one_architecture}
use Rattle.stated_relations.proofs.Architectures.{line_is, no_line}
use Rattle.stated_relations.proofs.architecture.architecture_of.Goals as goal

pub returns-in-Some : goal.returns-in-Some
returns-in-Some c =
    c.one_architecture.ensures ∙ ap one_architecture c.own_line.ensures
    ∙ ap (option_and_then one_architecture) (sym (line_is c.args.fields.now c.in-Some.field.now c.in-Some.ensures.some))

pub returns-in-None : goal.returns-in-None
returns-in-None c = ap (option_and_then one_architecture) (sym (no_line c.args.fields.now c.in-None.ensures.none))
