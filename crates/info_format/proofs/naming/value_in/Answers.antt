use Rattle.std.proofs.Common.{◌∙◌, sym, ap}
use Rattle.std.specs.Option.{option_copied}
use Rattle.status_records.proofs.Sayings.{found_field}
use Rattle.info_format.specs.Names.{line_of}
use Rattle.info_format.proofs.naming.value_in.Goals as goal

pub returns-in-Some : goal.returns-in-Some
returns-in-Some c = c.own_line.ensures ∙ ap (λ o. line_of (option_copied o)) (sym c.in-Some.is) ∙ ap line_of (found_field c.get.result c.args.field.now c.args.record.now.fields c.get.ensures.some c.get.ensures.none)

pub returns-in-None : goal.returns-in-None
returns-in-None c = ap (λ o. line_of (option_copied o)) (sym c.in-None.is) ∙ ap line_of (found_field c.get.result c.args.field.now c.args.record.now.fields c.get.ensures.some c.get.ensures.none)
