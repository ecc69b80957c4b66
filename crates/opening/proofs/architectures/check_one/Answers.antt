use Rattle.std.proofs.Common.{◌∙◌, ap, sym}
use Rattle.std.specs.Prelude.{option_copied}
use Rattle.opening.specs.Architectures.{second_in}
use Rattle.opening.proofs.OfOne.{told_of_two}
use Rattle.opening.proofs.architectures.check_one.Goals as goal

pub returns-in-Some-clause-told : goal.returns-in-Some-clause-told
returns-in-Some-clause-told g c = λ h.
    told_of_two c.refuse_for.result c.args.database.now.records c.in-Some.record.now _ (sym (ap second_in c.records.ensures) ∙ (sym c.second_in.ensures ∙ ap option_copied c.in-Some.is)) (c.refuse_for.ensures.told h)
