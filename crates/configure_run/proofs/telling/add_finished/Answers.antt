use Rattle.std.proofs.Common.{◌∙◌, [], append-nil, refl, sym}
use Rattle.configure_run.proofs.telling.add_finished.Goals as goal

pub returns-in_err-reserve-clause-watched : goal.returns-in_err-reserve-clause-watched
returns-in_err-reserve-clause-watched g c = record { more = []; grown = c.reserve.ensures.items ∙ sym (append-nil c.args.units.now.items); told = refl }
