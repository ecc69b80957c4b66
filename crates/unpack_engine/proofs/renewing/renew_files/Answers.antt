use Rattle.std.proofs.Common.{◌≡◌, rules}
use Rattle.unpack_engine.proofs.renewing.renew_files.Goals as goal

pub returns-in-Ok-clause-again : goal.returns-in-Ok-clause-again
returns-in-Ok-clause-again g c = λ j calls tree lists ways planned. c.in-Ok.ensures.planned j calls tree lists planned
