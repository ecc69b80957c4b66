use Rattle.std.proofs.Common.{refl}
use Rattle.trigger_turns.proofs.Turned.{told_same}
use Rattle.trigger_turns.proofs.settling.note_settled.Goals as goal

pub returns-in-Err-clause-watched : goal.returns-in-Err-clause-watched
returns-in-Err-clause-watched g c = told_same _ _ _ _ refl
