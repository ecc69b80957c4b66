use Rattle.std.specs.Prelude.{Ok}
use Rattle.undo_rows.specs.Transcripts.{MayStep}
use Rattle.undo_rows.proofs.Parts.{nothing_done}
use Rattle.undo_rows.proofs.Rowwise.{may_step}
use Rattle.undo_rows.proofs.Tellings.{begun_none}
use Rattle.scattered_losses.proofs.GoingApart.{works_here}
use Rattle.undo_rows.proofs.stack.Stack.step.Goals as goal

pub returns-then-is_err-clause-told : goal.returns-then-is_err-clause-told
returns-then-is_err-clause-told g c = let some = may_step c.args.row in begun_none (MayStep c.args.row) _ _ _ some.0 some.1 (nothing_done _)

pub returns-then-is_err-clause-apart : goal.returns-then-is_err-clause-apart
returns-then-is_err-clause-apart g c = λ h. ((works_here {T = Unit {0}} {E = Unit {0}} g.A.Around.area (Ok tt) (g.H.Host.state c.args.host.now) h).0, tt)
