use Rattle.scattered_losses.proofs.GoingApart.{goes_here}
use Rattle.status_db.specs.Held.{is_record_place}
use Rattle.unpack_steps.proofs.notes.write_note.Goals as goal

pub returns-in-None-clause-apart : goal.returns-in-None-clause-apart
returns-in-None-clause-apart g c = goes_here is_record_place (g.H.Host.state c.args.host.now)
