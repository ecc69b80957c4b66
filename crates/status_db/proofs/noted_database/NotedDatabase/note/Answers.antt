use Rattle.status_db.specs.Noting.{entered_in}
use Rattle.status_db.proofs.NotedWorlds.{noting_not}
use Rattle.scattered_losses.proofs.Parted.{apart_here}
use Rattle.status_db.specs.Held.{is_record_place}
use Rattle.status_db.proofs.RecordTurns.{goes_here}
use Rattle.status_db.proofs.noted_database.NotedDatabase.note.Goals as goal

pub returns-then-self-clause-any_moment : goal.returns-then-self-clause-any_moment
returns-then-self-clause-any_moment g c = noting_not c.args.self.now.records (entered_in c.args.entry c.args.self.now.records) c.args.self.now.notes _ c.requires.kept

pub returns-then-self-clause-turns : goal.returns-then-self-clause-turns
returns-then-self-clause-turns g c = goes_here _

pub returns-then-self-clause-apart : goal.returns-then-self-clause-apart
returns-then-self-clause-apart g c = λ h. ((apart_here is_record_place (g.H.Host.state c.args.host.now) h).0, tt)
