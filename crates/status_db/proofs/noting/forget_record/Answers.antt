use Rattle.std.proofs.Common.{◌∙◌, sym}
use Rattle.status_records.specs.Records.{drop_record}
use Rattle.status_db.proofs.NotedWorlds.{found_named, none_there, nothing_dropped, noting_not}
use Rattle.scattered_losses.proofs.Parted.{apart_here}
use Rattle.status_db.specs.Held.{is_record_place}
use Rattle.status_db.proofs.RecordTurns.{goes_here}
use Rattle.status_db.proofs.noting.forget_record.Goals as goal

pub returns-then-not-has-clause-table : goal.returns-then-not-has-clause-table
returns-then-not-has-clause-table g c = sym (nothing_dropped c.args.name.now c.args.table.now (none_there _ (sym c.has.ensures ∙ c.if-not-has.true)))

pub returns-then-not-has-clause-any_moment : goal.returns-then-not-has-clause-any_moment
returns-then-not-has-clause-any_moment g c = noting_not c.args.table.now (drop_record c.args.name.now c.args.table.now) c.args.notes.now _ c.requires.kept

pub write_gone-requires-clause-named : goal.write_gone-requires-clause-named
write_gone-requires-clause-named g c = found_named c.args.name.now c.args.table.now (sym c.has.ensures ∙ c.if-not-has.false)

pub returns-then-not-has-clause-turns : goal.returns-then-not-has-clause-turns
returns-then-not-has-clause-turns g c = goes_here _

pub returns-then-not-has-clause-apart : goal.returns-then-not-has-clause-apart
returns-then-not-has-clause-apart g c = λ h. apart_here is_record_place (g.H.Host.state c.args.host.now) h
