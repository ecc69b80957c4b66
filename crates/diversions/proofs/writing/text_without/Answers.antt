use Rattle.diversions.proofs.WrittenTables.{written_more}
use Rattle.diversions.proofs.writing.text_without.Goals as goal

pub loop-entry-preserved : goal.loop-entry-preserved
loop-entry-preserved c = written_more c.loop-entry.text.items c.write_other.new.text.items c.args.path.now c.loop-entry.yielded c.in-Some.entry c.loop-entry.invariant c.in_ok-write_other.ensures
