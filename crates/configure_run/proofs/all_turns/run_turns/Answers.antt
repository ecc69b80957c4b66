use Rattle.std.proofs.Common.{List, subst, sym, ◌∙◌}
use Rattle.unit_reports.proofs.Telling.{told_added}
use Rattle.unit_reports.specs.Held.{held_by}
use Rattle.unit_reports.specs.Units.{calls_of}
use Rattle.undo_rows.specs.Transcript.{TellsAll}
use Rattle.undo_rows.specs.declared.rows.Called.{Called}
use Rattle.configure_run.specs.Turns.{StopTurns}
use Rattle.configure_run.proofs.Replies.{broken_by}
use Rattle.configure_run.proofs.Told.{refused_left_calls, some_left_calls, tells_no_more}
use Rattle.configure_run.proofs.Units.{no_calls}
use Rattle.configure_run.proofs.all_turns.run_turns.Goals as goal
use Rattle.unit_reports.proofs.Counting.{counts_no_memory, no_memory_not_abandoned, no_memory_not_closed}

pub refuse_left-requires : goal.refuse_left-requires
refuse_left-requires g c = record { none_left = c.in-Ok.ensures.none_left }

pub returns-in-Ok-refuse_left-clause-ok : goal.returns-in-Ok-refuse_left-clause-ok
returns-in-Ok-refuse_left-clause-ok g c = record { q = c.in-Ok.left; front = c.take_turns.new.units.items; turned = c.in-Ok.ensures.ok; ended = c.in-Ok.ensures.ended; left_over = c.in-Ok-refuse_left.ensures.ok }

pub returns-in-Ok-refuse_left-clause-packages : goal.returns-in-Ok-refuse_left-clause-packages
returns-in-Ok-refuse_left-clause-packages g c = c.into_packages.ensures ∙ c.in-Ok.ensures.packages

pub returns-in-Ok-refuse_left-clause-told : goal.returns-in-Ok-refuse_left-clause-told
returns-in-Ok-refuse_left-clause-told g c = subst (TellsAll (g.H.Host.state c.args.host.now) (g.H.Host.state c.take_turns.new.host) (calls_of c.args.units.now.items)) (sym {A = List Called} (refused_left_calls c.in-Ok.left c.take_turns.new.units.items c.refuse_left.new.units.items c.in-Ok-refuse_left.ensures.ok)) c.in-Ok.ensures.told

pub returns-in-Err-refuse_left-clause-err : goal.returns-in-Err-refuse_left-clause-err
returns-in-Err-refuse_left-clause-err g c = StopTurns.leaving c.in-Ok.left (held_by c.take_turns.new.administration c.args.diversions.now) c.take_turns.new.units.items c.in-Ok.ensures.ok c.in-Ok.ensures.ended c.in-Err-refuse_left.ensures.err (record { broken = broken_by _ c.no_memory.result.reply c.no_memory.ensures.reply; untouched = c.no_memory.ensures.touched; none = no_calls c.no_memory.result (g.H.Host.state c.take_turns.new.host) c.no_memory.ensures.told })

pub returns-in-Err-refuse_left-clause-told_broken : goal.returns-in-Err-refuse_left-clause-told_broken
returns-in-Err-refuse_left-clause-told_broken g c = tells_no_more (g.H.Host.state c.args.host.now) (g.H.Host.state c.take_turns.new.host) (calls_of c.args.units.now.items) (calls_of c.refuse_left.new.units.items) c.no_memory.result.calls.items (subst (TellsAll (g.H.Host.state c.args.host.now) (g.H.Host.state c.take_turns.new.host) (calls_of c.args.units.now.items)) (sym {A = List Called} (some_left_calls c.in-Ok.left c.take_turns.new.units.items c.refuse_left.new.units.items c.in-Err-refuse_left.ensures.err)) c.in-Ok.ensures.told) c.no_memory.ensures.told

pub returns-in-Err-refuse_left-clause-counts : goal.returns-in-Err-refuse_left-clause-counts
returns-in-Err-refuse_left-clause-counts g c = counts_no_memory c.no_memory.result.reply (g.H.Host.state c.args.host.now) (g.H.Host.state c.take_turns.new.host) c.in-Ok.ensures.no_fault c.no_memory.ensures.reply

pub returns-in-Err-refuse_left-clause-not_closed : goal.returns-in-Err-refuse_left-clause-not_closed
returns-in-Err-refuse_left-clause-not_closed g c = no_memory_not_closed c.no_memory.result.reply c.no_memory.ensures.reply

pub returns-in-Ok-refuse_left-clause-watched : goal.returns-in-Ok-refuse_left-clause-watched
returns-in-Ok-refuse_left-clause-watched g c =
    told_added g.W.Watcher.tells (g.H.Host.state c.args.host.now) (g.H.Host.state c.take_turns.new.host) c.args.watcher.now c.take_turns.new.watcher c.refuse_left.new.watcher c.args.units.now.items c.take_turns.new.units.items c.refuse_left.new.units.items
    c.take_turns.ensures.watched c.in-Ok.ensures.told c.in-Ok.ensures.answered c.refuse_left.ensures.watched

pub returns-in-Err-refuse_left-clause-watched : goal.returns-in-Err-refuse_left-clause-watched
returns-in-Err-refuse_left-clause-watched g c =
    told_added g.W.Watcher.tells (g.H.Host.state c.args.host.now) (g.H.Host.state c.take_turns.new.host) c.args.watcher.now c.take_turns.new.watcher c.refuse_left.new.watcher c.args.units.now.items c.take_turns.new.units.items c.refuse_left.new.units.items
    c.take_turns.ensures.watched c.in-Ok.ensures.told c.in-Ok.ensures.answered c.refuse_left.ensures.watched

pub returns-in-Err-refuse_left-clause-abandoned : goal.returns-in-Err-refuse_left-clause-abandoned
returns-in-Err-refuse_left-clause-abandoned g c told = absurd (no_memory_not_abandoned c.no_memory.result.reply c.no_memory.ensures.reply told)
