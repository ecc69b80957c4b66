use Rattle.std.proofs.Common.{ap}
use Rattle.diversions.specs.Diverted.{Diverted}
use Rattle.host_core.proofs.Moments.{reads_then}
use Rattle.unpack_engine.proofs.Reading.{table_beside}
use Rattle.unpack_engine.proofs.renewing.read_ways.Goals as goal

pub returns-then-changed-clause-table : goal.returns-then-changed-clause-table
returns-then-changed-clause-table g c = λ h.
    table_beside (g.H.Host.state c.args.host.now).world c.args.diversions.now.ways c.read_again.new.diversions.ways c.follow_in_hand.new.diversions.ways
    (ap (λ (d : Diverted). d.ways.entries) c.follow_in_hand.ensures.kept) (c.in-Ok.ensures.table (c.follow_in_hand.ensures.silent.honest h))

pub returns-then-changed-clause-reads : goal.returns-then-changed-clause-reads
returns-then-changed-clause-reads g c = reads_then _ _ _ c.read_again.ensures.reads c.follow_in_hand.ensures.reads

pub returns-else-changed-clause-table : goal.returns-else-changed-clause-table
returns-else-changed-clause-table g c = λ h.
    table_beside (g.H.Host.state c.args.host.now).world c.args.diversions.now.ways c.read_again.new.diversions.ways c.follow_in_hand.new.diversions.ways
    (ap (λ (d : Diverted). d.ways.entries) c.follow_in_hand.ensures.kept) (c.in-Ok.ensures.table (c.follow_in_hand.ensures.silent.honest h))

pub returns-else-changed-clause-reads : goal.returns-else-changed-clause-reads
returns-else-changed-clause-reads g c = reads_then _ _ _ c.read_again.ensures.reads c.follow_in_hand.ensures.reads

pub returns-in-Err-follow_in_hand-clause-reads : goal.returns-in-Err-follow_in_hand-clause-reads
returns-in-Err-follow_in_hand-clause-reads g c = reads_then _ _ _ c.read_again.ensures.reads c.follow_in_hand.ensures.reads
