use Rattle.std.proofs.Common.{refl}
use Rattle.command_line.proofs.Held.{left_of_nothing, some_left, written_all, written_more, written_part, written_start, written_till}
use Rattle.command_line.proofs.writing.write_whole.Goals as goal

pub loop-init : goal.loop-init
loop-init g c = record { written = written_start c.args.text.now (g.W.Write.contents c.args.writer.now); idle = λ e. refl }

pub loop-preserved : goal.loop-preserved
loop-preserved g c =
    let contents = g.W.Write.contents in
    let so_far = c.loop.invariant.written in
    record {
      written = written_more c.args.text.now c.loop.left.now c.in-Some.ensures.0 c.in-Some.rest.now (contents c.args.writer.now) (contents c.loop.writer) (contents c.write_some.new.writer) so_far c.in-Some.ensures.1 c.in-Some.ensures.2;
      idle = λ e. absurd (some_left c.loop.left.now c.is_empty.result c.is_empty.ensures c.if-is_empty.false (left_of_nothing c.args.text.now c.loop.left.now (contents c.args.writer.now) (contents c.loop.writer) so_far e));
    }

pub returns-then-is_empty-clause-written : goal.returns-then-is_empty-clause-written
returns-then-is_empty-clause-written g c = written_all c.args.text.now c.loop.left.now (g.W.Write.contents c.args.writer.now) (g.W.Write.contents c.loop.writer) c.is_empty.result c.loop.invariant.written c.is_empty.ensures c.if-is_empty.true

pub returns-in-None-clause-written : goal.returns-in-None-clause-written
returns-in-None-clause-written g c =
    let contents = g.W.Write.contents in
    written_part c.args.text.now c.loop.left.now (contents c.args.writer.now) (contents c.loop.writer) (contents c.write_some.new.writer) c.is_empty.result c.loop.invariant.written c.is_empty.ensures c.if-is_empty.false c.in-None.ensures

pub returns-in-None-clause-idle : goal.returns-in-None-clause-idle
returns-in-None-clause-idle g c =
    let contents = g.W.Write.contents in
    λ e. absurd (some_left c.loop.left.now c.is_empty.result c.is_empty.ensures c.if-is_empty.false (left_of_nothing c.args.text.now c.loop.left.now (contents c.args.writer.now) (contents c.loop.writer) c.loop.invariant.written e))

pub returns-clause-written : goal.returns-clause-written
returns-clause-written g c = written_till c.args.text.now c.loop.left.now (g.W.Write.contents c.args.writer.now) (g.W.Write.contents c.loop.writer) c.is_empty-2.result c.loop.invariant.written c.is_empty-2.ensures
