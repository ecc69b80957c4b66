use Rattle.file_lists.proofs.WrittenLists.{text_more}
use Rattle.file_lists.proofs.writing.list_text.Goals as goal

pub loop-path-preserved : goal.loop-path-preserved
loop-path-preserved c = text_more c.args.paths.now c.loop-path.path-index c.path-item.result c.loop-path.text.items c.write_line.new.text.items c.line_of.result.now c.loop-path-test.true c.path-item.is c.line_of.ensures c.loop-path.invariant c.in_ok-write_line.ensures
