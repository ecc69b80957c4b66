use Rattle.package_tree.proofs.Entries.{entries_cut, entries_last}
use Rattle.package_tree.proofs.conffile_lines.entries_of.Goals as goal

pub loop-line-preserved : goal.loop-line-preserved
loop-line-preserved c =
    entries_cut c.args.text.now c.loop-line.rest.now c.in-Some.line.now c.in-Some.after.now _ _ _ c.loop-line.invariant c.in-Some.ensures.some.0 c.in-Some.ensures.some.1 c.in_ok-entry_of.ensures c.in_ok-push.ensures.items

pub returns : goal.returns
returns c = entries_last c.args.text.now c.loop-line.rest.now _ _ _ c.loop-line.invariant c.in_default.ensures.none c.in_ok-entry_of-2.ensures c.in_ok-push-2.ensures.items
