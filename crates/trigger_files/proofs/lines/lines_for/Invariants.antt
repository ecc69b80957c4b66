use Rattle.std.proofs.Common.{◌≡◌, filter, map, take}
use Rattle.trigger_files.specs.Lines.{belongs, line_in}
use Rattle.trigger_files.proofs.lines.lines_for.Given as goal

abbrev pub invariant-loop-interest : goal.invariant-loop-interest
invariant-loop-interest l = l.lines.items ≡ map (line_in l.entries l.name) (filter (belongs l.name) (take l.interest-index l.entries))
