use Rattle.std.proofs.Common.{◌≡◌, false, string_bytes, rules}
use Rattle.host_core.specs.Tree.{IsBelow}
use Rattle.host_files.proofs.DirectoryLaws.{above_found}
use Rattle.host_files.proofs.CutOff.{cut_above, cut_here}
use Rattle.host_files.proofs.looking.+reaches.Goals as goal

pub returns-then-not-branch-clause-cut : goal.returns-then-not-branch-clause-cut
returns-then-not-branch-clause-cut t c =
    let below : IsBelow c.in-Some.above.now c.args.path.now = above_found c.args.path.now c.in-Some.above.now c.in-Some.field-0-1.now c.in-Some.ensures.cases in
    let no : c.in_ok-reaches.field-0 ≡ false = search rules in
    λ same. cut_above (string_bytes c.args.root.now.front) c.in-Some.above.now c.args.path.now c.reaches.new.system.trace.calls below (c.in_ok-reaches.ensures.cut no)

pub returns-clause-cut : goal.returns-clause-cut
returns-clause-cut t c =
    let below : IsBelow c.in-Some.above.now c.args.path.now = above_found c.args.path.now c.in-Some.above.now c.in-Some.field-0-1.now c.in-Some.ensures.cases in
    cut_here (string_bytes c.args.root.now.front) c.in-Some.above.now c.args.path.now c.reaches.new.system.trace.calls c.is_directory_at.new.system.trace.calls c.is_directory_at.result below c.in_ok-reaches.ensures.same c.is_directory_at.ensures.no
