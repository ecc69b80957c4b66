use Rattle.std.proofs.Common.{◌<◌, ◌≤◌, ◌∙◌, Contains, length, map, string_bytes, subst, sym, arith}
use Rattle.std.proofs.lemmas.List.{length-map, take_all}
use Rattle.host_files.proofs.Meeting.{all_listed, goes_then, includes_then}
use Rattle.host_files.proofs.walking.walk_all.Goals as goal

pub loop-at-preserved : goal.loop-at-preserved
loop-at-preserved c =
    let before = c.loop-at.invariant in
    let old = map string_bytes c.loop-at.walked.items in
    let new = map string_bytes c.walk_at.new.walked.items in
    let low : c.loop-at.at < length (map string_bytes c.loop-at.walked.items) = simp length-map (omega (arith, c.loop-at.walked.ok.0)) in
    record {
      listed = all_listed (string_bytes c.args.root.now.front) c.loop-at.system.trace.calls c.walk_at.new.system.trace.calls old new c.loop-at.at low c.in_ok-walk_at.ensures.calls c.in_ok-walk_at.ensures.more before.listed c.in_ok-walk_at.ensures.listed;
      calls = includes_then c.args.system.now.trace.calls c.loop-at.system.trace.calls c.walk_at.new.system.trace.calls before.calls c.in_ok-walk_at.ensures.calls;
      more = goes_then (map string_bytes c.args.walked.now.items) old new before.more c.in_ok-walk_at.ensures.more;
      same = c.walk_at.ensures.same ∙ before.same;
    }

pub returns-then-at-len-clause-listed : goal.returns-then-at-len-clause-listed
returns-then-at-len-clause-listed c = λ path has.
    let fits : length (map string_bytes c.loop-at.walked.items) ≤ c.loop-at.at = simp length-map (omega (arith, c.loop-at.walked.ok.0)) in
    c.loop-at.invariant.listed path (subst (λ l. Contains l path) (sym (take_all c.loop-at.at (map string_bytes c.loop-at.walked.items) fits)) has)
