use Rattle.std.proofs.Common.{◌∙◌, ◌++◌, ◌∷◌, ℕ, List, Contains, map, string_bytes, ap, subst, sym, arith}
use Rattle.std.proofs.lemmas.List.{take_all}
use Rattle.host_files.specs.Walked.{HasMet}
use Rattle.host_files.proofs.Meeting.{goes_includes, goes_then, includes_then, names_met}
use Rattle.host_files.proofs.walking.meet_all.Goals as goal

pub loop-name-preserved : goal.loop-name-preserved
loop-name-preserved c =
    let before = c.loop-name.invariant in
    let front = string_bytes c.args.root.now.front in
    let directory = c.args.directory.now in
    let path = c.in_ok-path.ensures ∙ ap (λ (n : List ℕ). directory ++ 47 ∷ n) c.as_str.ensures.value in
    record {
      met = names_met front c.loop-name.system.trace.calls c.meet.new.system.trace.calls (map string_bytes c.loop-name.walked.items) (map string_bytes c.meet.new.walked.items) directory c.args.names.now c.loop-name.name-index c.name-item.result
          c.loop-name-test.true c.name-item.is c.in_ok-meet.ensures.calls (goes_includes (map string_bytes c.loop-name.walked.items) (map string_bytes c.meet.new.walked.items) c.in_ok-meet.ensures.more) before.met
          (subst (HasMet front c.meet.new.system.trace.calls (map string_bytes c.meet.new.walked.items)) path c.in_ok-meet.ensures.met);
      calls = includes_then c.args.system.now.trace.calls c.loop-name.system.trace.calls c.meet.new.system.trace.calls before.calls c.in_ok-meet.ensures.calls;
      more = goes_then (map string_bytes c.args.walked.now.items) (map string_bytes c.loop-name.walked.items) (map string_bytes c.meet.new.walked.items) before.more c.in_ok-meet.ensures.more;
      same = c.meet.ensures.same ∙ before.same;
    }

pub returns-clause-met : goal.returns-clause-met
returns-clause-met c = λ name has. c.loop-name.invariant.met name (subst (λ l. Contains (map string_bytes l) name) (sym (take_all c.loop-name.name-index c.args.names.now (omega arith))) has)
