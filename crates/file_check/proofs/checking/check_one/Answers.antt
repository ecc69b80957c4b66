use Rattle.std.proofs.Common.{rules, ◌≡◌, ap, subst, ◌∙◌}
use Rattle.std.specs.BTreeSet.{contains_text}
use Rattle.host_core.specs.Paths.{Path}
use Rattle.host_core.specs.World.{World}
use Rattle.host_core.proofs.Moments.{reads_then}
use Rattle.file_check.specs.declared.sight.Sight.{Sight}
use Rattle.file_check.specs.Above.{IsAbove}
use Rattle.file_check.specs.InWay.{sight_of, in_way_by, in_way_at}
use Rattle.file_check.specs.Clashes.{clash_by, clash_at}
use Rattle.file_check.proofs.Readiness.{once_told}
use Rattle.file_check.proofs.Sounds.{judged_by}
use Rattle.file_check.proofs.checking.check_one.Goals as goal

pub returns-in_err-sight-clause-looks : goal.returns-in_err-sight-clause-looks
returns-in_err-sight-clause-looks g c = record {
  found = search rules;
  reads = reads_then _ _ _ c.look_above.ensures.looks.reads c.look_around.ensures.looks.reads;
  silent = search rules;
  counts = search rules;
}

pub returns-in_err-judge-clause-looks : goal.returns-in_err-judge-clause-looks
returns-in_err-judge-clause-looks g c = record {
  found = search rules;
  reads = reads_then _ _ _ c.look_above.ensures.looks.reads c.look_around.ensures.looks.reads;
  silent = search rules;
  counts = search rules;
}

pub returns-clause-looks : goal.returns-clause-looks
returns-clause-looks g c = record {
  found = λ h.
      let s = c.args.shipped.now in
      let o = c.args.owning.now in
      let made = contains_text c.args.index.now.made in
      let twice = contains_text c.args.index.now.twice in
      let w = (g.H.Host.state c.args.host.now).world in
      let h1 = c.look_around.ensures.looks.silent.honest h in
      let seen = c.requires.seen (c.look_above.ensures.looks.silent.honest h1) in
      let above = subst (λ (p : Path). IsAbove made w p c.in_ok-above.above) c.as_str.ensures (c.in_ok-above.ensures.looks.found h1) in
      let sight : c.in_ok-sight.sight ≡ sight_of w s = c.in_ok-sight.ensures.looks.found h ∙ ap (λ (v : World). sight_of v s) c.look_above.ensures.looks.reads.world in
      let way : in_way_by o s s.had c.in_ok-sight.sight ≡ in_way_at o w s = λ i. in_way_by o s (seen i) (sight i) in
      let clash : clash_by o twice s c.in_ok-sight.sight.place ≡ clash_at o twice w s = ap (λ (x : Sight). clash_by o twice s x.place) sight in
      judged_by o made twice w s c.in_ok-above.above _ _ c.in_ok-judge.field-0 c.in_ok-judge.ensures.first above way clash;
  reads = reads_then _ _ _ c.look_above.ensures.looks.reads c.look_around.ensures.looks.reads;
  silent = search rules;
  counts = search rules;
}

pub returns-clause-apart : goal.returns-clause-apart
returns-clause-apart g c =
    once_told c.args.owning.now (contains_text c.args.index.now.twice) c.args.shipped.now c.in_ok-sight.sight.place c.in_ok-above.above _ _ c.in_ok-judge.field-0 c.in_ok-judge.ensures.first
