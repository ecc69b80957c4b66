use Rattle.std.proofs.Common.{rules, ◌≡◌, ◌<◌, false, length, subst, ◌∙◌, arith, Option}
use Rattle.std.specs.Prelude.{MatchOption, IfNone}
use Rattle.std.specs.BTreeSet.{contains_text}
use Rattle.host_core.specs.World.{World}
use Rattle.host_core.proofs.Moments.{reads_then, silent_then}
use Rattle.undo_rows.specs.declared.fall.StepFault.{StepFault}
use Rattle.file_check.specs.Sound.{IsSound, IsFaultOf}
use Rattle.file_check.proofs.Sounds.{sound_next, fault_next, outside_next}
use Rattle.file_check.proofs.checking.check_each.Goals as goal

pub returns-in_err-fault-clause-looks : goal.returns-in_err-fault-clause-looks
returns-in_err-fault-clause-looks g c = record {
  found = search rules;
  reads = reads_then _ _ _ c.loop-one.invariant.reads c.check_one.ensures.looks.reads;
  silent = search rules;
  counts = search rules;
}

pub returns-in-Some-clause-looks : goal.returns-in-Some-clause-looks
returns-in-Some-clause-looks g c = record {
  found = λ h.
      let inv = c.loop-one.invariant in
      let s = c.one-item.result in
      let o = c.args.owning.now in
      let made = contains_text c.args.index.now.made in
      let twice = contains_text c.args.index.now.twice in
      let w = (g.H.Host.state c.args.host.now).world in
      let told = subst (λ (v : World). MatchOption c.in_ok-fault.field-0 (IsSound o made twice v s) (IsFaultOf o made twice v s)) inv.reads.world (c.in_ok-fault.ensures.looks.found h) in
      let is = subst (λ (f : Option StepFault). MatchOption f (IsSound o made twice w s) (IsFaultOf o made twice w s)) c.in-Some.is told in
      fault_next o made twice w c.args.works.now c.loop-one.one-index s (omega arith) c.one-item.is c.in-Some.fault (inv.sound (c.check_one.ensures.looks.silent.honest h)) is;
  reads = reads_then _ _ _ c.loop-one.invariant.reads c.check_one.ensures.looks.reads;
  silent = search rules;
  counts = search rules;
}

pub loop-one-preserved : goal.loop-one-preserved
loop-one-preserved g c =
    let inv = c.loop-one.invariant in
    let works = c.args.works.now in
    let i = c.loop-one.one-index in
    let s = c.one-item.result in
    let o = c.args.owning.now in
    let made = contains_text c.args.index.now.made in
    let twice = contains_text c.args.index.now.twice in
    let w = (g.H.Host.state c.args.host.now).world in
    let within : i < length works = omega arith in
    record {
      sound = λ h.
          let told = subst (λ (v : World). MatchOption c.in_ok-fault.field-0 (IsSound o made twice v s) (IsFaultOf o made twice v s)) inv.reads.world (c.in_ok-fault.ensures.looks.found h) in
          let is = subst (λ (f : Option StepFault). MatchOption f (IsSound o made twice w s) (IsFaultOf o made twice w s)) c.in_default.is told in
          sound_next o made twice w works i s within c.one-item.is (inv.sound (c.check_one.ensures.looks.silent.honest h)) is;
      apart = outside_next twice works i s within c.one-item.is inv.apart (subst (λ (f : Option StepFault). IfNone f (twice s.place ≡ false)) c.in_default.is c.in_ok-fault.ensures.apart);
      reads = reads_then _ _ _ inv.reads c.check_one.ensures.looks.reads;
      silent = silent_then _ _ _ inv.silent c.check_one.ensures.looks.silent;
      counts = search rules;
    }
