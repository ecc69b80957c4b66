use Rattle.std.proofs.Common.{rules, ◌<◌, length, take, sym, subst, ◌∙◌, arith}
use Rattle.std.proofs.Math.Seq.{map-set_same}
use Rattle.std.proofs.lemmas.List.{take_more_set}
use Rattle.host_core.specs.World.{World}
use Rattle.host_core.proofs.Moments.{reads_then, silent_then}
use Rattle.package_files.specs.Files.{Each}
use Rattle.package_files.specs.Free.{IsSeen}
use Rattle.file_check.specs.Ready.{unseen}
use Rattle.file_check.proofs.WorkLists.{each_more}
use Rattle.file_check.proofs.targets.look_at_targets.Goals as goal

pub returns-in_err-look_at_target-clause-same : goal.returns-in_err-look_at_target-clause-same
returns-in_err-look_at_target-clause-same g c =
    map-set_same unseen c.loop-work.works c.loop-work.work-index c.look_at_target.new.work c.work-item.result c.look_at_target.ensures.same
    ∙ c.loop-work.invariant.same

pub returns-in_err-look_at_target-clause-reads : goal.returns-in_err-look_at_target-clause-reads
returns-in_err-look_at_target-clause-reads g c = reads_then _ _ _ c.loop-work.invariant.reads c.look_at_target.ensures.reads

pub loop-work-preserved : goal.loop-work-preserved
loop-work-preserved g c =
    let inv = c.loop-work.invariant in
    let old = g.H.Host.state c.args.host.now in
    let works = c.loop-work.works in
    let i = c.loop-work.work-index in
    let work = c.look_at_target.new.work in
    let within : i < length works = omega arith in
    record {
      same = map-set_same unseen works i work c.work-item.result c.look_at_target.ensures.same ∙ inv.same;
      seen = λ h.
          let seen = subst (λ (v : World). IsSeen v work) inv.reads.world (c.in_ok-look_at_target.ensures.seen h) in
          subst (Each (IsSeen old.world)) (sym (take_more_set works i work within)) (each_more (IsSeen old.world) (take i works) work (inv.seen (c.look_at_target.ensures.silent.honest h)) seen);
      reads = reads_then _ _ _ inv.reads c.look_at_target.ensures.reads;
      silent = silent_then _ _ _ inv.silent c.look_at_target.ensures.silent;
      counts = search rules;
    }
