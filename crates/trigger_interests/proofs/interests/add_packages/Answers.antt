use Rattle.std.proofs.Common.{◌≡◌, ◌+◌, ◌<◌, ◌++◌, ◌∙◌, ◌∷◌, [], ℕ, List, length, take, get_or, ap, sym}
use Rattle.std.specs.List.{flat_map}
use Rattle.std.proofs.lemmas.List.{flat_map_more, take_more}
use Rattle.host_core.specs.World.{World}
use Rattle.host_core.proofs.Counted.{no_fault_then}
use Rattle.host_core.proofs.Moments.{reads_then, silent_then}
use Rattle.trigger_interests.specs.Interests.{declared, interests_by, interests_of}
use Rattle.trigger_interests.specs.declared.interests.Interest.{Interest}
use Rattle.trigger_interests.proofs.interests.add_packages.Goals as goal

pub returns-in_err-add_interests_as-clause-reads : goal.returns-in_err-add_interests_as-clause-reads
returns-in_err-add_interests_as-clause-reads g c = reads_then _ _ _ c.loop-package.invariant.reads c.add_interests_as.ensures.reads

-- those of one more
one_more : (w v : World) (names : List (List ℕ)) (i : ℕ) (name : List ℕ) (before found now : List Interest) → v ≡ w → i < length names → name ≡ get_or names i name
    → found ≡ before ++ interests_of w (take i names) → now ≡ found ++ interests_by name (declared v name) → now ≡ before ++ interests_of w (take (i + 1) names)
one_more w v names i name before found now same lt is so_far added =
    let those = λ (n : List ℕ). interests_by n (declared w n) in
    added ∙ ap (λ (u : World). found ++ interests_by name (declared u name)) same ∙ ap (λ (l : List Interest). l ++ those name) so_far ∙ flat_map_more those before (take i names) name
    ∙ ap (λ (l : List (List ℕ)). before ++ flat_map those l) (ap (λ (n : List ℕ). take i names ++ n ∷ []) is ∙ sym (take_more names i name lt))

pub loop-package-preserved : goal.loop-package-preserved
loop-package-preserved g c =
    let inv = c.loop-package.invariant in
    record {
      so_far = λ honest. one_more (g.H.Host.state c.args.host.now).world _ c.args.packages.now c.loop-package.package-index c.package-item.result c.args.found.now.items c.loop-package.found.items c.add_interests_as.new.found.items
          inv.reads.world c.loop-package-test.true c.package-item.is (inv.so_far (c.add_interests_as.ensures.reads.honest honest)) (c.in_ok-add_interests_as.ensures.added honest);
      reads = reads_then _ _ _ inv.reads c.add_interests_as.ensures.reads;
      silent = silent_then _ _ _ inv.silent c.add_interests_as.ensures.silent;
      faults_same = no_fault_then _ _ _ inv.faults_same c.in_ok-add_interests_as.ensures.counts;
    }
