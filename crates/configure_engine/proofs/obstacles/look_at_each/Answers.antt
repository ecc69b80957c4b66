use Rattle.std.proofs.Common.{rules, ◌≡◌, ◌<◌, ◌+◌, None, length, take, sym, subst, ◌∙◌}
use Rattle.std.specs.List.{All}
use Rattle.std.proofs.lemmas.List.{take_all}
use Rattle.std.proofs.lemmas.List.Elements.{All-more}
use Rattle.host_core.specs.Paths.{Path}
use Rattle.host_core.specs.World.{World}
use Rattle.host_core.proofs.Moments.{reads_then, silent_then}
use Rattle.conffiles.specs.Settling.{CanSettle, obstacle_of, ordered_names}
use Rattle.configure_engine.specs.Obstacles.{names_of_all, IsObstacle}
use Rattle.configure_engine.proofs.Least.{least_more, least_passed, still_some}
use Rattle.configure_engine.proofs.obstacles.look_at_each.Goals as goal
use Rattle.configure_engine.proofs.obstacles.look_at_each.Goals.{in-Some, in_default}

pub returns-in_err-found-clause-looks : goal.returns-in_err-found-clause-looks
returns-in_err-found-clause-looks g c = record {
  found = search rules;
  reads = reads_then _ _ _ c.loop-path.invariant.reads c.find_obstacle.ensures.looks.reads;
  silent = search rules;
  counts = search rules;
}

pub loop-path-preserved : goal.loop-path-preserved
loop-path-preserved g c =
    let before = c.loop-path.invariant in
    let w = (g.H.Host.state c.args.host.now).world in
    let x = c.path-item.result in
    let i = c.loop-path.path-index in
    let paths = c.args.paths.now in
    let lt : i < length paths = c.loop-path-test.true in
    let falls = c.find_obstacle.ensures.looks.silent.honest in
    record {
      found = λ h.
          let told = subst (λ (v : World). c.in_ok-found.field-0 ≡ obstacle_of v (ordered_names x)) before.reads.world (c.in_ok-found.ensures.looks.found h) in
          elim c.match-branch-2.branch [
            | in-Some b ↦ subst (IsObstacle w (names_of_all (take (i + 1) paths))) (sym (b.least-is ∙ b.keep_lesser.ensures)) (least_more w paths i x c.loop-path.least b.in-Some.found lt c.path-item.is (before.found (falls h)) (sym b.in-Some.is ∙ told))
            | in_default b ↦ subst (IsObstacle w (names_of_all (take (i + 1) paths))) (sym b.least-is) (least_passed w paths i x c.loop-path.least lt c.path-item.is (before.found (falls h)) (sym b.in_default.is ∙ told))
          ];
      clear = λ h none.
          let can = subst (λ (v : World). c.in_ok-found.field-0 ≡ None → CanSettle x v) before.reads.world (c.in_ok-found.ensures.clear h) in
          elim c.match-branch-2.branch [
            | in-Some b ↦ absurd (still_some c.loop-path.least b.in-Some.found (sym (b.least-is ∙ b.keep_lesser.ensures) ∙ none))
            | in_default b ↦ All-more (λ (p : Path). CanSettle p w) paths i x lt (before.clear (falls h) (sym b.least-is ∙ none)) (subst (λ (p : Path). CanSettle p w) c.path-item.is (can b.in_default.is))
          ];
      reads = reads_then _ _ _ before.reads c.find_obstacle.ensures.looks.reads;
      silent = silent_then _ _ _ before.silent c.find_obstacle.ensures.looks.silent;
      counts = search rules;
    }

pub returns-clause-clear : goal.returns-clause-clear
returns-clause-clear g c = λ h none.
    subst (All (λ (p : Path). CanSettle p (g.H.Host.state c.args.host.now).world)) (take_all c.loop-path.path-index c.args.paths.now c.loop-path-test.false) (c.loop-path.invariant.clear h none)
