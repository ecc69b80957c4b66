use Rattle.std.proofs.Common.{◌≡◌, ◌+◌, ◌<◌, ◌≤◌, ◌++◌, ◌∷◌, ◌∙◌, [], List, IsTrue, length, map, take, sym, ap, subst}
use Rattle.std.specs.List.{AllByRecursion}
use Rattle.std.proofs.lemmas.List.{map-append, take_more}
use Rattle.host_core.proofs.Moments.{reads_then}
use Rattle.host_core.specs.Host.{State, faults}
use Rattle.host_core.specs.Paths.{Path}
use Rattle.host_core.specs.World.{World}
use Rattle.host_overlay.specs.Overlays.{begun_state, overlay_state}
use Rattle.host_overlay.specs.declared.changed_path.ChangedPath.{ChangedPath}
use Rattle.foretold_changes.specs.Changes.{IsFound, unread_paths}
use Rattle.foretold_changes.specs.declared.looking.LookedPath.{LookedPath}
use Rattle.foretold_changes.proofs.Overlays.{all_more, reads_none, through_none, through_then}
use Rattle.foretold_changes.proofs.Few.{more_faults, paths_push}
use Rattle.foretold_changes.proofs.looking.look_at_each.Goals as goal

pub returns-in_err-found-clause-reads : goal.returns-in_err-found-clause-reads
returns-in_err-found-clause-reads g c = reads_then _ _ _ c.loop-change.invariant.reads c.look_at.ensures.reads

pub returns-in_err-found-clause-through : goal.returns-in_err-found-clause-through
returns-in_err-found-clause-through g c = through_then _ _ _ c.loop-change.invariant.through c.look_at.ensures.through

pub returns-in_err-push-clause-reads : goal.returns-in_err-push-clause-reads
returns-in_err-push-clause-reads g c = reads_then _ _ _ c.loop-change.invariant.reads c.look_at.ensures.reads

pub returns-in_err-push-clause-through : goal.returns-in_err-push-clause-through
returns-in_err-push-clause-through g c = through_then _ _ _ c.loop-change.invariant.through c.look_at.ensures.through

pub loop-change-preserved : goal.loop-change-preserved
loop-change-preserved g c =
    let before = c.loop-change.invariant in
    let old = c.args.host.now in
    let mid = c.loop-change.host in
    let i = c.loop-change.change-index in
    let changed = c.args.changed.now in
    let change = c.change-item.result in
    let it = c.in_ok-found.found in
    let looked = c.loop-change.looked.items in
    let lt : i < length changed = c.loop-change-test.true in
    let path : LookedPath → Path = λ x. x.path in
    let paths : List ChangedPath → List Path = map (λ (x : ChangedPath). x.path) in
    let P : LookedPath → Type 0 = IsFound (begun_state old).world (overlay_state old).world in
    let same : paths (take i changed) ++ change.path ∷ [] ≡ paths (take (i + 1) changed) =
    sym (map-append (λ (x : ChangedPath). x.path) (take i changed) (change ∷ [])) ∙ ap paths (ap (λ (x : ChangedPath). take i changed ++ x ∷ []) c.change-item.is ∙ sym (take_more changed i change lt)) in
    record {
      paths = ap (map path) c.in_ok-push.ensures.items ∙ map-append path looked (it ∷ []) ∙ ap (λ (l : List Path). l ++ it.path ∷ []) before.paths
          ∙ ap (λ (p : Path). paths (take i changed) ++ p ∷ []) c.in_ok-found.ensures.path ∙ same;
      found = λ h. subst (AllByRecursion P) (sym c.in_ok-push.ensures.items) (all_more P looked it (before.found (c.look_at.ensures.reads.honest h))
          (subst (λ (w : World). IsFound (begun_state old).world w it) before.reads.world
          (subst (λ (s : State). IsFound s.world (overlay_state mid).world it) before.through.begun (c.in_ok-found.ensures.found h))));
      few = let last = faults (overlay_state c.look_at.new.host) in let first = faults (overlay_state old) in
          subst (λ (l : List LookedPath). unread_paths l + first ≤ last) (sym c.in_ok-push.ensures.items)
          (paths_push looked it first (faults (overlay_state mid)) last before.few c.in_ok-found.ensures.cause (more_faults (overlay_state mid) (overlay_state c.look_at.new.host) c.look_at.ensures.reads));
      reads = reads_then _ _ _ before.reads c.look_at.ensures.reads;
      through = through_then _ _ _ before.through c.look_at.ensures.through;
    }
