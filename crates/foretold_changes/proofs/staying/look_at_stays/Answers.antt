use Rattle.std.proofs.Common.{◌≡◌, ◌+◌, ◌<◌, ◌≤◌, ◌++◌, ◌∷◌, ◌∙◌, [], List, length, map, take, sym, ap, subst}
use Rattle.std.specs.List.{AllByRecursion}
use Rattle.std.proofs.lemmas.List.{map-append, take_more}
use Rattle.host_core.proofs.Moments.{reads_then, silent_then}
use Rattle.host_core.specs.Host.{faults}
use Rattle.host_core.specs.World.{World}
use Rattle.foretold_changes.specs.Staying.{IsSeen, unread_stays}
use Rattle.foretold_changes.specs.declared.keeping.Conffile.{Conffile}
use Rattle.foretold_changes.specs.declared.staying.LookedConffile.{LookedConffile}
use Rattle.foretold_changes.proofs.Few.{more_faults, stays_push}
use Rattle.foretold_changes.proofs.Overlays.{all_more}
use Rattle.foretold_changes.proofs.staying.look_at_stays.Goals as goal

pub returns-in_err-looked-clause-reads : goal.returns-in_err-looked-clause-reads
returns-in_err-looked-clause-reads g c = reads_then _ _ _ c.loop-conffile.invariant.reads c.look_at.ensures.reads

pub returns-in_err-push-clause-reads : goal.returns-in_err-push-clause-reads
returns-in_err-push-clause-reads g c = reads_then _ _ _ c.loop-conffile.invariant.reads c.look_at.ensures.reads

pub loop-conffile-preserved : goal.loop-conffile-preserved
loop-conffile-preserved g c =
    let before = c.loop-conffile.invariant in
    let old = g.H.Host.state c.args.host.now in
    let i = c.loop-conffile.conffile-index in
    let conffiles = c.args.conffiles.now in
    let conffile = c.conffile-item.result in
    let it = c.in_ok-looked.looked in
    let stays = c.loop-conffile.stays.items in
    let lt : i < length conffiles = c.loop-conffile-test.true in
    let at : LookedConffile → Conffile = λ x. x.conffile in
    let P : LookedConffile → Type 0 = IsSeen old.world in
    let same : take i conffiles ++ conffile ∷ [] ≡ take (i + 1) conffiles = ap (λ (x : Conffile). take i conffiles ++ x ∷ []) c.conffile-item.is ∙ sym (take_more conffiles i conffile lt) in
    record {
      each = ap (map at) c.in_ok-push.ensures.items ∙ map-append at stays (it ∷ []) ∙ ap (λ (l : List Conffile). l ++ it.conffile ∷ []) before.each
          ∙ ap (λ (x : Conffile). take i conffiles ++ x ∷ []) c.in_ok-looked.ensures.conffile ∙ same;
      stay = λ h. subst (AllByRecursion P) (sym c.in_ok-push.ensures.items) (all_more P stays it (before.stay (c.look_at.ensures.reads.honest h))
          (subst (λ (w : World). IsSeen w it) before.reads.world (c.in_ok-looked.ensures.seen h)));
      few = let mid = g.H.Host.state c.loop-conffile.host in let now = g.H.Host.state c.look_at.new.host in
          subst (λ (l : List LookedConffile). unread_stays l + faults old ≤ faults now) (sym c.in_ok-push.ensures.items)
          (stays_push stays it (faults old) (faults mid) (faults now) before.few c.in_ok-looked.ensures.cause (more_faults mid now c.look_at.ensures.reads));
      reads = reads_then _ _ _ before.reads c.look_at.ensures.reads;
      silent = silent_then _ _ _ before.silent c.look_at.ensures.silent;
    }
