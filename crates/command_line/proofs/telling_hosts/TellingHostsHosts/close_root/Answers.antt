use Rattle.std.proofs.Common.{◌∙◌, IsTrue, Result, Ok, Err, IfOk, List, ap, sym, subst}
use Rattle.host_core.specs.Events.{Event, follow_all}
use Rattle.host_core.specs.Host.{State, faults}
use Rattle.host_core.specs.World.{World}
use Rattle.host_core.proofs.Moments.{follow_all-append, reads_then, silent_then, unmoved}
use Rattle.host_overlay.specs.Overlays.{begun_state, overlay_state}
use Rattle.foretold_changes.specs.Told.{IsLookedOver}
use Rattle.command_line.specs.Telling.{Tells}
use Rattle.command_line.proofs.telling_hosts.TellingHostsHosts.close_root.Goals as goal

-- what is known of a value is known of it in other words
known : {T E : Type 0} (r : Result T E) (P Q : T → Type 0) → ((x : T) → P x → Q x) → IfOk r P → IfOk r Q
known (Ok x) P Q other is = other x is
known (Err e) P Q other is = tt

pub returns-clause-given : goal.returns-clause-given
returns-clause-given g c =
    let before = overlay_state c.args.host in
    let over = c.look_over-looked.new.host in
    let looked = c.look_over-looked.ensures in
    let into = c.into_below-below.ensures in
    let told = c.tell_changes.ensures in
    let below = g.S.Opened.Host.state c.into_below-below.result in
    let end = g.S.Opened.Host.state c.tell_changes.new.host in
    let begun = begun_state over in
    let fell : IsTrue end.honest → IsTrue (overlay_state over).honest = λ h. subst (λ (s : State). IsTrue s.honest) into.below (told.reads.honest h) in
    record {
      begun = begun;
      below = end;
      given = c.close_root.ensures.given;
      untouched = reads_then _ _ _ into.untouched told.reads;
      silent = silent_then _ _ _ into.silent told.silent;
      honest = λ h. looked.reads.honest (fell h);
      world = sym looked.reads.world ∙ ap (λ (es : List Event). follow_all es begun.world) looked.reads.events ∙ follow_all-append before.events looked.reads.added begun.world
          ∙ unmoved looked.reads.added (follow_all before.events begun.world) looked.reads.failed;
      foretold = c.args.host.went;
      changes = subst (λ (w : World). Tells c.tell_changes.result end w before.world) into.untouched.world
          (told.told before.world (faults before) (faults (overlay_state over))
          (known c.look_over-looked.result (λ o. IsTrue (overlay_state over).honest → IsLookedOver begun.world before.world o) (λ o. IsTrue end.honest → IsLookedOver below.world before.world o)
          (λ o is h. subst (λ (w : World). IsLookedOver w before.world o) (sym into.untouched.world) (is (fell h))) looked.told) looked.few);
    }
