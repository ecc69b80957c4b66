use Rattle.std.proofs.Common.{rules, ◌≡◌, ◌∙◌, ◌++◌, ◌∷◌, [], List, map, ap}
use Rattle.std.proofs.lemmas.List.{map-append}
use Rattle.host_core.specs.Events.{Event, Did}
use Rattle.host_core.specs.World.{Barrier}
use Rattle.host_overlay.specs.Doings.{event_of, told_for}
use Rattle.host_overlay.specs.declared.done.DeviceStep.TheVariants as device
use Rattle.host_overlay.specs.declared.done.Done.{Done}
use Rattle.host_overlay.specs.declared.done.Done.TheVariants as done
use Rattle.host_overlay.proofs.Foreseen.{told_foretold}
use Rattle.host_overlay.proofs.failing.Plan.new.Goals as goal

pub invariant_of-result : goal.invariant_of-result
invariant_of-result c =
    let barrier : Done = done.Did device.Barrier in
    let same : c.as_slice.result.now ≡ c.args.failing.items = search rules in
    record {
      foretold = ap (map event_of) (c.in_ok-push.ensures.items ∙ ap (λ (l : List Done). l ++ barrier ∷ []) (c.in_ok-told.ensures ∙ ap (map told_for) same))
          ∙ map-append event_of (map told_for c.args.failing.items) (barrier ∷ []) ∙ ap (λ (l : List Event). l ++ Did Barrier ∷ []) (told_foretold c.args.failing.items);
    }
