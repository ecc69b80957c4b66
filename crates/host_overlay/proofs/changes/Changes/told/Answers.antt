use Rattle.std.proofs.Common.{◌≡◌, ◌∙◌, List, true, refl, sym, subst}
use Rattle.std.specs.String.{string_bytes}
use Rattle.host_core.specs.Paths.{Path, is_path}
use Rattle.host_overlay.specs.declared.changed_path.ChangedPath.{ChangedPath}
use Rattle.host_overlay.proofs.Told.{IsAmidTelling, telling_start, telling_more, telling_end, key_changed}
use Rattle.host_overlay.proofs.changes.Changes.told.Goals as goal

pub loop-key-init : goal.loop-key-init
loop-key-init c =
    let gives = c.into_iter-key-iterator.ensures.into_iter_gives in
    telling_start c.args.self.now.map.entries c.into_iter-key-iterator.result c.new-told.result.items gives.0 c.new-told.ensures.items gives.5

pub from_str-requires : goal.from_str-requires
from_str-requires c =
    let changed = key_changed c.args.self.now.map.entries c.loop-key.key-iterator (c.in-Some.key.now, c.in-Some.standing.now) c.next.new.self c.loop-key.told.items c.in-Some.ensures.steps c.loop-key.invariant in
    subst (λ (p : Path). is_path p ≡ true) (sym c.as_str.ensures.value) (c.args.self.now.paths (string_bytes c.in-Some.key.now) changed)

pub loop-key-preserved : goal.loop-key-preserved
loop-key-preserved c =
    let x : ChangedPath = record { path = c.in_ok-from_str.field-0; stands = c.is_something.result } in
    subst (λ (l : List ChangedPath). IsAmidTelling c.args.self.now.map.entries c.next.new.self l) (sym c.in_ok-push.ensures.items)
    (telling_more c.args.self.now.map.entries c.loop-key.key-iterator (c.in-Some.key.now, c.in-Some.standing.now) c.next.new.self c.loop-key.told.items x c.in-Some.ensures.steps c.loop-key.invariant
    (c.in_ok-from_str.ensures ∙ c.as_str.ensures.value) c.is_something.ensures)

pub returns : goal.returns
returns c = telling_end c.args.self.now.map.entries c.loop-key.key-iterator c.loop-key.told.items c.args.self.now.map refl c.in-None.ensures.steps.0 c.loop-key.invariant
