use Rattle.std.proofs.Common.{◌≡◌, ◌∙◌, refl, sym, subst, ap, List, ◌++◌, ◌∷◌, []}
use Rattle.host_core.specs.Paths.{Path}
use Rattle.host_overlay.proofs.Listed.{IsAmidNames, names_start, names_other, names_gone, names_some, names_end}
use Rattle.host_overlay.proofs.changes.Changes.names_in.Goals as goal

pub loop-key-init : goal.loop-key-init
loop-key-init c =
    let gives = c.into_iter-key-iterator.ensures.into_iter_gives in
    names_start c.args.self.now.map.entries c.into_iter-key-iterator.result c.args.path.now c.new-names.result gives.0 c.new-names.ensures gives.5

pub loop-key-preserved : goal.loop-key-preserved
loop-key-preserved c = names_other c.args.self.now.map.entries c.loop-key.key-iterator (c.in-Some.key.now, c.in-Some.standing.now) c.next.new.self c.args.path.now c.loop-key.names c.in-Some.ensures.steps c.loop-key.invariant
    (λ name plain is. c.in_default.ensures.none name plain (c.as_str-in-loop-key.ensures.value ∙ is ∙ ap (λ (p : Path). p ++ 47 ∷ name) (sym c.as_str.ensures)))

pub loop-key-preserved-else-is_something : goal.loop-key-preserved-else-is_something
loop-key-preserved-else-is_something c =
    let key = sym c.as_str-in-loop-key.ensures.value ∙ c.in-Some-name_in.ensures.some.0 ∙ ap (λ (p : Path). p ++ 47 ∷ c.in-Some-name_in.name.now) c.as_str.ensures in
    names_gone c.args.self.now.map.entries c.loop-key.key-iterator (c.in-Some.key.now, c.in-Some.standing.now) c.next.new.self c.args.path.now c.in-Some-name_in.name.now c.loop-key.names c.in-Some.ensures.steps c.loop-key.invariant key
    c.in-Some-name_in.ensures.some.1 c.in-Some-name_in.ensures.some.2 (sym c.is_something.ensures ∙ c.if-is_something.false)

pub loop-key-preserved-in_ok-push : goal.loop-key-preserved-in_ok-push
loop-key-preserved-in_ok-push c =
    let name = c.in-Some-name_in.name.now in
    let same : name ≡ c.in_ok-from_str.field-0 = sym c.in_ok-from_str.ensures in
    let key = sym c.as_str-in-loop-key.ensures.value ∙ c.in-Some-name_in.ensures.some.0 ∙ ap (λ (p : Path). p ++ 47 ∷ name) c.as_str.ensures in
    subst (λ (ns : List Path). IsAmidNames c.args.self.now.map.entries c.next.new.self c.args.path.now ns) (ap (λ (n : Path). c.loop-key.names ++ n ∷ []) same ∙ sym c.in_ok-push.ensures.ok)
    (names_some c.args.self.now.map.entries c.loop-key.key-iterator (c.in-Some.key.now, c.in-Some.standing.now) c.next.new.self c.args.path.now name c.loop-key.names c.in-Some.ensures.steps c.loop-key.invariant key
    c.in-Some-name_in.ensures.some.1 c.in-Some-name_in.ensures.some.2 (sym c.is_something.ensures ∙ c.if-is_something.true))

pub returns : goal.returns
returns c = names_end c.args.self.now.map.entries c.loop-key.key-iterator c.args.path.now c.loop-key.names c.args.self.now.map refl c.in-None.ensures.steps.0 c.loop-key.invariant
