use Rattle.std.proofs.Common.{◌++◌, ◌∷◌, [], sym, ap, subst, ◌∙◌, rules}
use Rattle.host_core.specs.Paths.{Path, is_path}
use Rattle.host_core.proofs.PathLaws.{front_is_path}
use Rattle.list_changes.proofs.Above.{IsClimbing, climbing_start, climbing_on, climbed_root, climbed_plain, empty_is, some_is}
use Rattle.list_changes.proofs.parents.add_parents.Goals as goal

pub loop-front-init : goal.loop-front-init
loop-front-init c = record {
  text = c.as_str-rest.utf8;
  path = ap is_path c.as_str-rest.ensures ∙ c.law.ensures;
  climbing = climbing_start c.args.paths.now c.paths.inside.items.items c.args.path.now c.as_str-rest.result.now c.paths.view_is c.as_str-rest.ensures;
}

pub from_str-requires : goal.from_str-requires
from_str-requires c = front_is_path c.in-Some.front.now c.in-Some.field-0-1.now (ap is_path (sym c.in-Some.ensures.0) ∙ c.loop-front.invariant.path)

pub returns-then-is_empty : goal.returns-then-is_empty
returns-then-is_empty c =
    climbed_root c.args.paths.now c.args.path.now c.loop-front.rest.now c.loop-front.paths-inside.items.items c.loop-front.invariant.climbing c.in-Some.front.now c.in-Some.field-0-1.now c.in-Some.ensures.0 c.in-Some.ensures.1
    (empty_is c.in-Some.front.now (sym c.is_empty.ensures ∙ c.if-is_empty.true))

pub loop-front-preserved : goal.loop-front-preserved
loop-front-preserved c =
    let front = c.in-Some.front.now in
    let before = c.loop-front.paths-inside.items.items in
    record {
      text = search rules;
      path = front_is_path front c.in-Some.field-0-1.now (ap is_path (sym c.in-Some.ensures.0) ∙ c.loop-front.invariant.path);
      climbing = subst (IsClimbing c.args.paths.now c.args.path.now front) (ap (λ (p : Path). before ++ p ∷ []) (sym c.in_ok-from_str.ensures) ∙ sym c.in_ok-push.ensures.items)
          (climbing_on c.args.paths.now c.args.path.now c.loop-front.rest.now before c.loop-front.invariant.climbing front c.in-Some.field-0-1.now c.in-Some.ensures.0 c.in-Some.ensures.1
          (some_is front (sym c.is_empty.ensures ∙ c.if-is_empty.false)));
    }

pub returns : goal.returns
returns c = climbed_plain c.args.paths.now c.args.path.now c.loop-front.rest.now c.loop-front.paths-inside.items.items c.loop-front.invariant.climbing c.in_default.ensures
