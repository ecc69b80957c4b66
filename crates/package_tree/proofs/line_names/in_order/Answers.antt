use Rattle.std.proofs.Common.{◌≡◌, true, false, sym, subst}
use Rattle.std.specs.BTreeSet.{contains_text}
use Rattle.std.specs.String.{string_bytes}
use Rattle.std.proofs.lemmas.Map.Text.{btree_set_updates_text}
use Rattle.host_core.specs.Paths.{Path, is_ship_text}
use Rattle.package_tree.specs.LineNames.{HasTakenPath}
use Rattle.package_tree.proofs.Sets.{above_text}
use Rattle.package_tree.proofs.Drawn.{IsDrawn, HasKept, IsTaken, drawn_start, kept_start, drawn_path, kept_path, kept_all, none_left}
use Rattle.package_tree.proofs.line_names.in_order.Goals as goal

pub loop-text-init : goal.loop-text-init
loop-text-init c =
    let all = contains_text c.args.names in
    record {
      drawn = subst (IsDrawn all all) (sym c.new-paths.ensures.items) (drawn_start all);
      kept = subst (HasKept (λ (q : Path). is_ship_text q ≡ true) all all) (sym c.new-paths.ensures.items) (kept_start (λ (q : Path). is_ship_text q ≡ true) all);
    }

pub loop-text-preserved : goal.loop-text-preserved
loop-text-preserved c =
    let key = string_bytes c.in-Some.text in
    let all = contains_text c.args.names in
    let left = contains_text c.loop-text.left in
    let rest = contains_text c.pop_first.new.self in
    let taken : IsTaken key left rest = record {
      here = c.in-Some.ensures.member;
      fewer = btree_set_updates_text key c.loop-text.left c.pop_first.new.self false c.in-Some.ensures.updates;
      above = above_text c.in-Some.text c.pop_first.new.self c.in-Some.ensures.all_above;
    } in
    let path : HasTakenPath key c.loop-text.paths.items c.add_path.new.paths.items = subst (λ (p : Path). HasTakenPath p c.loop-text.paths.items c.add_path.new.paths.items) c.as_str.ensures.value c.in_ok-add_path.ensures in
    record {
      drawn = drawn_path all left rest c.loop-text.paths.items c.add_path.new.paths.items key c.loop-text.invariant.drawn taken path;
      kept = kept_path all left rest c.loop-text.paths.items c.add_path.new.paths.items key c.loop-text.invariant.kept taken path;
    }

pub returns : goal.returns
returns c = record {
  order = c.loop-text.invariant.drawn.order;
  only = c.loop-text.invariant.drawn.from;
  whole = kept_all (λ (q : Path). is_ship_text q ≡ true) (contains_text c.args.names) (contains_text c.loop-text.left) c.loop-text.paths.items c.loop-text.invariant.kept (none_left c.loop-text.left c.in_default.ensures.variant.1);
}
