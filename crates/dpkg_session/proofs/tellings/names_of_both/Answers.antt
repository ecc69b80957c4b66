use Rattle.std.proofs.Common.{◌∙◌, ◌++◌, ◌∷◌, [], sym, ap, subst, false}
use Rattle.std.specs.BTreeSet.{contains_text}
use Rattle.std.specs.String.{string_bytes}
use Rattle.std.proofs.lemmas.Map.Text.{btree_set_updates_text}
use Rattle.host_core.specs.Paths.{Path}
use Rattle.control_members.proofs.Drawn.{IsDrawn, drawn_start, drawn_more, drawn_all, above_text, none_left}
use Rattle.unpack_engine.proofs.Names.{increasing}
use Rattle.dpkg_session.proofs.Touching.{from_among, to_among}
use Rattle.dpkg_session.proofs.tellings.names_of_both.Goals as goal

pub loop-name-init : goal.loop-name-init
loop-name-init c = subst (IsDrawn (contains_text c.in_ok-set.set) (contains_text c.in_ok-set.set)) (sym c.new-names.ensures) (drawn_start (contains_text c.in_ok-set.set))

pub loop-name-preserved : goal.loop-name-preserved
loop-name-preserved c =
    let key = string_bytes c.in-Some.name in
    subst (IsDrawn (contains_text c.in_ok-set.set) (contains_text c.pop_first.new.self)) (ap (λ (p : Path). c.loop-name.names ++ p ∷ []) (sym c.new.ensures) ∙ sym c.in_ok-push.ensures.ok)
    (drawn_more (contains_text c.in_ok-set.set) (contains_text c.loop-name.set) (contains_text c.pop_first.new.self) c.loop-name.names key c.loop-name.invariant c.in-Some.ensures.member
    (btree_set_updates_text key c.loop-name.set c.pop_first.new.self false c.in-Some.ensures.updates) (above_text c.in-Some.name c.pop_first.new.self c.in-Some.ensures.all_above))

pub returns : goal.returns
returns c = record {
  order = increasing c.loop-name.names c.loop-name.invariant.order;
  exact = λ q.
      let drawn = drawn_all (contains_text c.in_ok-set.set) (contains_text c.loop-name.set) c.loop-name.names c.loop-name.invariant (none_left c.loop-name.set c.in_default.ensures.variant.1) q in
      (λ has. from_among c.args.first.now c.args.second.now q (sym (c.in_ok-set.ensures q) ∙ drawn.0 has), λ is. drawn.1 (c.in_ok-set.ensures q ∙ to_among c.args.first.now c.args.second.now q is));
}
