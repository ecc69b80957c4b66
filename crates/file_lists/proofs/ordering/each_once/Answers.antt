use Rattle.std.proofs.Common.{◌∙◌, ◌++◌, ◌∷◌, [], sym, ap, subst, false}
use Rattle.std.specs.List.{list_any}
use Rattle.std.specs.Str.{bytes_eq}
use Rattle.std.specs.BTreeSet.{contains_text}
use Rattle.std.specs.String.{string_bytes}
use Rattle.std.proofs.lemmas.Map.Text.{btree_set_updates_text}
use Rattle.host_core.specs.Paths.{Path}
use Rattle.file_lists.proofs.Among.{above_text, none_left}
use Rattle.file_lists.proofs.Increasing.{IsDrawn, drawn_start, drawn_more}
use Rattle.file_lists.proofs.Sorting.{drawn_is_listable, drawn_paths, drawn_same}
use Rattle.file_lists.proofs.ordering.each_once.Goals as goal

pub loop-text-init : goal.loop-text-init
loop-text-init c = subst (IsDrawn (contains_text c.in_ok-set.set) (contains_text c.in_ok-set.set)) (sym c.new-items.ensures.items) (drawn_start (contains_text c.in_ok-set.set))

pub new-requires : goal.new-requires
new-requires c = (drawn_is_listable c.args.paths (contains_text c.in_ok-set.set) (string_bytes c.in-Some.text) c.requires (λ q. c.in_ok-set.ensures q ∙ ap (list_any (bytes_eq q)) c.as_slice.ensures) (c.loop-text.invariant.less (string_bytes c.in-Some.text) c.in-Some.ensures.member)).is

pub loop-text-preserved : goal.loop-text-preserved
loop-text-preserved c =
    let key = string_bytes c.in-Some.text in
    subst (IsDrawn (contains_text c.in_ok-set.set) (contains_text c.pop_first.new.self)) (ap (λ (p : Path). c.loop-text.items.items ++ p ∷ []) (sym c.new.ensures) ∙ sym c.in_ok-push.ensures.items)
    (drawn_more (contains_text c.in_ok-set.set) (contains_text c.loop-text.set) (contains_text c.pop_first.new.self) c.loop-text.items.items key c.loop-text.invariant c.in-Some.ensures.member
    (btree_set_updates_text key c.loop-text.set c.pop_first.new.self false c.in-Some.ensures.updates) (above_text c.in-Some.text c.pop_first.new.self c.in-Some.ensures.all_above))

pub returns-clause-paths : goal.returns-clause-paths
returns-clause-paths c = drawn_paths c.args.paths c.loop-text.items.items (contains_text c.in_ok-set.set) (contains_text c.loop-text.set) c.requires (λ q. c.in_ok-set.ensures q ∙ ap (list_any (bytes_eq q)) c.as_slice.ensures) c.loop-text.invariant

pub returns-clause-same : goal.returns-clause-same
returns-clause-same c = drawn_same c.args.paths c.loop-text.items.items (contains_text c.in_ok-set.set) (contains_text c.loop-text.set) (λ q. c.in_ok-set.ensures q ∙ ap (list_any (bytes_eq q)) c.as_slice.ensures) c.loop-text.invariant (none_left c.loop-text.set c.in_default.ensures.variant.1)
