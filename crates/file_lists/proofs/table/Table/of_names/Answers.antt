use Rattle.std.proofs.Common.{◌≡◌, ◌∙◌, ◌++◌, ◌∷◌, [], sym, ap, subst, false, List}
use Rattle.std.specs.BTreeSet.{contains_text}
use Rattle.std.specs.List.{AllByRecursion}
use Rattle.std.specs.String.{string_bytes}
use Rattle.std.proofs.lemmas.List.{map-append}
use Rattle.std.proofs.lemmas.Map.Text.{btree_set_updates_text}
use Rattle.host_core.specs.Paths.{Path}
use Rattle.file_lists.specs.declared.paths.PackageList.{PackageList}
use Rattle.file_lists.specs.Owners.{names_of}
use Rattle.file_lists.proofs.Among.{above_text, none_left}
use Rattle.file_lists.proofs.Entries.{any_contains, contains_any}
use Rattle.file_lists.proofs.Increasing.{IsDrawn, drawn_start, drawn_more, drawn_all}
use Rattle.file_lists.proofs.Tables.{lists_empty, empty_paths, empty_more}
use Rattle.file_lists.proofs.table.Table.of_names.Goals as goal

pub loop-name-init : goal.loop-name-init
loop-name-init c = record {
  drawn = subst (λ (l : List PackageList). IsDrawn (contains_text c.in_ok-set.set) (contains_text c.in_ok-set.set) (names_of l)) (sym c.new-lists.ensures.items) (drawn_start (contains_text c.in_ok-set.set));
  empty = subst (AllByRecursion (λ (p : PackageList). p.paths ≡ [])) (sym c.new-lists.ensures.items) tt;
}

pub loop-name-preserved : goal.loop-name-preserved
loop-name-preserved c =
    let key = string_bytes c.in-Some.name in
    let before = c.loop-name.lists.items in
    let drawn = drawn_more (contains_text c.in_ok-set.set) (contains_text c.loop-name.set) (contains_text c.pop_first.new.self) (names_of before) key c.loop-name.invariant.drawn c.in-Some.ensures.member
    (btree_set_updates_text key c.loop-name.set c.pop_first.new.self false c.in-Some.ensures.updates) (above_text c.in-Some.name c.pop_first.new.self c.in-Some.ensures.all_above) in
    record {
      drawn = subst (IsDrawn (contains_text c.in_ok-set.set) (contains_text c.pop_first.new.self))
          (ap (λ (n : Path). names_of before ++ n ∷ []) (sym c.new.ensures) ∙ sym (map-append (λ (l : PackageList). l.name) before _) ∙ ap names_of (sym c.in_ok-push.ensures.items)) drawn;
      empty = subst (AllByRecursion (λ (p : PackageList). p.paths ≡ [])) (sym c.in_ok-push.ensures.items) (empty_more before _ c.loop-name.invariant.empty c.new-in-Some.ensures.items);
    }

pub invariant_of-result : goal.invariant_of-result
invariant_of-result c = lists_empty c.loop-name.lists.items c.loop-name.invariant.drawn.order c.loop-name.invariant.empty

pub returns-clause-names : goal.returns-clause-names
returns-clause-names c = λ n.
    let drawn = drawn_all (contains_text c.in_ok-set.set) (contains_text c.loop-name.set) (names_of c.loop-name.lists.items) c.loop-name.invariant.drawn (none_left c.loop-name.set c.in_default.ensures.variant.1) n in
    (λ has. any_contains c.args.names.now n (sym (c.in_ok-set.ensures n) ∙ drawn.0 has), λ has. drawn.1 (c.in_ok-set.ensures n ∙ contains_any c.args.names.now n has))

pub returns-clause-empty : goal.returns-clause-empty
returns-clause-empty c = λ n. empty_paths c.loop-name.lists.items n c.loop-name.invariant.empty
