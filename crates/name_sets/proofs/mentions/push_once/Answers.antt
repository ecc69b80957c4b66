use Rattle.std.proofs.Common.{rules, ◌≡◌, ◌++◌, ◌∷◌, [], ℕ, List, true, subst, sym, ◌∙◌}
use Rattle.std.specs.BTreeSet.{contains_text}
use Rattle.std.specs.String.{string_bytes}
use Rattle.std.proofs.lemmas.Map.Text.{btree_set_updates_text}
use Rattle.name_sets.specs.Names.{is_among}
use Rattle.name_sets.proofs.Members.{name_behind}
use Rattle.name_sets.proofs.mentions.push_once.Goals as goal

pub returns-clause-set : goal.returns-clause-set
returns-clause-set c = λ q.
    let key = string_bytes c.in_ok-from_str.field-0 in
    let names = c.args.names.now.items in
    let grown : c.push.new.self.items ≡ names ++ c.args.name.now ∷ [] = search rules in
    subst (λ (l : List (List ℕ)). contains_text c.insert.new.self q ≡ is_among l q) (sym grown)
    (name_behind names c.args.name.now key q (contains_text c.insert.new.self q) (contains_text c.args.set.now q) (c.in_ok-from_str.ensures.ok ∙ c.as_str-2.ensures)
    (btree_set_updates_text key c.args.set.now c.insert.new.self true c.in_ok-insert.ensures.updates q) (c.requires q))
