use Rattle.std.proofs.Common.{◌++◌, ◌∷◌, [], ℕ, List, true, string_bytes, sym, ap, ◌∙◌}
use Rattle.std.specs.HashSet.{contains_text}
use Rattle.std.specs.List.{list_any}
use Rattle.std.specs.Str.{bytes_eq}
use Rattle.std.proofs.lemmas.Map.Text.{hash_set_updates_text}
use Rattle.status_records.proofs.NameSets.{set_more}
use Rattle.status_records.proofs.names.Names.push.Goals as goal

pub invariant_of-self-2 : goal.invariant_of-self-2
invariant_of-self-2 c = λ whole q.
    let key = string_bytes c.in_ok-key.key in
    let names = c.self.inside.names in
    let step = hash_set_updates_text key c.self.inside.set c.insert.new.self true c.in_ok-insert.ensures.updates q in
    set_more key names q (contains_text c.self.inside.set q) (contains_text c.insert.new.self q) step (c.self.invariant whole q)
    ∙ ap (λ (l : List (List ℕ)). list_any (bytes_eq q) l) (ap (λ (n : List ℕ). names ++ n ∷ []) (c.in_ok-key.ensures.ok ∙ c.as_str.ensures) ∙ sym c.in_ok-push.ensures.ok)
