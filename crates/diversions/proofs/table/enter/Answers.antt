use Rattle.std.proofs.Common.{◌∙◌, refl, ap, true, cond, List, ℕ}
use Rattle.std.specs.HashSet.{contains_text}
use Rattle.std.specs.List.{list_any}
use Rattle.std.specs.Str.{bytes_eq}
use Rattle.std.specs.String.{string_bytes, string_eq}
use Rattle.std.proofs.lemmas.Map.Text.{hash_set_updates_text}
use Rattle.diversions.proofs.Indexed.{pushed}
use Rattle.diversions.proofs.table.enter.Goals as goal

pub returns-clause-indexed : goal.returns-clause-indexed
returns-clause-indexed c = (pushed string_eq string_bytes c.args.entries.now.entries c.insert.new.self.entries c.args.path c.args.entry (contains_text c.args.targets.now) (contains_text c.insert-2.new.self) (λ a b. refl) c.requires.indexed c.requires.path c.requires.table c.in_ok-insert.ensures.entries
    (λ q. hash_set_updates_text (string_bytes c.args.target) c.reserve.new.self c.insert-2.new.self true c.in_ok-insert-2.ensures.updates q
    ∙ ap (λ ks. cond (bytes_eq (string_bytes c.args.target) q) true (list_any (λ k. bytes_eq q (string_bytes k)) ks)) c.reserve.ensures.keys
    ∙ ap (λ (bs : List ℕ). cond (bytes_eq bs q) true (contains_text c.args.targets.now q)) c.requires.target)).0

pub returns-clause-ok : goal.returns-clause-ok
returns-clause-ok c = (pushed string_eq string_bytes c.args.entries.now.entries c.insert.new.self.entries c.args.path c.args.entry (contains_text c.args.targets.now) (contains_text c.insert-2.new.self) (λ a b. refl) c.requires.indexed c.requires.path c.requires.table c.in_ok-insert.ensures.entries
    (λ q. hash_set_updates_text (string_bytes c.args.target) c.reserve.new.self c.insert-2.new.self true c.in_ok-insert-2.ensures.updates q
    ∙ ap (λ ks. cond (bytes_eq (string_bytes c.args.target) q) true (list_any (λ k. bytes_eq q (string_bytes k)) ks)) c.reserve.ensures.keys
    ∙ ap (λ (bs : List ℕ). cond (bytes_eq bs q) true (contains_text c.args.targets.now q)) c.requires.target)).1
