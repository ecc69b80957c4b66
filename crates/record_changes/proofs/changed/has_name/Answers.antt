use Rattle.std.proofs.Common.{◌≡◌, ◌≢◌, ◌∙◌, [], rules, nat_eq}
use Rattle.std.specs.List.{list_any}
use Rattle.std.specs.Str.{bytes_eq}
use Rattle.std.proofs.lemmas.Iterator.Splits.{YieldsList-from_slice_split}
use Rattle.std.proofs.lemmas.Iterator.Search.{any_from_yields_List}
use Rattle.record_changes.specs.Activated.{words_of}
use Rattle.record_changes.proofs.Names.{has_some}
use Rattle.record_changes.proofs.changed.has_name.Goals as goal

pub returns-else-is_empty : goal.returns-else-is_empty
returns-else-is_empty c =
    let some : c.args.name.now ≢ [] = search rules in
    let any : c.any.result ≡ list_any (bytes_eq c.args.name.now) (words_of c.args.text.now) =
    any_from_yields_List (bytes_eq c.args.name.now) _ _ _ c.any.ensures.ran (YieldsList-from_slice_split _ (λ b. nat_eq b 32) c.args.text.now c.split.ensures.rest c.split.ensures.done c.split.ensures.closure (λ x b q h. search rules)) (λ x b q h. search rules) in
    any ∙ has_some c.args.text.now c.args.name.now some
