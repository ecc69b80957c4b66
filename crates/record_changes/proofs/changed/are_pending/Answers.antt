use Rattle.std.proofs.Common.{◌≡◌, ◌∙◌, ap, rules, nat_eq}
use Rattle.std.specs.List.{list_all}
use Rattle.std.proofs.lemmas.Iterator.Splits.{YieldsList-from_slice_split}
use Rattle.std.proofs.lemmas.Iterator.Search.{all_from_yields_List}
use Rattle.record_changes.specs.Activated.{has_name, words_of}
use Rattle.record_changes.proofs.changed.are_pending.Goals as goal

pub returns : goal.returns
returns c =
    let text = c.pending_text-text.result.now in
    let all : c.all.result ≡ list_all (has_name text) (words_of c.args.names.now) =
    all_from_yields_List (has_name text) _ _ _ c.all.ensures.ran (YieldsList-from_slice_split _ (λ b. nat_eq b 32) c.args.names.now c.split.ensures.rest c.split.ensures.done c.split.ensures.closure (λ x b q h. search rules)) (λ x b q h. search rules) in
    all ∙ ap (λ t. list_all (has_name t) (words_of c.args.names.now)) c.pending_text-text.ensures.text
