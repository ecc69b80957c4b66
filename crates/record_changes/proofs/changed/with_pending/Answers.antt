use Rattle.std.proofs.Common.{◌≡◌, ◌∙◌, ℕ, List, true, false, Option, Some, None, subst, sym, ap}
use Rattle.std.specs.Prelude.{MatchOption}
use Rattle.std.proofs.lemmas.Bool.{true≢false}
use Rattle.status_records.specs.TriggerNames.{are_trigger_names}
use Rattle.record_changes.specs.Activated.{pending_text, with_names, words_of}
use Rattle.record_changes.proofs.Names.{AreNames, all_names}
use Rattle.record_changes.proofs.changed.with_pending.Goals as goal

-- what was read of names is there
is_read : (o : Option (List ℕ)) (text : List ℕ) → are_trigger_names text ≡ true → MatchOption o (are_trigger_names text ≡ false) (λ names. (names ≡ text) × (are_trigger_names text ≡ true)) → o ≡ Some text
is_read None text are none = absurd (true≢false (sym are ∙ none))
is_read (Some names) text are some = ap Some some.0

pub returns : goal.returns
returns c =
    let t = c.args.triggers.now in
    let all = with_names (pending_text t.pending) (words_of c.args.names.now) in
    let text : c.in_ok-all.all.items ≡ all = c.in_ok-all.ensures ∙ (λ i. with_names (c.pending_text.ensures.text i) (words_of (c.text.ensures.text i))) in
    let are : are_trigger_names all ≡ true = all_names (pending_text t.pending) c.args.names.now (subst AreNames c.pending_text.ensures.text c.pending_text.ensures.names) c.text.ensures.names in
    let read : c.in_ok-pending.pending ≡ Some all = is_read c.in_ok-pending.pending all are
    (subst (λ (l : List ℕ). MatchOption c.in_ok-pending.pending (are_trigger_names l ≡ false) (λ names. (names ≡ l) × (are_trigger_names l ≡ true))) (c.as_slice.ensures.value ∙ text) c.in_ok-pending.ensures) in
    (λ i. record { pending = read i; awaited = (c.in_ok-kept.ensures i).awaited })
