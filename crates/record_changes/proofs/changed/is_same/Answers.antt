use Rattle.std.proofs.Common.{◌≡◌, ℕ, Bool, List, ap, subst, sym, ◌∙◌}
use Rattle.std.specs.Prelude.{MatchBool}
use Rattle.std.specs.Str.{bytes_eq}
use Rattle.status_records.specs.Words.{want_word}
use Rattle.record_changes.proofs.Wants.{by_words}
use Rattle.record_changes.proofs.changed.is_same.Goals as goal

pub returns : goal.returns
returns c =
    subst (λ (b : Bool). MatchBool b (c.args.one ≡ c.args.other) (c.args.one ≡ c.args.other → ⊥))
    (sym (c.eq.ensures ∙ ap (λ (w : List ℕ). bytes_eq w c.name-2.result.now) c.name.ensures ∙ ap (bytes_eq (want_word c.args.one)) c.name-2.ensures)) (by_words c.args.one c.args.other)
