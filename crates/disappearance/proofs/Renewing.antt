-- A package that disappears leaves the records of all others as they were.
use Rattle.std.proofs.Common.{◌≡◌, ℕ, List, [], ◌∷◌, Contains, sym, ap, subst, ◌∙◌}
use Rattle.std.proofs.lemmas.List.Elements.{Contains-push}
use Rattle.recorded_packages.specs.Renewal.{AreSameBut}
use Rattle.removal_engine.proofs.Tables.{drop_other}
use Rattle.status_records.specs.Records.{drop_record, record_in}
use Rattle.status_records.specs.declared.record.Record.{Record}

pub same_but : (name : List ℕ) (before after : List Record) → after ≡ drop_record name before → AreSameBut (name ∷ []) before after
same_but name before after dropped = λ q others.
    ap (λ (rs : List Record). record_in rs q) dropped
    ∙ drop_other name before q (λ same. others (subst (λ (n : List ℕ). Contains (name ∷ []) n) (sym same) (Contains-push [] name)))
