-- Which of the names that a package awaits are due.
use Rattle.std.proofs.Common.{◌≡◌, inl, inr, ℕ, ◌<◌, ◌+◌, Bool, true, false, cond, List, [], ◌∷◌, ◌++◌, Option, Some, None, Result, Ok, Err, filter, take, length, get_or, refl, sym, ap, subst, ◌∙◌}
use Rattle.std.specs.Prelude.{IfOk, MatchOption}
use Rattle.std.proofs.lemmas.Bool.{true≢false}
use Rattle.std.proofs.lemmas.List.{append-nil}
use Rattle.std.proofs.lemmas.List.Elements.{filter_more}
use Rattle.status_records.specs.TriggerNames.{are_trigger_names}
use Rattle.record_changes.specs.Activated.{with_name, with_names}
use Rattle.record_changes.specs.Awaits.{some_names}
use Rattle.record_changes.proofs.Names.{AreNames, with_more}

module _ (due : List ℕ → Bool) (names : List (List ℕ)) (i : ℕ) (name old new : List ℕ) (within : i < length names) (is : name ≡ get_or names i name) where
  abbrev front : List (List ℕ)
  front = filter due (take i names)

  one_more : filter due (take (i + 1) names) ≡ front ++ cond (due name) (name ∷ []) []
  one_more = filter_more due names i name within ∙ ap (λ (x : List ℕ). front ++ cond (due x) (x ∷ []) []) (sym is)

  -- one more that is due
  pub due_more : due name ≡ true → old ≡ with_names [] (filter due (take i names)) → new ≡ with_name old name → new ≡ with_names [] (filter due (take (i + 1) names))
  due_more on before added =
      added ∙ ap (λ (text : List ℕ). with_name text name) before ∙ sym (with_more front [] name) ∙ ap (with_names []) (sym (one_more ∙ ap (λ b. front ++ cond b (name ∷ []) []) on))

  -- one that isn't
  pub due_same : due name ≡ false → old ≡ with_names [] (filter due (take i names)) → new ≡ old → new ≡ with_names [] (filter due (take (i + 1) names))
  due_same off before same = same ∙ before ∙ ap (with_names []) (sym (one_more ∙ ap (λ b. front ++ cond b (name ∷ []) []) off ∙ append-nil front))

read_one : (text : List ℕ) (o : Option (List ℕ)) → AreNames text → MatchOption o (are_trigger_names text ≡ false) (λ names. (names ≡ text) × (are_trigger_names text ≡ true)) → o ≡ some_names text
read_one [] None are other = refl
read_one [] (Some names) are some = absurd (true≢false (sym some.1))
read_one (b ∷ bs) None (inl none) other = absurd (cc none)
read_one (b ∷ bs) None (inr are) other = absurd (true≢false (sym are ∙ other))
read_one (b ∷ bs) (Some names) are some = ap Some some.0

-- what is read of names is all of them
pub read_all : {E : Type 0} (text all : List ℕ) (r : Result (Option (List ℕ)) E) → text ≡ all → AreNames all
    → IfOk r (λ o. MatchOption o (are_trigger_names text ≡ false) (λ names. (names ≡ text) × (are_trigger_names text ≡ true))) → IfOk r (λ o. o ≡ some_names all)
read_all text all (Err e) same are is = tt
read_all text all (Ok o) same are is = read_one text o (subst AreNames (sym same) are) is ∙ ap some_names same
