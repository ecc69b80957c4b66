-- Names sorted by whether a rule refuses them.
use Rattle.std.proofs.Common.{◌≡◌, ℕ, Bool, true, false, cond, List, [], ◌∷◌, ◌++◌, Option, Some, None, is_none, refl, sym, ap, subst, ◌∙◌}
use Rattle.std.proofs.lemmas.List.{append-nil}
use Rattle.std.specs.List.{AllByRecursion}
use Rattle.status_records.specs.declared.record.Record.{Record}
use Rattle.unit_reports.specs.Units.{IsRefusal, IsRefusedUnit, calls_of}
use Rattle.unit_reports.specs.declared.refusal.Refusal.{Refusal}
use Rattle.unit_reports.specs.declared.refusal.Rule.{Rule}
use Rattle.unit_reports.specs.declared.report.Unit.{Unit as AUnit}
use Rattle.removal_run.specs.Refusals.{AreRefused, accepted, refused_first, refusals, rule_under}
use Rattle.removal_run.specs.declared.extents.Extents.{Extents}

-- a unit for each of more refusals
pub refused_more : (rs ss : List Refusal) (us vs : List AUnit) → AreRefused rs us → AreRefused ss vs → AreRefused (rs ++ ss) (us ++ vs)
refused_more [] ss [] vs first second = second
refused_more [] ss (u ∷ us) vs first second = absurd first
refused_more (r ∷ rs) ss [] vs first second = absurd first
refused_more (r ∷ rs) ss (u ∷ us) vs first second = (first.0, refused_more rs ss us vs first.1 second)

-- none of them calls a script
pub refused_calls : (rs : List Refusal) (us : List AUnit) → AreRefused rs us → calls_of us ≡ []
refused_calls [] [] are = refl
refused_calls [] (u ∷ us) are = absurd are
refused_calls (r ∷ rs) [] are = absurd are
refused_calls (r ∷ rs) (u ∷ us) are = ap (λ l. l ++ calls_of us) are.0.calls ∙ refused_calls rs us are.1

-- each of them is refused
pub refused_all : (rs : List Refusal) (us : List AUnit) → AreRefused rs us → AllByRecursion (λ (u : AUnit). IsRefusal u.reply) us
refused_all [] [] are = tt
refused_all [] (u ∷ us) are = absurd are
refused_all (r ∷ rs) [] are = absurd are
refused_all (r ∷ rs) (u ∷ us) are = (subst IsRefusal (sym are.0.reply) tt, refused_all rs us are.1)

first_behind : (name : List ℕ) (rule : Option Rule) (rs ss : List Refusal) → refused_first name rule (rs ++ ss) ≡ refused_first name rule rs ++ ss
first_behind name None rs ss = refl
first_behind name (Some rule) rs ss = refl

module _ (extents : Extents) (records : List Record) where
  pub refusals_more : (names : List (List ℕ)) (name : List ℕ) → refusals extents records (names ++ name ∷ []) ≡ refusals extents records names ++ refused_first name (rule_under extents records name) []
  refusals_more [] name = refl
  refusals_more (n ∷ names) name = ap (refused_first n (rule_under extents records n)) (refusals_more names name) ∙ first_behind n (rule_under extents records n) (refusals extents records names) (refused_first name (rule_under extents records name) [])

  is_fine : List ℕ → Bool
  is_fine name = is_none (rule_under extents records name)

  pub accepted_more : (names : List (List ℕ)) (name : List ℕ) → accepted extents records (names ++ name ∷ []) ≡ accepted extents records names ++ accepted extents records (name ∷ [])
  accepted_more [] name = refl
  accepted_more (n ∷ names) name = by (is_none (rule_under extents records n)) (accepted_more names name)
    where
      by : (b : Bool) → accepted extents records (names ++ name ∷ []) ≡ accepted extents records names ++ accepted extents records (name ∷ [])
          → cond b (n ∷ accepted extents records (names ++ name ∷ [])) (accepted extents records (names ++ name ∷ [])) ≡ cond b (n ∷ accepted extents records names) (accepted extents records names) ++ accepted extents records (name ∷ [])
      by true rest = ap (λ (l : List (List ℕ)). n ∷ l) rest
      by false rest = rest

  -- a name that a rule refuses
  pub refused_one : (names : List (List ℕ)) (name : List ℕ) (rule : Rule) (us : List AUnit) (u : AUnit) → rule_under extents records name ≡ Some rule → IsRefusedUnit rule name u → AreRefused (refusals extents records names) us → AreRefused (refusals extents records (names ++ name ∷ [])) (us ++ u ∷ [])
  refused_one names name rule us u is unit are =
      subst (λ rs. AreRefused rs (us ++ u ∷ [])) (sym (refusals_more names name ∙ ap (λ o. refusals extents records names ++ refused_first name o []) is))
      (refused_more (refusals extents records names) (refused_first name (Some rule) []) us (u ∷ []) are (unit, tt))

  pub unaccepted : (names : List (List ℕ)) (name : List ℕ) (rule : Rule) → rule_under extents records name ≡ Some rule → accepted extents records (names ++ name ∷ []) ≡ accepted extents records names
  unaccepted names name rule is = accepted_more names name ∙ ap (λ o. accepted extents records names ++ cond (is_none o) (name ∷ []) []) is ∙ append-nil (accepted extents records names)

  -- one that none refuses
  pub unrefused : (names : List (List ℕ)) (name : List ℕ) → rule_under extents records name ≡ None → refusals extents records (names ++ name ∷ []) ≡ refusals extents records names
  unrefused names name is = refusals_more names name ∙ ap (λ o. refusals extents records names ++ refused_first name o []) is ∙ append-nil (refusals extents records names)

  pub accepted_one : (names : List (List ℕ)) (name : List ℕ) → rule_under extents records name ≡ None → accepted extents records (names ++ name ∷ []) ≡ accepted extents records names ++ name ∷ []
  accepted_one names name is = accepted_more names name ∙ ap (λ o. accepted extents records names ++ cond (is_none o) (name ∷ []) []) is
