-- Refused units, one more.
use Rattle.std.proofs.Common.{◌≡◌, ℕ, ◌+◌, ◌<◌, List, [], ◌∷◌, ◌++◌, Option, Some, None, Result, Ok, Err, length, take, drop, get_or, refl, sym, ap, subst, ◌∙◌}
use Rattle.std.proofs.lemmas.List.{append-nil, take_more, take-append-drop}
use Rattle.std.proofs.lemmas.List.Elements.{filter_map-append}
use Rattle.std.specs.List.{cons_option}
use Rattle.std.specs.Prelude.{OnErr}
use Rattle.status_records.specs.declared.record.Record.{Record}
use Rattle.unit_reports.specs.declared.refusal.Refusal.{Refusal}
use Rattle.unit_reports.specs.declared.report.Unit.{Unit as AUnit}
use Rattle.configure_run.specs.Early.{AreRefused, AreSomeRefused, HasRefused, early_refusal, early_refusals}

pub on_err : {T E : Type 0} (r : Result T E) (P : Type 0) → P → OnErr r P
on_err (Ok x) P holds = tt
on_err (Err e) P holds = holds

refused_last : (rs : List Refusal) (us : List AUnit) (r : Refusal) (u : AUnit) → AreRefused rs us → AreRefused (r ∷ []) (u ∷ []) → AreRefused (rs ++ r ∷ []) (us ++ u ∷ [])
refused_last [] [] r u are is = is
refused_last [] (v ∷ us) r u are is = absurd are
refused_last (q ∷ rs) [] r u are is = absurd are
refused_last (q ∷ rs) (v ∷ us) r u are is = (are.0, refused_last rs us r u are.1 is)

pub refused_next : (records : List Record) (names : List (List ℕ)) (i : ℕ) (d : List ℕ) (us new : List AUnit) → i < length names → AreRefused (early_refusals records (take i names)) us
    → HasRefused (early_refusal records (get_or names i d)) us new → AreRefused (early_refusals records (take (i + 1) names)) new
refused_next records names i d us new lt are has =
    subst (λ l. AreRefused (early_refusals records l) new) (sym (take_more names i d lt))
    (subst (λ l. AreRefused l new) (sym (filter_map-append (early_refusal records) (take i names) (get_or names i d ∷ []))) (by (early_refusal records (get_or names i d)) has))
  where
    by : (r : Option Refusal) → HasRefused r us new → AreRefused (early_refusals records (take i names) ++ cons_option r []) new
    by None same = subst (λ l. AreRefused l new) (sym (append-nil (early_refusals records (take i names)))) (subst (AreRefused (early_refusals records (take i names))) (sym same) are)
    by (Some r) one = subst (AreRefused (early_refusals records (take i names) ++ r ∷ [])) (sym one.1) (refused_last (early_refusals records (take i names)) us r one.0 are (one.2, tt))

-- those so far are the first of all
pub some_refused : (records : List Record) (names : List (List ℕ)) (i : ℕ) (us : List AUnit) → AreRefused (early_refusals records (take i names)) us → AreSomeRefused (early_refusals records names) us
some_refused records names i us are = record {
  done = early_refusals records (take i names);
  rest = early_refusals records (drop i names);
  are = ap (early_refusals records) (sym (take-append-drop i names)) ∙ filter_map-append (early_refusal records) (take i names) (drop i names);
  refused = are;
}

pub none_refused : (refusals : List Refusal) (us : List AUnit) → us ≡ [] → AreSomeRefused refusals us
none_refused refusals us none = record { done = []; rest = refusals; are = refl; refused = subst (AreRefused []) (sym none) tt }

pub all_refused : (refusals : List Refusal) (us : List AUnit) → AreRefused refusals us → AreSomeRefused refusals us
all_refused refusals us are = record { done = refusals; rest = []; are = sym (append-nil refusals); refused = are }
