-- The units of a whole removal are told.
use Rattle.std.proofs.Common.{◌≡◌, ℕ, zero, suc, ◌+◌, ◌<◌, List, [], ◌∷◌, ◌++◌, get_or, length, take, drop, refl, sym, ap, subst, ◌∙◌, arith}
use Rattle.std.proofs.lemmas.List.{take_more, take-append-drop}
use Rattle.std.specs.List.{AllByRecursion}
use Rattle.host_core.specs.Host.{State}
use Rattle.host_core.specs.Loss.{IsAnswered}
use Rattle.undo_rows.proofs.Makes.{tells_none}
use Rattle.undo_rows.specs.Transcript.{TellsAll}
use Rattle.undo_rows.specs.declared.rows.Called.{Called}
use Rattle.unit_reports.proofs.Telling.{begun_told, calls_both, calls_more, told_added, told_all, told_more, told_one, told_still}
use Rattle.unit_reports.specs.Units.{IsRefusal, calls_of}
use Rattle.unit_reports.specs.Watching.{AddsTold, IsTold}
use Rattle.unit_reports.specs.declared.report.Unit.{Unit as AUnit}
use Rattle.host_core.proofs.Barriers.{answered_here}

-- parts of units without calls

empty_first : (xs ys : List Called) → xs ++ ys ≡ [] → xs ≡ []
empty_first [] ys e = refl
empty_first (x ∷ xs) ys e = absurd cc

empty_last : (xs ys : List Called) → xs ++ ys ≡ [] → ys ≡ []
empty_last [] ys e = e
empty_last (x ∷ xs) ys e = absurd cc

quiet_front : (us : List AUnit) (i : ℕ) → calls_of us ≡ [] → calls_of (take i us) ≡ []
quiet_front us i none = empty_first (calls_of (take i us)) (calls_of (drop i us)) (sym (calls_both (take i us) (drop i us)) ∙ ap calls_of (take-append-drop i us) ∙ none)

quiet_next : (us : List AUnit) (i : ℕ) (u : AUnit) → i < length us → calls_of us ≡ [] → (get_or us i u).calls.items ≡ []
quiet_next us i u lt none =
    empty_last (calls_of (take i us)) (get_or us i u).calls.items
    (sym (calls_more (take i us) (get_or us i u)) ∙ ap calls_of (sym (take_more us i u lt)) ∙ quiet_front us (i + 1) none)

-- one of units that are refused
pub refused_next : (us : List AUnit) (i : ℕ) (u : AUnit) → i < length us → AllByRecursion (λ (v : AUnit). IsRefusal v.reply) us → IsRefusal (get_or us i u).reply
refused_next [] i u lt all = absurd (omega (arith, lt))
refused_next (v ∷ us) zero u lt all = all.0
refused_next (v ∷ us) (suc i) u lt all = refused_next us i u (omega (arith, lt)) all.1

module _ {W : Type 0} (tells : W → AUnit → State → W → Type 0) where
  -- one more of units without calls
  pub told_next : (s : State) (old mid new : W) (us : List AUnit) (i : ℕ) (u : AUnit) → i < length us → calls_of us ≡ [] → IsTold tells s old (take i us) mid → tells mid (get_or us i u) s new → IsTold tells s old (take (i + 1) us) new
  told_next s old mid new us i u lt none told is =
      subst (λ (l : List AUnit). IsTold tells s old l new) (sym (take_more us i u lt))
      (told_more tells s s old mid new (take i us) (get_or us i u ∷ []) told (tells_none s s [] (calls_of (take i us)) refl (quiet_front us i none)) (answered_here s)
      (told_one tells s s mid new (get_or us i u) is (tells_none s s [] (get_or us i u).calls.items refl (quiet_next us i u lt none)) (answered_here s)))

  -- those refused first, and then turns
  pub told_turns : (s : State) (old mid new : W) (refused us : List AUnit) → calls_of refused ≡ [] → IsTold tells s old refused mid → AddsTold tells s refused us mid new → AddsTold tells s [] us old new
  told_turns s old mid new refused us none told adds = told_still tells s old mid new [] refused us (begun_told tells s old mid refused told) none adds

  -- and then those that are left over
  pub told_ended : (s t : State) (old mid then new : W) (refused us all : List AUnit) → calls_of refused ≡ [] → IsTold tells s old refused mid → AddsTold tells s refused us mid then → TellsAll s t (calls_of refused) (calls_of us) → IsAnswered s t
      → AddsTold tells t us all then new → IsTold tells s old all new
  told_ended s t old mid then new refused us all none told adds calls answered last =
      told_all tells s old new all
      (told_added tells s t old then new [] us all (told_turns s old mid then refused us none told adds) (subst (λ l. TellsAll s t l (calls_of us)) none calls) answered last)
