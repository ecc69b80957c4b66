-- What notes of activations leave, one after another.
use Rattle.std.proofs.Common.{◌≡◌, ◌⊎◌, inl, inr, ◌||◌, ℕ, Bool, true, List, [], ◌∷◌, ◌++◌, map, filter, refl, sym, ap, subst, ◌∙◌}
use Rattle.host_core.specs.Host.{State}
use Rattle.host_core.specs.World.{World}
use Rattle.record_changes.specs.Activated.{words_of}
use Rattle.record_changes.specs.Run.{IsChangeRun}
use Rattle.record_changes.specs.Turns.{IsTurn}
use Rattle.record_changes.specs.Units.{IsChange}
use Rattle.record_changes.specs.declared.change.RecordChange.{RecordChange}
use Rattle.status_records.specs.declared.record.Record.{Record}
use Rattle.trigger_interests.specs.Interests.{interests_of}
use Rattle.trigger_interests.specs.declared.interests.Interest.{Interest}
use Rattle.trigger_journal.specs.Asked.{asked_of, is_asked, is_found}
use Rattle.trigger_journal.specs.Requests.{requests_of}
use Rattle.trigger_journal.specs.declared.requests.Request.{Request}
use Rattle.trigger_watch.specs.Activations.{activations_of, is_activated}
use Rattle.trigger_watch.specs.Names.{is_among}
use Rattle.trigger_watch.specs.Touches.{touching_hits}
use Rattle.trigger_watch.specs.Watch.{installed}
use Rattle.trigger_watch.specs.declared.activating.Activation.{Activation}
use Rattle.trigger_watch.specs.declared.touching.Touch.{Touch}
use Rattle.trigger_watch.specs.declared.watching.TriggerWatch.{TriggerWatch}
use Rattle.file_lists.specs.declared.paths.PackageList.{PackageList}
use Rattle.trigger_watch.proofs.All.{all_filter}
use Rattle.trigger_watch.proofs.Declared.{IsSoundInterest, sound_interests}
use Rattle.dpkg_session.specs.Activated.{change_by}
use Rattle.unit_reports.specs.Held.{Held}
use Rattle.unit_reports.specs.declared.report.Unit.{Unit as AUnit}
use Rattle.unit_runs.specs.Turns.{TurnsTo}
use Rattle.kept_activations.specs.Hitting.{IsHitLast}
use Rattle.kept_activations.specs.Pending.{IsInstalled, IsInterested, IsPending}
use Rattle.kept_activations.proofs.Changing.{installed_stays, pending_behind, pending_stays}
use Rattle.kept_activations.proofs.Interests.{IsOne, IsTold, interested_one, kept_one, told_one}
use Rattle.kept_activations.proofs.Members.{IsIn, in_left, in_right}
use Rattle.kept_activations.proofs.Touching.{hit_activates}

-- the next of what is left
pub record IsNextOf (left : List Activation) (asked : RecordChange) (later : List RecordChange) : Type 0 where
  pub one : Activation
  pub rest : List Activation
  pub are : left ≡ one ∷ rest
  pub first : asked ≡ change_by one
  pub others : later ≡ map change_by rest

pub next_of : (left : List Activation) (asked : RecordChange) (later : List RecordChange) → map change_by left ≡ asked ∷ later → IsNextOf left asked later
next_of [] asked later e = absurd (cc e)
next_of (a ∷ rest) asked later e =
    let first : change_by a ≡ asked = cc e in
    let others : map change_by rest ≡ later = cc e in
    record { one = a; rest = rest; are = refl; first = sym first; others = sym others }

module _ (activations : List Activation) (before : Held) (s : State) where
  -- some of the activations are left
  pub record AreNoted (q : List RecordChange) (after : Held) : Type 0 where
    pub left : List Activation
    pub are : q ≡ map change_by left
    pub stays : (owner trigger : List ℕ) → IsPending before.records.records owner trigger → IsPending after.records.records owner trigger
    pub stand : (owner : List ℕ) → IsInstalled before.records.records owner → IsInstalled after.records.records owner
    pub done : (a : Activation) (trigger : List ℕ) → IsIn a activations → is_among (words_of a.names) trigger ≡ true → IsInstalled before.records.records a.«package»
        → IsIn a left ⊎ IsPending after.records.records a.«package» trigger

  module _ (q : List RecordChange) (mid after : Held) (u : AUnit) (later : List RecordChange) (m t : State) (so_far : AreNoted q mid) (turn : IsTurn q mid u later after m t) where
    next : IsNextOf so_far.left turn.asked later
    next = next_of so_far.left turn.asked later (sym so_far.are ∙ turn.first)

    is : IsChange (change_by next.one) mid after u m t
    is = subst (λ (asked : RecordChange). IsChange asked mid after u m t) next.first turn.is

    done_then : (a : Activation) (trigger : List ℕ) → is_among (words_of a.names) trigger ≡ true → IsInstalled before.records.records a.«package» → IsIn a (next.one ∷ next.rest) → IsIn a next.rest ⊎ IsPending after.records.records a.«package» trigger
    done_then a trigger named installed (inl e) =
        inr (subst (λ (x : Activation). IsPending after.records.records x.«package» trigger) e
        (pending_behind next.one mid after u m t is trigger (so_far.stand next.one.«package» (subst (λ (x : Activation). IsInstalled before.records.records x.«package») (sym e) installed))
        (subst (λ (x : Activation). is_among (words_of x.names) trigger ≡ true) (sym e) named)))
    done_then a trigger named installed (inr there) = inl there

    done_more : (a : Activation) (trigger : List ℕ) → is_among (words_of a.names) trigger ≡ true → IsInstalled before.records.records a.«package» → IsIn a so_far.left ⊎ IsPending mid.records.records a.«package» trigger
        → IsIn a next.rest ⊎ IsPending after.records.records a.«package» trigger
    done_more a trigger named installed (inl there) = done_then a trigger named installed (subst (IsIn a) next.are there)
    done_more a trigger named installed (inr pending) = inr (pending_stays next.one mid after u m t is a.«package» trigger pending)

    noted_more : AreNoted later after
    noted_more = record {
      left = next.rest;
      are = next.others;
      stays = λ owner trigger pending. pending_stays next.one mid after u m t is owner trigger (so_far.stays owner trigger pending);
      stand = λ owner installed. installed_stays next.one mid after u m t is owner (so_far.stand owner installed);
      done = λ a trigger there named installed. done_more a trigger named installed (so_far.done a trigger there named installed);
    }

  pub noted_run : (us : List AUnit) (q : List RecordChange) (after : Held) (t : State) → TurnsTo IsTurn (map change_by activations) before s us q after t → AreNoted q after
  noted_run us q after t TurnsTo.begun = record {
    left = activations;
    are = refl;
    stays = λ owner trigger pending. pending;
    stand = λ owner installed. installed;
    done = λ a trigger there named installed. inl there;
  }
  noted_run us q after t (TurnsTo.turned first u mid_q later mid end m last come turn) = noted_more mid_q mid after u q m t (noted_run first mid_q mid m come) turn

  none_left : (left : List Activation) (a : Activation) → [] ≡ map change_by left → IsIn a left → ⊥
  none_left [] a e there = there
  none_left (x ∷ left) a e there = cc e

  module _ (us : List AUnit) (after : Held) (t : State) (run : IsChangeRun (map change_by activations) us before after s t) where
    pub run_stays : (owner trigger : List ℕ) → IsPending before.records.records owner trigger → IsPending after.records.records owner trigger
    run_stays = (noted_run us [] after t run).stays

    pub run_stand : (owner : List ℕ) → IsInstalled before.records.records owner → IsInstalled after.records.records owner
    run_stand = (noted_run us [] after t run).stand

    ended : (left : List Activation) (a : Activation) (trigger : List ℕ) → [] ≡ map change_by left → IsIn a left ⊎ IsPending after.records.records a.«package» trigger → IsPending after.records.records a.«package» trigger
    ended left a trigger e (inl there) = absurd (none_left left a e there)
    ended left a trigger e (inr pending) = pending

    -- what is told of a package that is installed is pending of it
    pub run_notes : (owner trigger : List ℕ) → IsInstalled before.records.records owner → IsTold activations owner trigger → IsPending after.records.records owner trigger
    run_notes owner trigger installed told =
        let all = noted_run us [] after t run in
        subst (λ (n : List ℕ). IsPending after.records.records n trigger) told.owned
        (ended all.left told.one trigger all.are (all.done told.one trigger told.there told.named (subst (IsInstalled before.records.records) (sym told.owned) installed)))

-- what is told

pub told_left : (xs ys : List Activation) (owner trigger : List ℕ) → IsTold xs owner trigger → IsTold (xs ++ ys) owner trigger
told_left xs ys owner trigger told = record { one = told.one; there = in_left xs ys told.one told.there; owned = told.owned; named = told.named }

pub told_right : (xs ys : List Activation) (owner trigger : List ℕ) → IsTold ys owner trigger → IsTold (xs ++ ys) owner trigger
told_right xs ys owner trigger told = record { one = told.one; there = in_right xs ys told.one told.there; owned = told.owned; named = told.named }

module _ (w : World) (records : List Record) (owner trigger : List ℕ) (interested : IsInterested w records owner trigger) where
  abbrev interests : List Interest
  interests = interests_of w (installed records)

  one : IsOne interests owner trigger
  one = interested_one w records owner trigger interested

  pub told_asked : (found : List Request) → is_found found trigger || is_asked (requests_of w) trigger ≡ true → IsTold (asked_of w records found) owner trigger
  told_asked found asked =
      let test = λ (interest : Interest). is_found found interest.name || is_asked (requests_of w) interest.name in
      told_one (filter test interests) (all_filter IsSoundInterest test interests (sound_interests w (installed records))) owner trigger
      (kept_one test interests owner trigger one (ap (λ (n : List ℕ). is_found found n || is_asked (requests_of w) n) one.named ∙ asked))

  pub told_hit : (lists : List PackageList) (by_files : Bool) (watch : TriggerWatch) (touches : List Touch) → IsHitLast w lists by_files watch.before.items touches owner trigger
      → IsTold (activations_of w records lists by_files watch touches) owner trigger
  told_hit lists by_files watch touches hit =
      let test = is_activated (touching_hits w lists by_files watch.before.items interests touches) in
      told_one (filter test interests) (all_filter IsSoundInterest test interests (sound_interests w (installed records))) owner trigger
      (kept_one test interests owner trigger one (hit_activates w lists by_files watch.before.items interests owner trigger touches one hit))
