-- How removals go on behind those packages that disappeared.
use Rattle.std.specs.Prelude.{IfOk, OnOk}
use Rattle.std.proofs.Common.{◌≡◌, ◌⊎◌, inl, inr, ℕ, List, [], ◌++◌, Option, Contains, Result, Ok, Err, refl, sym, ap, subst, ◌∙◌, append_assoc}
use Rattle.std.proofs.lemmas.List.{append-nil}
use Rattle.std.proofs.lemmas.List.Elements.{Contains-append_left, Contains-append_right}
use Rattle.conflict_removal.specs.Removals.{HaveCalled as HaveCalledRemoving, IsAmidRemovals}
use Rattle.disappearance.specs.Runs.{HaveCalled as HaveCalledDisappearing, HaveDisappeared, IsAmidDisappearances}
use Rattle.disappearance.specs.declared.losing.Losing.{Losing}
use Rattle.diversions.specs.Ways.{Ways}
use Rattle.host_core.specs.Events.{Event, scripts_of}
use Rattle.host_core.specs.Host.{Does, Silent, Since, State}
use Rattle.host_core.proofs.Moments.{scripts_of-append, since_then, since_weaker, since_weaker_if}
use Rattle.host_core.specs.World.{World, Barrier}
use Rattle.host_core.specs.declared.call.Call.{Call}
use Rattle.host_core.specs.declared.fault.HostFault.{HostFault}
use Rattle.status_records.specs.Records.{record_in}
use Rattle.status_records.specs.declared.record.Record.{Record}
use Rattle.unit_stages.specs.Holding.{Holding}
use Rattle.undo_rows.specs.declared.rows.Called.{Called}
use Rattle.displaced_packages.specs.Displacing.{AreGoing, HasCalled, HasCalledFirst, HaveBeenRemovedBehind, HaveGone, IsAmidDisplacing}
use Rattle.displaced_packages.proofs.Barriers.{since_brought}

module _ (incoming version : List ℕ) (ways : Ways) (losing : List Losing) (conflicting : List (List ℕ)) (before : Holding) where
  -- the moments

  pub since_disappearing : (s m : State) → Since (IsAmidDisappearances incoming version ways losing before s) s m → Since (AreGoing incoming version ways losing conflicting before s) s m
  since_disappearing s m since = since_weaker (IsAmidDisappearances incoming version ways losing before s) (AreGoing incoming version ways losing conflicting before s) s m (λ so_far w is. inl is) since

  module _ (gone : List (List ℕ)) (lost : Option Call) (mid : Holding) (s m t : State) (told between : List Called) (disappeared : HaveDisappeared incoming version ways losing gone lost before mid s m told between) where
    pub since_removing : Since (IsAmidDisappearances incoming version ways losing before s) s m → Since (IsAmidRemovals ways conflicting mid m) m t → Since (AreGoing incoming version ways losing conflicting before s) s t
    since_removing since behind =
        let first = since_disappearing s m since in
        since_then (AreGoing incoming version ways losing conflicting before s) s m t first
        (since_weaker_if (IsAmidRemovals ways conflicting mid m) (λ so_far w. AreGoing incoming version ways losing conflicting before s (first.added ++ so_far) w) m t
        (λ honest so_far w is. inr (record {
          gone = gone;
          lost = lost;
          mid = mid;
          m = m;
          honest = behind.honest honest;
          told = told;
          between = between;
          disappeared = disappeared;
          front = first.added;
          rest = so_far;
          split = refl;
          events = first.events;
          removing = is;
        })) behind)

    pub called_behind : (now : List Called) → HaveCalledRemoving ways conflicting mid m t between now → HasCalledFirst incoming version ways losing conflicting before s t told now
    called_behind now called = inr (record { gone = gone; lost = lost; mid = mid; m = m; between = between; disappeared = disappeared; called = called })

    pub gone_behind : (names : List (List ℕ)) (failed : Option Call) (after : Holding) (now : List Called) → HaveBeenRemovedBehind ways conflicting gone lost names failed mid after m t between now
        → HaveGone incoming version ways losing conflicting names failed before after s t told now
    gone_behind names failed after now removed = record { gone = gone; lost = lost; mid = mid; m = m; between = between; disappeared = disappeared; removed = removed }

  pub called_first : (s m : State) (told now : List Called) → HaveCalledDisappearing incoming version ways losing before s m told now → HasCalledFirst incoming version ways losing conflicting before s m told now
  called_first s m told now called = inl called

  amid_of : (s : State) (so_far : List Event) (now : World) → AreGoing incoming version ways losing conflicting before s so_far now → IsAmidDisplacing incoming version ways losing conflicting before s so_far now
  amid_of s so_far now amid = record { front = so_far; quiet = []; split = sym (append-nil so_far); silent = refl; amid = amid }

  amid_still : (s : State) (x quiet : List Event) (now : World) → scripts_of quiet ≡ [] → IsAmidDisplacing incoming version ways losing conflicting before s x now → IsAmidDisplacing incoming version ways losing conflicting before s (x ++ quiet) now
  amid_still s x quiet now none amid = record {
    front = amid.front;
    quiet = amid.quiet ++ quiet;
    split = ap (λ (l : List Event). l ++ quiet) amid.split ∙ append_assoc amid.front amid.quiet quiet;
    silent = scripts_of-append amid.quiet quiet ∙ ap (λ (l : List Event). l ++ scripts_of quiet) amid.silent ∙ none;
    amid = amid.amid;
  }

  pub since_displacing : (s t : State) → Since (AreGoing incoming version ways losing conflicting before s) s t → Since (IsAmidDisplacing incoming version ways losing conflicting before s) s t
  since_displacing s t since = since_weaker (AreGoing incoming version ways losing conflicting before s) (IsAmidDisplacing incoming version ways losing conflicting before s) s t (λ so_far w is. amid_of s so_far w is) since

  pub since_displaced : (result : Result Unit HostFault) (s m t : State) → Since (AreGoing incoming version ways losing conflicting before s) s m → (t ≡ m) ⊎ Does Barrier m t result → Since (IsAmidDisplacing incoming version ways losing conflicting before s) s t
  since_displaced result s m t since does = since_brought (IsAmidDisplacing incoming version ways losing conflicting before s) result s m t (λ x quiet w none amid. amid_still s x quiet w none amid) (since_displacing s m since) does

  pub called_to_disk : (s m t : State) (told now : List Called) → HasCalledFirst incoming version ways losing conflicting before s m told now → Silent m t → HasCalled incoming version ways losing conflicting before s t told now
  called_to_disk s m t told now called silent = record { m = m; called = called; silent = silent }

pub silent_here : (s : State) → Silent s s
silent_here s = record { honest = λ h. h; scripts = refl }

-- the records of those that neither disappeared nor conflict

pub others_kept : (old mid new : List Record) (gone conflicting names : List (List ℕ)) → names ≡ gone ++ conflicting
    → ((q : List ℕ) → (Contains gone q → ⊥) → record_in mid q ≡ record_in old q) → ((q : List ℕ) → (Contains conflicting q → ⊥) → record_in new q ≡ record_in mid q)
    → (q : List ℕ) → (Contains names q → ⊥) → record_in new q ≡ record_in old q
others_kept old mid new gone conflicting names are first second q none =
    second q (λ has. none (subst (λ l. Contains l q) (sym are) (Contains-append_right gone conflicting q has)))
    ∙ first q (λ has. none (subst (λ l. Contains l q) (sym are) (Contains-append_left gone conflicting q has)))

-- of an answer this holds where another thing and a fact do
pub if_ok_with : {T E Q : Type 0} (result : Result T E) (P R : T → Type 0) → ((x : T) → P x → Q → R x) → IfOk result P → OnOk result Q → IfOk result R
if_ok_with (Ok x) P R so p q = so x p q
if_ok_with (Err e) P R so p q = tt
