-- An install: unpacks, and then what is configured.
use Rattle.std.proofs.Common.{◌⊎◌, ◌≡◌, inl, inr, ℕ, Bool, IsTrue, List, [], ◌++◌, Option, Some, None, refl, ap, subst, ◌∙◌}
use Rattle.std.specs.Prelude.{IsNone, is_some, true, map}
use Rattle.configure_run.specs.declared.options.ConfigureOptions.{ConfigureOptions}
use Rattle.configure_run.specs.Run.{HasRun as HasConfigured, IsAmidRun as IsAmidConfigure, IsConfigureRun}
use Rattle.host_core.specs.Host.{State, Since}
use Rattle.host_core.specs.Loss.{IsAnswered}
use Rattle.host_core.proofs.Moments.{since_then, since_weaker, since_weaker_if}
use Rattle.host_core.specs.Unsynced.{IsSettled}
use Rattle.unit_reports.specs.Held.{Held}
use Rattle.unit_reports.specs.Units.{CountsLast, TellsCalls, calls_of, calls_told, last_calls}
use Rattle.unit_reports.specs.declared.report.Report.{Report}
use Rattle.unit_reports.specs.declared.report.Unit.{Unit as AUnit}
use Rattle.undo_rows.proofs.Makes.{tells_none, tells_then}
use Rattle.unpack_relations.specs.declared.options.UnpackOptions.{UnpackOptions}
use Rattle.dpkg_session.specs.Installs.{HasGoneOn, HasInstalled, HasInstalledThrough, IsAmidInstall, IsEmptyReport, TellsBoth, label_of, last_of, names_done, packages_done}
use Rattle.dpkg_session.specs.Rereading.{BehindReading, IsAmidReading, IsUnread}
use Rattle.dpkg_session.specs.Run.{HasRun, HasRunThrough, IsAmidRun, IsRun}
use Rattle.dpkg_session.specs.declared.report.Candidate.{Candidate}
use Rattle.dpkg_session.proofs.Outlasting.{answered_then, loses_like, run_answered}
use Rattle.unit_reports.proofs.Counting.{last_from}

-- the moments

pub amid_unpacks : (auto : UnpackOptions) (cs : List Candidate) (policy : ConfigureOptions) (before : Held) (s m : State) → Since (IsAmidRun auto cs before s) s m → Since (IsAmidInstall auto cs policy before s) s m
amid_unpacks auto cs policy before s m since = since_weaker (IsAmidRun auto cs before s) (IsAmidInstall auto cs policy before s) s m (λ so_far w is. inl is) since

pub amid_both : (auto : UnpackOptions) (cs : List Candidate) (policy : ConfigureOptions) (us told : List AUnit) (before mid : Held) (labels : List (List ℕ)) (s m t : State) → labels ≡ map label_of cs → told ≡ us → IsRun auto cs us before mid s m → Since (IsAmidRun auto cs before s) s m
    → Since (IsAmidReading (λ h. IsAmidConfigure (names_done labels told) policy h) mid m) m t → Since (IsAmidInstall auto cs policy before s) s t
amid_both auto cs policy us told before mid labels s m t named same run first behind =
    let second : Since (IsAmidReading (λ h. IsAmidConfigure (packages_done cs us) policy h) mid m) m t = subst (λ ls. Since (IsAmidReading (λ h. IsAmidConfigure (names_done ls us) policy h) mid m) m t) named (subst (λ l. Since (IsAmidReading (λ h. IsAmidConfigure (names_done labels l) policy h) mid m) m t) same behind) in
    let unpacks = amid_unpacks auto cs policy before s m first in
    since_then (IsAmidInstall auto cs policy before s) s m t unpacks
    (since_weaker_if (IsAmidReading (λ h. IsAmidConfigure (packages_done cs us) policy h) mid m) (λ so_far w. IsAmidInstall auto cs policy before s (unpacks.added ++ so_far) w) m t
    (λ h so_far w is. inr (record { unpacked = us; mid = mid; m = m; honest = second.honest h; unpacks = run; front = unpacks.added; rest = so_far; are = refl; events = unpacks.events; configuring = is })) second)

-- the calls

pub tells_both : (s m t : State) (first second : Report) → TellsCalls s m first → TellsCalls m t second → TellsBoth s t first second
tells_both s m t first second told more = tells_then s m t [] (calls_told first) (calls_told first ++ calls_told second) told (more.0, more.1, ap (λ l. calls_told first ++ l) more.2)

tells_nothing : (t : State) (report : Report) → IsEmptyReport report → TellsCalls t t report
tells_nothing t report empty = tells_none t t [] (calls_told report) refl (λ i. calls_of (empty.units i) ++ last_calls (empty.last i))

pub tells_first : (s t : State) (first second : Report) → TellsCalls s t first → IsEmptyReport second → TellsBoth s t first second
tells_first s t first second told empty = tells_both s t t first second told (tells_nothing t second empty)

-- the faults

pub counts_both : (s m t : State) (last : Option AUnit) → CountsLast s m None → CountsLast m t last → CountsLast s t last
counts_both s m t last first second = last_from last s m t first second

-- the last unit of the reports

pub none_both : (first second : Option AUnit) → IsNone first → IsNone (last_of first second) → IsNone second
none_both None second none both = both
none_both (Some u) second none both = cc

-- how far an install came

broken_installed : (auto : UnpackOptions) (cs : List Candidate) (policy : ConfigureOptions) (us : List AUnit) (last : Option AUnit) (configured : Report) (before : Held) (s t : State) → is_some last ≡ true
    → HasRun auto cs us last before s t → IsEmptyReport configured → HasInstalled auto cs policy us last configured before s t
broken_installed auto cs policy us None configured before s t some run empty = cc
broken_installed auto cs policy us (Some u) configured before s t some run empty = (run, empty)

gone_on : (auto : UnpackOptions) (cs : List Candidate) (policy : ConfigureOptions) (us : List AUnit) (last : Option AUnit) (configured : Report) (before : Held) (s t : State) → IsNone last
    → HasGoneOn auto cs policy us configured before s t → HasInstalled auto cs policy us last configured before s t
gone_on auto cs policy us None configured before s t none gone = gone
gone_on auto cs policy us (Some u) configured before s t none gone = cc

some_not_none : (first second : Option AUnit) → is_some first ≡ true → IsNone (last_of first second) → ⊥
some_not_none None second some none = cc
some_not_none (Some u) second some none = cc

module _ (auto : UnpackOptions) (cs : List Candidate) (left : List (List ℕ)) (policy : ConfigureOptions) (unpacked configured : Report) where
  -- an unpack was broken off
  pub installed_part : (before after : Held) (s t : State) → is_some unpacked.last ≡ true → IsEmptyReport configured → (IsTrue t.honest → IsSettled t.events) → HasRunThrough auto cs left unpacked before after s t
      → HasInstalledThrough auto cs left policy unpacked configured before after s t
  installed_part before after s t some empty settled run =
      let since = amid_unpacks auto cs policy before s t run.any_moment in
      record {
        whole = λ none. absurd (some_not_none unpacked.last configured.last some none);
        all = run.all;
        part = broken_installed auto cs policy unpacked.units.items unpacked.last configured before s t some run.part empty;
        read = run.read;
        any_moment = since;
        loss = loses_like (IsAmidInstall auto cs policy before s) s t settled since;
      }

  -- all were unpacked, and then packages were configured
  pub installed_both : (told : List AUnit) (labels : List (List ℕ)) (before mid after : Held) (s m t : State) → labels ≡ map label_of cs → told ≡ unpacked.units.items → IsNone unpacked.last → (IsTrue t.honest → IsSettled t.events)
      → HasRunThrough auto cs left unpacked before mid s m → (IsNone configured.last → BehindReading (λ h n. IsConfigureRun (names_done labels told) policy configured.units.items h after n t) mid m)
      → IsUnread configured.units.items configured.last m t ⊎ BehindReading (λ h n. HasConfigured (names_done labels told) policy configured.units.items configured.last h n t) mid m → Since (IsAmidReading (λ h. IsAmidConfigure (names_done labels told) policy h) mid m) m t
      → HasInstalledThrough auto cs left policy unpacked configured before after s t
  installed_both told labels before mid after s m t named same none settled run whole part moments =
      let us = unpacked.units.items in
      let names : names_done labels told ≡ packages_done cs us = ap (λ ls. names_done ls told) named ∙ ap (names_done (map label_of cs)) same in
      let since = amid_both auto cs policy us told before mid labels s m t named same (run.whole none) run.any_moment moments in
      record {
        whole = λ both. record {
          mid = mid;
          m = m;
          unpacks = run.whole none;
          configures = subst (λ (ns : List (List ℕ)). BehindReading (λ h n. IsConfigureRun ns policy configured.units.items h after n t) mid m) names (whole (none_both unpacked.last configured.last none both));
        };
        all = run.all;
        part = gone_on auto cs policy us unpacked.last configured before s t none (record {
          mid = mid;
          m = m;
          unpacks = run.whole none;
          configures = subst (λ (ns : List (List ℕ)). IsUnread configured.units.items configured.last m t ⊎ BehindReading (λ h n. HasConfigured ns policy configured.units.items configured.last h n t) mid m) names part;
        });
        read = run.read;
        any_moment = since;
        loss = loses_like (IsAmidInstall auto cs policy before s) s t settled since;
      }

-- all of it only looked or is on the disk
pub answered_both : (auto : UnpackOptions) (cs : List Candidate) (us : List AUnit) (before mid : Held) (s m t : State) → IsRun auto cs us before mid s m → IsAnswered m t → IsAnswered s t
answered_both auto cs us before mid s m t run answered = answered_then s m t (run_answered auto cs us before mid s m run) answered
