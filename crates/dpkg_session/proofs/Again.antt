-- Commands behind a reading of the table of diversions.
use Rattle.std.proofs.Common.{◌≡◌, ◌++◌, Bool, true, IsTrue, List, [], ◌∷◌, Option, Some, None, inl, inr, ap, refl, subst, sym, ◌∙◌}
use Rattle.std.specs.Option.{ForSome}
use Rattle.std.specs.Prelude.{Err, IfNone, IfSome, IsNone, IsSomeAnd, false, is_some}
use Rattle.host_core.specs.Events.{Event}
use Rattle.host_core.specs.Host.{Reads, Silent, Since, State}
use Rattle.host_core.specs.Loss.{IsAnswered}
use Rattle.host_core.specs.World.{World}
use Rattle.host_core.proofs.Moments.{since_reads, since_weaker_if}
use Rattle.administration.specs.Fault.{CountsAdministration}
use Rattle.administration.specs.declared.fault.AdministrationFault.{AdministrationFault}
use Rattle.diversions.specs.Lines.{IsDiversionsDamage}
use Rattle.diversions.specs.Ways.{Ways}
use Rattle.held_administration.specs.declared.held.Administration.{Administration}
use Rattle.recorded_packages.specs.Packages.{ArePackagesOf}
use Rattle.undo_rows.specs.declared.rows.Called.{Called}
use Rattle.unit_reports.specs.Held.{Held}
use Rattle.unit_reports.specs.Units.{CountsLast, IsBroken, IsBrokenBy, TellsCalls, TellsNoPackage, calls_of, calls_told, last_calls}
use Rattle.unit_reports.specs.declared.report.Breakage.TheVariants.{Abandoned, Closed}
use Rattle.unit_reports.specs.Watching.{IsTold}
use Rattle.unit_reports.specs.declared.report.Report.{Report}
use Rattle.unit_reports.specs.declared.report.Unit.{Unit as AUnit}
use Rattle.unit_reports.proofs.Counting.{not_abandoned, not_closed}
use Rattle.unit_reports.proofs.Telling.{tells_both, told_more}
use Rattle.dpkg_session.specs.Rereading.{BehindReading, HasReread, IsAmidReading, IsReread, IsUnread, IsUnreadUnit, reading_breakage, with_ways}
use Rattle.dpkg_session.specs.Standing.{IsStanding}
use Rattle.dpkg_session.proofs.Growth.{answered_from, moments_from}
use Rattle.dpkg_session.proofs.Looking.{none_failed}
use Rattle.dpkg_session.proofs.ReadingFaults.{counts_reading, damage_of, reading_within}
use Rattle.dpkg_session.proofs.Told.{tells_silent}

-- the administration stands with the table that was read
pub standing_reread : (before : Held) (ways : Ways) (w : World) → IsReread before w ways → IsStanding before w → IsStanding (with_ways before ways) w
standing_reread before ways w read standing = (standing.0, standing.1, standing.2, standing.3, standing.4, standing.5, standing.6, ∣ read.entries ∣₁)

-- what holds from the state behind the reading

pub behind : (P : Held → State → Type 0) (before mid : Held) (ways : Ways) (s m : State) → HasReread before ways s m → mid ≡ with_ways before ways → P mid m → BehindReading P before s
behind P before mid ways s m read same holds = (ways, m, read, subst (λ (h : Held). P h m) same holds)

pub behind_moments : (P : Held → State → List Event → World → Type 0) (before mid : Held) (ways : Ways) (s m t : State) → HasReread before ways s m → mid ≡ with_ways before ways → Since (P mid m) m t → Since (IsAmidReading P before s) s t
behind_moments P before mid ways s m t read same since =
    since_weaker_if (P mid m) (IsAmidReading P before s) s t (λ h so_far now amid. inr (ways, m, read, subst (λ (x : Held). P x m so_far now) same amid))
    (moments_from (λ (w : World). P mid m) s m t read.reads read.faults since)

pub behind_told : (before : Held) (ways : Ways) (s m t : State) (report : Report) → HasReread before ways s m → TellsCalls m t report → TellsCalls s t report
behind_told before ways s m t report read told = tells_both s m t [] (calls_told report) (tells_silent s m [] read.silent refl) told

pub behind_answered : (before : Held) (ways : Ways) (s m t : State) → HasReread before ways s m → IsAnswered m t → IsAnswered s t
behind_answered before ways s m t read answered = answered_from s m t read.reads answered

pub behind_watched : {W : Type 0} (tells : W → AUnit → State → W → Type 0) (before : Held) (ways : Ways) (s m : State) (old new : W) (us : List AUnit) → HasReread before ways s m → IsTold tells m old us new → IsTold tells s old us new
behind_watched tells before ways s m old new us read told = told_more tells s m old old new [] us refl (tells_silent s m [] read.silent refl) (inr read.reads) told

-- it was broken off as the table was read

pub unread_last : (us : List AUnit) (last : Option AUnit) (s t : State) → IsUnread us last s t → IsNone last → ⊥
unread_last us last s t unread none = by last unread.last none
  where
    by : (last : Option AUnit) → IsSomeAnd last (IsUnreadUnit s t) → IsNone last → ⊥
    by None is none = absurd is
    by (Some u) is none = cc

pub unread_some : (us : List AUnit) (last : Option AUnit) (s t : State) → IsUnread us last s t → is_some last ≡ true
unread_some us last s t unread = by last unread.last
  where
    by : (last : Option AUnit) → IsSomeAnd last (IsUnreadUnit s t) → is_some last ≡ true
    by None is = absurd is
    by (Some u) is = refl

pub unread_closes : (us : List AUnit) (last : Option AUnit) (s t : State) (result : Option Report) {report : Report} {closed : Bool} → IsUnread us last s t → closed ≡ is_some result → result ≡ Some report → closed ≡ is_some last
unread_closes us last s t result unread closed is = closed ∙ ap is_some is ∙ sym (unread_some us last s t unread)

pub unread_moments : (P : Held → State → List Event → World → Type 0) (before : Held) (s t : State) (us : List AUnit) (last : Option AUnit) → IsUnread us last s t → Since (IsAmidReading P before s) s t
unread_moments P before s t us last unread = since_reads (IsAmidReading P before s) s t unread.reads (λ es all. inl (refl, none_failed es all))

unread_calls : (us : List AUnit) (last : Option AUnit) (s t : State) → IsUnread us last s t → calls_of us ++ last_calls last ≡ []
unread_calls us last s t unread = ap (λ (l : List AUnit). calls_of l ++ last_calls last) unread.units ∙ by last unread.last
  where
    by : (last : Option AUnit) → IsSomeAnd last (IsUnreadUnit s t) → last_calls last ≡ []
    by None is = refl
    by (Some u) is = is.calls

pub unread_told : (report : Report) (s t : State) → IsUnread report.units.items report.last s t → TellsCalls s t report
unread_told report s t unread = tells_silent s t (calls_told report) unread.silent (unread_calls report.units.items report.last s t unread)

pub unread_watched : {W : Type 0} (tells : W → AUnit → State → W → Type 0) (s t : State) (w : W) (us : List AUnit) (last : Option AUnit) → IsUnread us last s t → IsTold tells s w us w
unread_watched tells s t w us last unread = subst (λ (l : List AUnit). IsTold tells s w l w) (sym unread.units) refl

-- the one unit of the report
abbrev IsOf : AdministrationFault → AUnit → Type 0
IsOf fault u = IsBrokenBy (reading_breakage fault) u.reply × (u.calls.items ≡ []) × TellsNoPackage u

unread_unit : (fault : AdministrationFault) (u : AUnit) (s t : State) → (IsTrue t.honest → IsDiversionsDamage s.world fault) → IsOf fault u → IsUnreadUnit s t u
unread_unit fault u s t damage (broken, calls, touched) = record {
  broken = subst IsBroken (sym broken) tt;
  calls = calls;
  touched = touched;
  damaged = λ told h. damage_of fault u.reply s.world broken told (damage h);
}

pub unread_by : (fault : AdministrationFault) (report : Report) (s t : State) → Reads s t → Silent s t → (IsTrue t.honest → IsDiversionsDamage s.world fault) → report.units.items ≡ [] → IsSomeAnd report.last (IsOf fault) → IsUnread report.units.items report.last s t
unread_by fault report s t reads silent damage none is = record { units = none; last = by report.last is; reads = reads; silent = silent }
  where
    by : (last : Option AUnit) → IsSomeAnd last (IsOf fault) → IsSomeAnd last (IsUnreadUnit s t)
    by None is = is
    by (Some u) is = unread_unit fault u s t damage is

pub counts_unread : (fault : AdministrationFault) (last : Option AUnit) (s t : State) → CountsAdministration {T = Unit {0}} s t (Err fault) → IsSomeAnd last (IsOf fault) → CountsLast s t last
counts_unread fault None s t counts is = absurd is
counts_unread fault (Some u) s t counts is = counts_reading fault u.reply s t is.0 counts

pub unread_not_closed : (fault : AdministrationFault) (last : Option AUnit) → IsSomeAnd last (IsOf fault) → IfSome last (λ unit. IsBrokenBy Closed unit.reply → ⊥)
unread_not_closed fault None is = tt
unread_not_closed fault (Some u) is = not_closed u.reply (reading_within fault u.reply is.0)

pub unread_not_abandoned : (fault : AdministrationFault) (last : Option AUnit) → IsSomeAnd last (IsOf fault) → IfSome last (λ unit. IsBrokenBy Abandoned unit.reply → ⊥)
unread_not_abandoned fault None is = tt
unread_not_abandoned fault (Some u) is = not_abandoned u.reply (reading_within fault u.reply is.0)

-- a unit that isn't abandoned isn't so without cause
pub never_abandoned : (last : Option AUnit) (P : Type 0) → IfSome last (λ unit. IsBrokenBy Abandoned unit.reply → ⊥) → IfSome last (λ unit. IsBrokenBy Abandoned unit.reply → P)
never_abandoned None P never = tt
never_abandoned (Some u) P never = λ told. absurd (never told)

-- what holds where there is no report of it

pub read_none : {T : Type 0} (result : Option T) (P : Type 0) → is_some result ≡ false → IfNone result P → P
read_none None P none holds = holds
read_none (Some x) P none holds = cc

-- what is known of the packages stays
pub known_same : (old new : Administration) → new ≡ record old { places = new.places } → ForSome old.packages (λ p. ∥ ArePackagesOf old.database.records p ∥₁) → ForSome new.packages (λ p. ∥ ArePackagesOf new.database.records p ∥₁)
known_same old new same known = subst (λ (a : Administration). ForSome a.packages (λ p. ∥ ArePackagesOf a.database.records p ∥₁)) (sym same) known
