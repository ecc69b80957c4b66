-- What was stopped is brought to the disk.
use Rattle.std.specs.Prelude.{◌≡◌, ◌↔◌, ◌⊎◌, Bool, true, false, List, [], ◌∷◌, ◌++◌, Option, None, Some, IsSome, IsTrue, Result, Ok, Err, not}
use Rattle.std.proofs.Common.{inl, inr, refl, sym, ap, subst, ◌∙◌, append_assoc}
use Rattle.std.proofs.lemmas.Result.{IfOk-from_err}
use Rattle.std.proofs.lemmas.Bool.{true≢false, false≢true}
use Rattle.host_core.specs.World.{World, IsBare, Step, SyncRoot}
use Rattle.host_core.specs.Events.{Event, Did, Finished, Cut, Failed, Denied}
use Rattle.host_core.specs.Host.{State, AllFailed, Falls, Reads, Does, Happens, Since, Stops, Declines}
use Rattle.host_core.specs.Loss.{IsLater}
use Rattle.host_core.specs.declared.fault.HostFault.{HostFault}
use Rattle.host_core.specs.declared.fault.HostFault.TheVariants.{Device, NoMemory, Declined}
use Rattle.host_core.specs.Paths.{Path}
use Rattle.host_core.proofs.Nodes.{none_stands}
use Rattle.administration.specs.Directories.{IsStanding}
use Rattle.administration.specs.declared.directories.Standing.TheVariants as standing
use Rattle.administration.specs.Places.{tmp_path, updates_path}
use Rattle.administration.specs.declared.fault.AdministrationFault.{AdministrationFault}
use Rattle.administration.specs.declared.fault.AdministrationFault.TheVariants as administration
use Rattle.administration.specs.declared.fault.AdministrationFault.TheVariants.{Damaged}
use Rattle.info_format.specs.Stage.{AreDamaged, AreDone, IsNaming}
use Rattle.opening.specs.Leaving.{IsOpeningOrMerging, IsReading}
use Rattle.opening.specs.Parts.{IsDamaged, OpensAndMerges, ReadsAndMerges}
use Rattle.opening.specs.Stopped.{AreIdle, BeginsOnDisk, BeginsOnDiskIfAtAll, IsBrought, WasStopped}
use Rattle.opening.proofs.Openings.{opening_same}
use Rattle.host_core.proofs.Moments.{since_now, since_reads, since_sync_root, since_then, since_weaker, since_weaker_if}
use Rattle.std.specs.Result.{IsErr}

fails_idle : (fs : List Event) → AllFailed fs → AreIdle fs
fails_idle [] all = tt
fails_idle (Did s ∷ fs) all = absurd all
fails_idle (Finished ran ∷ fs) all = absurd all
fails_idle (Cut call change ∷ fs) all = absurd all
fails_idle (Failed ∷ fs) all = fails_idle fs all
fails_idle (Denied path ∷ fs) all = absurd all

fails_then : (fs es : List Event) → AllFailed fs → AreIdle es → AreIdle (fs ++ es)
fails_then [] es all idle = idle
fails_then (Did s ∷ fs) es all idle = absurd all
fails_then (Finished ran ∷ fs) es all idle = absurd all
fails_then (Cut call change ∷ fs) es all idle = absurd all
fails_then (Failed ∷ fs) es all idle = fails_then fs es all idle
fails_then (Denied path ∷ fs) es all idle = absurd all

grown : (a b c : List Event) (fs es : List Event) → b ≡ a ++ fs → c ≡ b ++ es → c ≡ a ++ (fs ++ es)
grown a b c fs es first second = second ∙ ap (λ (l : List Event). l ++ es) first ∙ append_assoc a fs es

-- it was only looked at, which failed
pub looks_idle : {T E : Type 0} (result : Result T E) (a b : State) → IsErr result → Reads a b → IsBrought result a b
looks_idle {T} {E} (Ok x) a b is reads = absurd (IfOk-from_err {T = T} {E = E} (Ok x) (λ y. ⊥) is)
looks_idle (Err e) a b is reads = inr (reads.added, fails_idle reads.added reads.failed, reads.events)

-- and then the step was made
pub looks_brought : (a b c : State) → Reads a b → Happens (Did SyncRoot ∷ []) b c → BeginsOnDisk a c
looks_brought a b c reads goes = (reads.added, [], reads.failed, grown a.events b.events c.events reads.added (Did SyncRoot ∷ []) reads.events goes.events)

-- or it failed
pub looks_unbrought : (fault : HostFault) (a b c : State) → Reads a b → Does {T = Unit {0}} SyncRoot b c (Err fault) → IsTrue c.honest → BeginsOnDiskIfAtAll a c
looks_unbrought fault a b c reads does h = at fault does
  where
    idle : (es : List Event) → AreIdle es → c.events ≡ b.events ++ es → BeginsOnDiskIfAtAll a c
    idle es none events = inr (reads.added ++ es, fails_then reads.added es reads.failed none, grown a.events b.events c.events reads.added es reads.events events)

    made : (t : Step) → t ≡ SyncRoot → c.events ≡ b.events ++ Did t ∷ Failed ∷ [] → BeginsOnDiskIfAtAll a c
    made t same events = inl (reads.added, Failed ∷ [], reads.failed, grown a.events b.events c.events reads.added (Did SyncRoot ∷ Failed ∷ []) reads.events (events ∙ ap (λ s. b.events ++ Did s ∷ Failed ∷ []) same))

    at : (fault : HostFault) → Does {T = Unit {0}} SyncRoot b c (Err fault) → BeginsOnDiskIfAtAll a c
    at Device (Stops.nothing goes) = idle (Failed ∷ []) tt goes.events
    at Device (Stops.some t is goes) = elim (is h) [ inl same ↦ made t same goes.events | inr part ↦ absurd part ]
    at NoMemory does = inr (reads.added, fails_idle reads.added reads.failed, does.events ∙ reads.events)
    at Declined (Declines.nothing goes) = idle (Denied [] ∷ []) tt goes.events
    at Declined (Declines.undone t is goes) = absurd (is h).0

-- whatever comes behind the step
pub begins_then : (a b c : State) → BeginsOnDisk a b → IsLater b c → BeginsOnDisk a c
begins_then a b c (fs, rest, all, events) later =
    (fs, rest ++ later.added, all, grown a.events b.events c.events (fs ++ Did SyncRoot ∷ rest) later.added events later.events ∙ ap (λ (l : List Event). a.events ++ l) (append_assoc fs (Did SyncRoot ∷ rest) later.added))

pub brought_then : {T E : Type 0} (result : Result T E) (a b c : State) → BeginsOnDisk a b → IsLater b c → IsBrought result a c
brought_then (Ok x) a b c begins later = begins_then a b c begins later
brought_then (Err e) a b c begins later = inl (begins_then a b c begins later)

-- whether a command was stopped is seen by what stands at the two places
pub stopped_by_notes : (w : World) (bare : Bool) → (IsSome (w tmp_path) → ⊥) → (IsTrue bare ↔ IsBare w updates_path) → IsTrue (not bare) ↔ WasStopped w
stopped_by_notes w true none is = (λ e. absurd (false≢true e), λ stopped. elim stopped [ inl some ↦ absurd (none some) | inr filled ↦ absurd (filled (is.0 refl)) ])
stopped_by_notes w false none is = (λ e. inr (λ bare. false≢true (is.1 bare)), λ stopped. refl)

-- where nothing stands no unit lays anything out
pub nothing_stands : (w : World) (path : Path) → IsStanding standing.Nothing (w path) → path ≡ tmp_path → IsSome (w tmp_path) → ⊥
nothing_stands w path stands is some = none_stands (w tmp_path) (subst (λ p. w p ≡ None) is stands) some

-- each moment of it

pub moments_looked : (a b : State) → Reads a b → Since (λ so_far now. now ≡ a.world) a b
moments_looked a b reads = since_reads (λ so_far now. now ≡ a.world) a b reads (λ fs all. refl)

pub moments_synced : {T : Type 0} (result : Result T HostFault) (a b c : State) → Reads a b → Does SyncRoot b c result → Since (λ so_far now. now ≡ a.world) a c
moments_synced result a b c reads does = since_then (λ so_far now. now ≡ a.world) a b c (moments_looked a b reads) (since_sync_root (λ now. now ≡ a.world) result b c does (λ h. reads.world))

-- where that is all
pub as_before : (a b : State) → Since (λ so_far now. now ≡ a.world) a b → Since (λ so_far. IsOpeningOrMerging a.world) a b
as_before a b since = since_weaker (λ so_far now. now ≡ a.world) (λ so_far. IsOpeningOrMerging a.world) a b (λ so_far w same. record { begun = a.world; names = inl refl; reading = IsReading.opening (opening_same a.world w same) }) since

-- and where the opening comes behind it
pub moments_opened : (a b c : State) → (IsTrue b.honest → b.world ≡ a.world) → Falls b c → Since (λ so_far now. now ≡ a.world) a b → Since (λ so_far. IsOpeningOrMerging b.world) b c → Since (λ so_far. IsOpeningOrMerging a.world) a c
moments_opened a b c same falls first second = since_then (λ so_far. IsOpeningOrMerging a.world) a b c (as_before a b first)
    (since_weaker_if (λ so_far. IsOpeningOrMerging b.world) (λ so_far. IsOpeningOrMerging a.world) b c (λ h so_far w is. subst (λ u. IsOpeningOrMerging u w) (same (falls h)) is) second)

-- what was opened

undamaged : (w : World) (fault : AdministrationFault) → (IsDamaged (Some fault) → ⊥) → AreDamaged w fault
undamaged w (Damaged file line) sound = absurd (sound tt)
undamaged w administration.Device sound = tt
undamaged w administration.NoMemory sound = tt
undamaged w administration.Declined sound = tt

pub opens_unbrought : (fault : AdministrationFault) (u v : World) → v ≡ u → (IsDamaged (Some fault) → ⊥) → OpensAndMerges (Some fault) u v
opens_unbrought fault u v same sound = record { begun = v; first = Some fault; names = (inl same, undamaged u fault sound); goes = (refl, refl) }

pub later_of : (P : List Event → World → Type 0) (b c : State) → Since P b c → IsLater b c
later_of P b c since = since_weaker P (λ so_far w. Unit {0}) b c (λ so_far w is. tt) since

-- names are brought to format 0 first

pub opens_named : (fault : Option AdministrationFault) (u v w : World) → AreDone u v → ReadsAndMerges fault v w → OpensAndMerges fault u w
opens_named fault u v w done reads = record { begun = v; first = None; names = done; goes = reads }

pub opens_unnamed : (fault : AdministrationFault) (u v : World) → IsNaming u v → AreDamaged u fault → OpensAndMerges (Some fault) u v
opens_unnamed fault u v naming damaged = record { begun = v; first = Some fault; names = (naming, damaged); goes = (refl, refl) }

pub moments_naming : (a b : State) → Since (λ so_far. IsNaming a.world) a b → Since (λ so_far. IsOpeningOrMerging a.world) a b
moments_naming a b since = since_weaker (λ so_far. IsNaming a.world) (λ so_far. IsOpeningOrMerging a.world) a b (λ so_far w is. record { begun = w; names = is; reading = IsReading.opening (opening_same w w refl) }) since

pub moments_named : (a b c : State) → Falls b c → Since (λ so_far. IsNaming a.world) a b → Since (λ so_far. IsReading b.world) b c → Since (λ so_far. IsOpeningOrMerging a.world) a c
moments_named a b c falls first second =
    since_then (λ so_far. IsOpeningOrMerging a.world) a b c (moments_naming a b first)
    (since_weaker_if (λ so_far. IsReading b.world) (λ so_far. IsOpeningOrMerging a.world) b c (λ h so_far w is. record { begun = b.world; names = since_now (λ so_far. IsNaming a.world) a b first (falls h); reading = is }) second)
