-- What was synced so far, and what that says of a step's answer.
use Rattle.std.proofs.Common.{◌≡◌, inl, inr, ℕ, ◌+◌, ◌<◌, List, [], ◌∷◌, length, take, get_or, Result, Ok, Err, IfErr, OnOk, Some, sym, ap, subst, Bool}
use Rattle.std.specs.Prelude.{unwrap_or}
use Rattle.std.specs.List.{Contains}
use Rattle.std.proofs.lemmas.List.Elements.{All-more, All-weaker, Contains-append_left, Contains-append_right, Contains-push}
use Rattle.host_core.specs.declared.fault.HostFault.{HostFault}
use Rattle.host_core.specs.declared.fault.HostFault.TheVariants.{Device, NoMemory, Declined}
use Rattle.host_files.specs.Faults.{IsUndeclined}
use Rattle.host_files.specs.Places.{place_of}
use Rattle.host_files.specs.Shown.{AreOnDisk, IsOnDisk, IsStepBy}
use Rattle.host_files.specs.SystemCalls.{changes_in}
use Rattle.host_files.specs.declared.record.Asked.TheVariants as asked
use Rattle.host_files.specs.declared.trace.SystemCall.{SystemCall}
use Rattle.host_files.specs.declared.trace.SystemCall.TheVariants.{SyncDevice, SyncFile}
use Rattle.host_files.specs.declared.written.Unsynced.{Unsynced}

-- what was asked for last
newest : (call : SystemCall) (old : List SystemCall) → Contains (call ∷ old) call
newest call old = Contains-append_left (call ∷ []) old call (Contains-push [] call)

still_there : (call : SystemCall) (old : List SystemCall) (other : SystemCall) → Contains old other → Contains (call ∷ old) other
still_there call old other there = Contains-append_right (call ∷ []) old other there

-- all of a file system was brought to the disk
abbrev pub IsDeviceOnDisk : List SystemCall → ℕ → Type 0
IsDeviceOnDisk made device = (place : List ℕ) × Contains made (SyncDevice device place)

still_on_disk : (front : List ℕ) (call : SystemCall) (old : List SystemCall) (file : Unsynced) → IsOnDisk front old file → IsOnDisk front (call ∷ old) file
still_on_disk front call old file (inl alone) = inl (still_there call old (SyncFile (place_of front file.path)) alone)
still_on_disk front call old file (inr (place, all)) = inr (place, still_there call old (SyncDevice file.identity.device place) all)

-- one file more
more_on_disk : (front : List ℕ) (files : List Unsynced) (i : ℕ) (file : Unsynced) (call : SystemCall) (old new : List SystemCall) → i < length files → file ≡ get_or files i file → new ≡ call ∷ old → IsOnDisk front (call ∷ old) file
    → AreOnDisk front (take i files) old → AreOnDisk front (take (i + 1) files) new
more_on_disk front files i file call old new low at is one before = subst (λ l. AreOnDisk front (take (i + 1) files) l) (sym is)
    (All-more (IsOnDisk front (call ∷ old)) files i file low (All-weaker (IsOnDisk front old) (IsOnDisk front (call ∷ old)) (still_on_disk front call old) (take i files) before)
    (subst (IsOnDisk front (call ∷ old)) at one))

-- it was synced by itself
pub synced_alone : (front : List ℕ) (files : List Unsynced) (i : ℕ) (file : Unsynced) (old new : List SystemCall) → i < length files → file ≡ get_or files i file → new ≡ SyncFile (place_of front file.path) ∷ old
    → AreOnDisk front (take i files) old → AreOnDisk front (take (i + 1) files) new
synced_alone front files i file old new low at is before =
    more_on_disk front files i file (SyncFile (place_of front file.path)) old new low at is (inl (newest (SyncFile (place_of front file.path)) old)) before

-- with all of the file system
pub synced_with_all : (front : List ℕ) (files : List Unsynced) (i : ℕ) (file : Unsynced) (place : List ℕ) (old new : List SystemCall) → i < length files → file ≡ get_or files i file
    → new ≡ SyncDevice file.identity.device place ∷ old → AreOnDisk front (take i files) old → AreOnDisk front (take (i + 1) files) new
synced_with_all front files i file place old new low at is before =
    more_on_disk front files i file (SyncDevice file.identity.device place) old new low at is (inr (place, newest (SyncDevice file.identity.device place) old)) before

-- with all of the file system, before
pub synced_before : (front : List ℕ) (files : List Unsynced) (i : ℕ) (file : Unsynced) (made : List SystemCall) → i < length files → file ≡ get_or files i file → IsDeviceOnDisk made file.identity.device
    → AreOnDisk front (take i files) made → AreOnDisk front (take (i + 1) files) made
synced_before front files i file made low at all before = All-more (IsOnDisk front made) files i file low before (subst (IsOnDisk front made) at (inr all))

-- the file system that was brought to the disk last
pub last_device : (device last : ℕ) (place : List ℕ) (old new : List SystemCall) → new ≡ SyncDevice device place ∷ old → Some device ≡ Some last → IsDeviceOnDisk new last
last_device device last place old new is same = subst (IsDeviceOnDisk new) (ap (λ o. unwrap_or o 0) same)
    (subst (λ l. IsDeviceOnDisk l device) (sym is) (place, newest (SyncDevice device place) old))

-- Syncs change nothing.

pub all_written : {T : Type 0} (front : List ℕ) (owners : Bool) (made : List SystemCall) (result : Result T HostFault) → changes_in made ≡ [] → IsStepBy front owners asked.SyncAll made result
all_written front owners made (Ok x) none = none
all_written front owners made (Err Device) none = ([], none)
all_written front owners made (Err NoMemory) none = none
all_written front owners made (Err Declined) none = none

pub all_names : {T : Type 0} (front : List ℕ) (owners : Bool) (made : List SystemCall) (result : Result T HostFault) → IfErr result IsUndeclined → changes_in made ≡ [] → IsStepBy front owners asked.Barrier made result
all_names front owners made (Ok x) is none = none
all_names front owners made (Err Device) is none = ([], none)
all_names front owners made (Err NoMemory) is none = none
all_names front owners made (Err Declined) is none = absurd is

pub all_root : {T : Type 0} (front : List ℕ) (owners : Bool) (made : List SystemCall) (result : Result T HostFault) → IfErr result IsUndeclined → changes_in made ≡ [] → IsStepBy front owners asked.SyncRoot made result
all_root front owners made (Ok x) is none = none
all_root front owners made (Err Device) is none = ([], none)
all_root front owners made (Err NoMemory) is none = none
all_root front owners made (Err Declined) is none = absurd is

-- both are so where a call was done
pub both_done : {T E : Type 0} (A B : Type 0) (result : Result T E) → OnOk result A → OnOk result B → OnOk result (A × B)
both_done A B (Ok x) a b = (a, b)
both_done A B (Err e) a b = tt
