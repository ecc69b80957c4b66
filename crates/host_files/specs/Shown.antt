-- Which calls of the system stand behind a call of the host and its answer, the newest first.
use Rattle.std.specs.Prelude.{◌≡◌, ◌≢◌, ◌⊎◌, ℕ, ℤ, Bool, true, false, ◌&&◌, bit_and, cond, List, [], ◌∷◌, ◌++◌, Option, Some, None, Result, Ok, Err, String, string_bytes, map, reverse, codes, Contains}
use Rattle.std.specs.BTreeSet.{BTreeSet}
use Rattle.std.specs.List.{All}
use Rattle.std.specs.Fs.{file_type, IsDir, IsFile}
use Rattle.std.specs.declared.alloc.Global.{Global}
use Rattle.std.specs.declared.fs.Metadata.{Metadata}
use Rattle.std.specs.declared.process.Command.{Command}
use Rattle.host_core.specs.Paths.{Path}
use Rattle.host_core.specs.Tree.{IsBelow}
use Rattle.host_core.specs.declared.call.Call.{Call}
use Rattle.host_core.specs.declared.call.Outcome.{Outcome}
use Rattle.host_core.specs.declared.call.Outcome.TheVariants.{NotStarted}
use Rattle.host_core.specs.declared.fault.HostFault.{HostFault}
use Rattle.host_core.specs.declared.fault.HostFault.TheVariants.{Device, NoMemory, Declined}
use Rattle.host_core.specs.declared.content.Modified.{Modified}
use Rattle.host_core.specs.declared.node.Access.{Access}
use Rattle.host_core.specs.declared.node.Kind.{Kind}
use Rattle.host_core.specs.declared.node.Node.{Node}
use Rattle.host_core.specs.declared.node.Node.TheVariants.{File, Dir, Link}
use Rattle.host_files.specs.Commands.{outcome_of}
use Rattle.host_files.specs.Directories.{HasDirectoryOf}
use Rattle.host_files.specs.Entries.{HasNoBytes, IsNodeOf, IsKindOf, LendsRights, LendsNothing, is_access, is_plain}
use Rattle.host_files.specs.Places.{place_of, place_in, IsEntry}
use Rattle.host_files.specs.Remembered.{IsNew, IsBelowVacant}
use Rattle.host_files.specs.SystemCalls.{changes_in, Looks, start_call}
use Rattle.host_files.specs.Unsynced.{IsListed, is_readable}
use Rattle.host_files.specs.Walked.{Includes, IsWalked}
use Rattle.host_files.specs.declared.record.Asked.{Asked}
use Rattle.host_files.specs.declared.record.Asked.TheVariants as asked
use Rattle.host_files.specs.declared.record.Noted.{Noted}
use Rattle.host_files.specs.declared.record.Noted.TheVariants as was
use Rattle.host_files.specs.declared.trace.SystemCall.{SystemCall}
use Rattle.host_files.specs.declared.trace.SystemCall.TheVariants as ask
use Rattle.host_files.specs.declared.written.Unsynced.{Unsynced}

-- what gives a new file or directory its access, by what is open of it: a change of the owner takes bits of the mode away, so it comes
-- first
abbrev pub access_calls : Bool → Access → List SystemCall
access_calls true access = ask.SetModeMade access.mode ∷ ask.SetOwnerMade access.user access.group ∷ []
access_calls false access = ask.SetModeMade access.mode ∷ []

-- what sets when a new file was last modified, where that is to be kept
abbrev pub time_calls : Option Modified → List SystemCall
time_calls (Some time) = ask.SetTimeMade time ∷ []
time_calls None = []

-- what gives a new file its bytes, its access and its time
abbrev pub fill_calls : Bool → List ℕ → Access → Option Modified → List SystemCall
fill_calls owners bytes access modified = time_calls modified ++ (access_calls owners access ++ ask.Append bytes ∷ [])

-- what writes a file where nothing stands
abbrev pub write_calls : Bool → List ℕ → List ℕ → Access → Option Modified → List SystemCall
write_calls owners place bytes access modified = fill_calls owners bytes access modified ++ ask.Create place ∷ []

-- The mode with which a directory is made: its own where it is root's, lends no rights of an owner and can be opened; otherwise only
-- its owner may use it, so that nobody gets in before it has its access.
abbrev pub first_mode : Bool → Access → ℕ
first_mode owners access = cond (is_plain access && is_readable owners access) (bit_and access.mode 0o1777) 0o700

-- what gives a directory its access that was seen with this one: nothing where that is it
abbrev pub amending_calls : Bool → Access → (seen : Access) → List SystemCall
amending_calls owners access seen = cond (is_access seen access) [] (access_calls owners access)

-- what opens a new directory and gives it its access
abbrev pub opened_calls : Bool → List ℕ → Access → (seen : Access) → List SystemCall
opened_calls owners place access seen = amending_calls owners access seen ++ ask.SeenMade seen ∷ ask.OpenMade place ∷ []

-- what makes it
abbrev pub first_call : Bool → List ℕ → Access → SystemCall
first_call owners place access = ask.MakeDirectory place (first_mode owners access)

-- what makes a directory where nothing stands
abbrev pub directory_calls : Bool → List ℕ → Access → (seen : Access) → List SystemCall
directory_calls owners place access seen = opened_calls owners place access seen ++ first_call owners place access ∷ []

-- of some changes more the first were made
abbrev pub AddsFirst : List SystemCall → List SystemCall → List SystemCall → Type 0
AddsFirst changes old new = (later more : List SystemCall) × (changes ≡ later ++ more) × (changes_in new ≡ more ++ changes_in old)

-- these changes more were made; where one failed or was declined the first of them, where memory was refused none
abbrev pub Adds : {T : Type 0} → List SystemCall → List SystemCall → List SystemCall → Result T HostFault → Type 0
Adds changes old new (Ok x) = changes_in new ≡ changes ++ changes_in old
Adds changes old new (Err Device) = AddsFirst changes old new
Adds changes old new (Err NoMemory) = changes_in new ≡ changes_in old
Adds changes old new (Err Declined) = AddsFirst changes old new

-- something stands at a place of which this holds
abbrev pub LooksAt : (Metadata → Type 0) → List ℕ → List SystemCall → List SystemCall → Type 0
LooksAt P place old new = (found : Metadata) × P found × Looks place (Some found) old new

-- no directory stands there
abbrev pub IsNoDirectory : Option Metadata → Type 0
IsNoDirectory None = Unit {0}
IsNoDirectory (Some found) = IsDir (file_type found) → ⊥

-- a look at a place told no directory
abbrev pub LooksAtNoDirectory : List ℕ → List SystemCall → List SystemCall → Type 0
LooksAtNoDirectory place old new = (found : Option Metadata) × IsNoDirectory found × Looks place found old new

-- the last look told that no directory stands at a place above this path, where nothing was changed before
abbrev pub IsCutOff : List ℕ → Path → List SystemCall → Type 0
IsCutOff front p made = (top : Path) × IsBelow top p × ((before : List SystemCall) × (changes_in before ≡ []) × LooksAtNoDirectory (place_of front top) before made)

-- the changes of a rename: where one file has both names the system's own would do nothing, and the former is removed
abbrev pub IsRenaming : List ℕ → List ℕ → List SystemCall → Type 0
IsRenaming from to made = (made ≡ ask.Rename from to ∷ []) ⊎ ((made ≡ ask.Unlink from ∷ []) × (from ≢ to))

-- a rename that was done: where the former name was removed, something had just been seen at the latter
abbrev pub HasRenamed : List ℕ → List ℕ → List SystemCall → Type 0
HasRenamed from to made = (changes_in made ≡ ask.Rename from to ∷ [])
    ⊎ ((from ≢ to) × ((mode : ℕ) × ((before : List SystemCall) × (changes_in before ≡ []) × (made ≡ ask.Unlink from ∷ ask.Look to (Some mode) ∷ before))))

-- a sync that was done: of a file, of the file that was made last, or of what has no bytes that are to be brought to the disk
abbrev pub HasSynced : List ℕ → List SystemCall → Type 0
HasSynced place made =
    LooksAt HasNoBytes place [] made
    ⊎ ((looked : List SystemCall) × LooksAt (λ found. IsFile (file_type found)) place [] looked × (made ≡ ask.SyncFile place ∷ looked))
    ⊎ (made ≡ ask.SyncMade ∷ [])

-- what takes the rights away that the file at a place lends
abbrev pub lowering_calls : List ℕ → List SystemCall
lowering_calls place = ask.SetModeSeen place 0o600 ∷ []

-- Rights that were lent were taken away: a look told a file that lends rights, and they were taken from it; or it told what lends
-- none, which stays as it is. Where owners aren't told, set-id bits aren't either, and nothing is done.
abbrev pub HasLowered : Bool → List ℕ → List SystemCall → Type 0
HasLowered owners place made =
    ((owners ≡ false) × (made ≡ []))
    ⊎ LooksAt LendsNothing place [] made
    ⊎ ((looked : List SystemCall) × LooksAt LendsRights place [] looked × (made ≡ lowering_calls place ++ looked))

-- what is done is done, what failed and what was declined left this, and where memory was refused nothing was changed
abbrev pub IsAnsweredBy : {T : Type 0} → (done failed declined : List SystemCall → Type 0) → List SystemCall → Result T HostFault → Type 0
IsAnsweredBy done failed declined made (Ok x) = done made
IsAnsweredBy done failed declined made (Err Device) = failed made
IsAnsweredBy done failed declined made (Err NoMemory) = changes_in made ≡ []
IsAnsweredBy done failed declined made (Err Declined) = declined made

-- no more than the first of some changes were made
abbrev pub IsBegun : (List SystemCall → Type 0) → List SystemCall → Type 0
IsBegun changing made = (later : List SystemCall) × changing (later ++ changes_in made)

-- some changes were all asked for
abbrev pub IsAsked : (List SystemCall → Type 0) → List SystemCall → Type 0
IsAsked changing made = changing (changes_in made)

-- of some changes the first and maybe more were made, and then this was made to take that away
abbrev pub IsTakenAway : (first : SystemCall) → (undone changes made : List SystemCall) → Type 0
IsTakenAway first undone changes made =
    (later more : List SystemCall) × (changes ≡ later ++ more ++ first ∷ []) × (changes_in made ≡ undone ++ (more ++ first ∷ []))

-- Something is made by these changes, the first of them makes it, and the last of these calls takes it away. Where that fails too
-- the device has failed.
module _ (first undo : SystemCall) (changes : List SystemCall) where
  abbrev pub IsUnmade : List SystemCall → Type 0
  IsUnmade made = IsBegun (λ all. all ≡ changes) made ⊎ IsTakenAway first (undo ∷ []) changes made

  -- declined at once, or taken away and gone
  abbrev pub IsNotMade : List SystemCall → Type 0
  IsNotMade made = (changes_in made ≡ first ∷ []) ⊎ IsTakenAway first (ask.Gone ∷ undo ∷ []) changes made

  abbrev pub IsMakingBy : {T : Type 0} → List SystemCall → Result T HostFault → Type 0
  IsMakingBy made result = IsAnsweredBy (λ m. changes_in m ≡ changes) IsUnmade IsNotMade made result

-- a rename that was answered so
abbrev pub IsRenamedBy : {T : Type 0} → (from to : List ℕ) → List SystemCall → Result T HostFault → Type 0
IsRenamedBy from to made result = IsAnsweredBy (HasRenamed from to) (IsBegun (IsRenaming from to)) (IsAsked (IsRenaming from to)) made result

-- a sync that was answered so
abbrev pub IsSyncedBy : {T : Type 0} → List ℕ → List SystemCall → Result T HostFault → Type 0
IsSyncedBy place made result = IsAnsweredBy (HasSynced place) (IsBegun (λ all. all ≡ [])) (IsAsked (λ all. all ≡ [])) made result

-- taking rights away that was answered so
abbrev pub IsLoweredBy : {T : Type 0} → (owners : Bool) → (place : List ℕ) → List SystemCall → Result T HostFault → Type 0
IsLoweredBy owners place made result =
    IsAnsweredBy (HasLowered owners place) (IsBegun (λ all. all ≡ lowering_calls place)) (IsAsked (λ all. all ≡ lowering_calls place)) made result

-- the syncs of directories, one after another
abbrev pub sync_calls : List ℕ → List (String Global) → List SystemCall
sync_calls front directories = map (λ directory. ask.SyncDirectory (place_of front (string_bytes directory))) (reverse directories)

-- the syncs of the directories of the administration
abbrev pub administration_calls : List ℕ → List SystemCall
administration_calls front =
    ask.SyncDirectory (place_of front (codes "/var/lib/dpkg/updates"))
    ∷ ask.SyncDirectory (place_of front (codes "/var/lib/dpkg/info"))
    ∷ ask.SyncDirectory (place_of front (codes "/var/lib/dpkg")) ∷ []

-- all of every file system was brought to the disk; or each of these directories, those of the administration, and all that was met
-- below the root
abbrev pub IsRootBrought : List ℕ → List (String Global) → List SystemCall → Type 0
IsRootBrought front directories made =
    (made ≡ ask.SyncSystem ∷ []) ⊎ (Includes (administration_calls front ++ sync_calls front directories) made × IsWalked front made)

-- a file was synced by itself, or with all of the file system that it lies on
abbrev pub IsOnDisk : List ℕ → List SystemCall → Unsynced → Type 0
IsOnDisk front made file =
    Contains made (ask.SyncFile (place_of front file.path)) ⊎ ((place : List ℕ) × Contains made (ask.SyncDevice file.identity.device place))

abbrev pub AreOnDisk : List ℕ → List Unsynced → List SystemCall → Type 0
AreOnDisk front files made = All (IsOnDisk front made) files

-- the last call synced a file that was just written, unless it can be opened again
abbrev pub IsSyncedUnread : Bool → Access → List SystemCall → Type 0
IsSyncedUnread owners access made = is_readable owners access ≡ false → (before : List SystemCall) × (made ≡ ask.SyncMade ∷ before)

abbrev pub IsSyncedWhole : Bool → Node → List SystemCall → Type 0
IsSyncedWhole owners (File bytes access) made = IsSyncedUnread owners access made
IsSyncedWhole owners (Dir access) made = Unit {0}
IsSyncedWhole owners (Link target) made = Unit {0}

-- the directories of the names that a step changes are among these, which the next barrier syncs
abbrev pub IsRemembered : BTreeSet (String Global) → Asked → Type 0
IsRemembered directories (asked.Write p node) = HasDirectoryOf directories p
IsRemembered directories (asked.Move a b) = HasDirectoryOf directories a × HasDirectoryOf directories b
IsRemembered directories (asked.Take p) = HasDirectoryOf directories p
IsRemembered directories (asked.MakeDir p access) = HasDirectoryOf directories p
IsRemembered directories (asked.RemoveDir p) = HasDirectoryOf directories p
IsRemembered directories (asked.HardLink a b) = HasDirectoryOf directories b
IsRemembered directories (asked.MakeLink p target) = HasDirectoryOf directories p
IsRemembered directories (asked.Sync p) = Unit {0}
IsRemembered directories asked.Barrier = Unit {0}
IsRemembered directories asked.SyncAll = Unit {0}
IsRemembered directories asked.SyncRoot = Unit {0}
IsRemembered directories (asked.Lower p) = Unit {0}

-- something was seen at a place
abbrev pub IsLookedAt : List ℕ → List SystemCall → Type 0
IsLookedAt place made = (mode : ℕ) × ((later before : List SystemCall) × (made ≡ later ++ ask.Look place (Some mode) ∷ before))

-- what a step moves or brings to the disk was seen before, or is the file that was written last
abbrev pub IsSure : List ℕ → List Noted → Asked → List SystemCall → Type 0
IsSure front earlier (asked.Write p node) made = Unit {0}
IsSure front earlier (asked.Move a b) made = IsLookedAt (place_of front a) made ⊎ ∥ IsNew a earlier ∥₁
IsSure front earlier (asked.Take p) made = Unit {0}
IsSure front earlier (asked.MakeDir p access) made = Unit {0}
IsSure front earlier (asked.RemoveDir p) made = Unit {0}
IsSure front earlier (asked.HardLink a b) made = Unit {0}
IsSure front earlier (asked.MakeLink p target) made = Unit {0}
IsSure front earlier (asked.Sync p) made = IsLookedAt (place_of front p) made ⊎ ∥ IsNew p earlier ∥₁
IsSure front earlier asked.Barrier made = Unit {0}
IsSure front earlier asked.SyncAll made = Unit {0}
IsSure front earlier asked.SyncRoot made = Unit {0}
IsSure front earlier (asked.Lower p) made = Unit {0}

-- what stands at a place was taken away from the directory that holds it, which was open
abbrev pub IsTakenFrom : (taking : List ℕ → List ℕ → SystemCall) → (place : List ℕ) → List SystemCall → Type 0
IsTakenFrom taking place made = (directory name : List ℕ) × IsEntry place directory name × (made ≡ taking directory name ∷ [])

-- at most that was asked for
abbrev pub IsTaking : (taking : List ℕ → List ℕ → SystemCall) → (place : List ℕ) → List SystemCall → Type 0
IsTaking taking place made = (made ≡ []) ⊎ IsTakenFrom taking place made

module _ (front : List ℕ) (owners : Bool) where
  -- the changes of a step
  abbrev pub IsChanging : Asked → List SystemCall → Type 0
  IsChanging (asked.Write p (File bytes access)) made = (modified : Option Modified) × (made ≡ write_calls owners (place_of front p) bytes access modified)
  IsChanging (asked.Write p (Dir access)) made = ⊥
  IsChanging (asked.Write p (Link target)) made = ⊥
  IsChanging (asked.Move a b) made = IsRenaming (place_of front a) (place_of front b) made
  IsChanging (asked.Take p) made = IsTakenFrom ask.UnlinkAt (place_of front p) made
  IsChanging (asked.MakeDir p access) made = (seen : Access) × (made ≡ directory_calls owners (place_of front p) access seen)
  IsChanging (asked.RemoveDir p) made = IsTakenFrom ask.RemoveDirectoryAt (place_of front p) made
  IsChanging (asked.HardLink a b) made = made ≡ ask.Link (place_of front a) (place_of front b) ∷ []
  IsChanging (asked.MakeLink p target) made = made ≡ ask.MakeLink target (place_of front p) ∷ []
  IsChanging (asked.Sync p) made = made ≡ []
  IsChanging asked.Barrier made = made ≡ []
  IsChanging asked.SyncAll made = made ≡ []
  IsChanging asked.SyncRoot made = made ≡ []
  IsChanging (asked.Lower p) made = made ≡ lowering_calls (place_of front p)

  -- a step that was done
  abbrev pub IsDoneBy : Asked → List SystemCall → Type 0
  IsDoneBy (asked.Write p node) made = IsChanging (asked.Write p node) (changes_in made)
  IsDoneBy (asked.Move a b) made = HasRenamed (place_of front a) (place_of front b) made
  IsDoneBy (asked.Take p) made = IsChanging (asked.Take p) (changes_in made)
  IsDoneBy (asked.MakeDir p access) made = IsChanging (asked.MakeDir p access) (changes_in made)
  IsDoneBy (asked.RemoveDir p) made = IsChanging (asked.RemoveDir p) (changes_in made)
  IsDoneBy (asked.HardLink a b) made = IsChanging (asked.HardLink a b) (changes_in made)
  IsDoneBy (asked.MakeLink p target) made = IsChanging (asked.MakeLink p target) (changes_in made)
  IsDoneBy (asked.Sync p) made = HasSynced (place_of front p) made
  IsDoneBy asked.Barrier made = IsChanging asked.Barrier (changes_in made)
  IsDoneBy asked.SyncAll made = IsChanging asked.SyncAll (changes_in made)
  IsDoneBy asked.SyncRoot made = IsChanging asked.SyncRoot (changes_in made)
  IsDoneBy (asked.Lower p) made = HasLowered owners (place_of front p) made

  -- What is promised of the disk: a file that was written is listed, or else it was synced as it was written; when all that were
  -- written are brought there each that is listed is, at a barrier each of these directories, and when the root is they or all.
  abbrev pub IsBrought : BTreeSet (String Global) → List Unsynced → Asked → List SystemCall → Type 0
  IsBrought directories files (asked.Write p node) made = IsListed owners files p node × IsSyncedWhole owners node made
  IsBrought directories files (asked.Move a b) made = Unit {0}
  IsBrought directories files (asked.Take p) made = Unit {0}
  IsBrought directories files (asked.MakeDir p access) made = Unit {0}
  IsBrought directories files (asked.RemoveDir p) made = Unit {0}
  IsBrought directories files (asked.HardLink a b) made = Unit {0}
  IsBrought directories files (asked.MakeLink p target) made = Unit {0}
  IsBrought directories files (asked.Sync p) made = Unit {0}
  IsBrought directories files asked.Barrier made = made ≡ sync_calls front directories.keys
  IsBrought directories files asked.SyncAll made = AreOnDisk front files made
  IsBrought directories files asked.SyncRoot made = IsRootBrought front directories.keys made
  IsBrought directories files (asked.Lower p) made = Unit {0}

  -- a step that failed
  abbrev pub IsBegunBy : Asked → List SystemCall → Type 0
  IsBegunBy (asked.Write p (File bytes access)) made =
      (modified : Option Modified)
      × IsUnmade (ask.Create (place_of front p)) (ask.Unlink (place_of front p)) (write_calls owners (place_of front p) bytes access modified) made
  IsBegunBy (asked.Write p (Dir access)) made = ⊥
  IsBegunBy (asked.Write p (Link target)) made = ⊥
  IsBegunBy (asked.Move a b) made = IsBegun (IsChanging (asked.Move a b)) made
  IsBegunBy (asked.Take p) made = IsTaking ask.UnlinkAt (place_of front p) (changes_in made)
  IsBegunBy (asked.MakeDir p access) made =
      (seen : Access)
      × IsUnmade (first_call owners (place_of front p) access) (ask.RemoveDirectory (place_of front p)) (directory_calls owners (place_of front p) access seen) made
  IsBegunBy (asked.RemoveDir p) made = IsTaking ask.RemoveDirectoryAt (place_of front p) (changes_in made)
  IsBegunBy (asked.HardLink a b) made = IsBegun (IsChanging (asked.HardLink a b)) made
  IsBegunBy (asked.MakeLink p target) made = IsBegun (IsChanging (asked.MakeLink p target)) made
  IsBegunBy (asked.Sync p) made = IsBegun (IsChanging (asked.Sync p)) made
  IsBegunBy asked.Barrier made = IsBegun (IsChanging asked.Barrier) made
  IsBegunBy asked.SyncAll made = IsBegun (IsChanging asked.SyncAll) made
  IsBegunBy asked.SyncRoot made = IsBegun (IsChanging asked.SyncRoot) made
  IsBegunBy (asked.Lower p) made = IsBegun (IsChanging (asked.Lower p)) made

  -- a step that was declined; a barrier is never, and so isn't a sync of all of the root
  abbrev pub IsDeclinedBy : Asked → List SystemCall → Type 0
  IsDeclinedBy (asked.Write p (File bytes access)) made =
      (modified : Option Modified)
      × IsNotMade (ask.Create (place_of front p)) (ask.Unlink (place_of front p)) (write_calls owners (place_of front p) bytes access modified) made
  IsDeclinedBy (asked.Write p (Dir access)) made = ⊥
  IsDeclinedBy (asked.Write p (Link target)) made = ⊥
  IsDeclinedBy (asked.Move a b) made = IsAsked (IsChanging (asked.Move a b)) made
  IsDeclinedBy (asked.Take p) made = IsTaking ask.UnlinkAt (place_of front p) (changes_in made)
  IsDeclinedBy (asked.MakeDir p access) made =
      (seen : Access)
      × IsNotMade (first_call owners (place_of front p) access) (ask.RemoveDirectory (place_of front p)) (directory_calls owners (place_of front p) access seen) made
  IsDeclinedBy (asked.RemoveDir p) made = IsTaking ask.RemoveDirectoryAt (place_of front p) (changes_in made)
  IsDeclinedBy (asked.HardLink a b) made = IsAsked (IsChanging (asked.HardLink a b)) made
  IsDeclinedBy (asked.MakeLink p target) made = IsAsked (IsChanging (asked.MakeLink p target)) made
  IsDeclinedBy (asked.Sync p) made = IsAsked (IsChanging (asked.Sync p)) made
  IsDeclinedBy asked.Barrier made = ⊥
  IsDeclinedBy asked.SyncAll made = IsAsked (IsChanging asked.SyncAll) made
  IsDeclinedBy asked.SyncRoot made = ⊥
  IsDeclinedBy (asked.Lower p) made = IsAsked (IsChanging (asked.Lower p)) made

  -- a step that was answered so
  abbrev pub IsStepBy : {T : Type 0} → Asked → List SystemCall → Result T HostFault → Type 0
  IsStepBy a made result = IsAnsweredBy (IsDoneBy a) (IsBegunBy a) (IsDeclinedBy a) made result

  -- nothing stands at a path, as the last look tells: it told nothing there, or that what stands above it is no directory
  abbrev pub IsAbsentBy : Path → List SystemCall → Type 0
  IsAbsentBy p made =
      ((before : List SystemCall) × (changes_in before ≡ []) × Looks (place_of front p) None before made) ⊎ IsCutOff front p made

  -- the kind that the last look told
  abbrev pub IsSeenBy : Path → Option Kind → List SystemCall → Type 0
  IsSeenBy p (Some kind) made = (before : List SystemCall) × (changes_in before ≡ []) × LooksAt (λ found. IsKindOf found kind) (place_of front p) before made
  IsSeenBy p None made = IsAbsentBy p made

  -- the node of which the last look told
  abbrev pub IsReadBy : Path → Option Node → List SystemCall → Type 0
  IsReadBy p (Some node) made = (before : List SystemCall) × (changes_in before ≡ []) × LooksAt (λ found. IsNodeOf owners found node) (place_of front p) before made
  IsReadBy p None made = IsAbsentBy p made

-- the device failed, and no end is known; or memory was wanting, and no start was made
abbrev pub IsNotBegun : Command Global → List SystemCall → List SystemCall → HostFault → Type 0
IsNotBegun c old new Device = new ≡ start_call c ∷ old
IsNotBegun c old new NoMemory = new ≡ old
IsNotBegun c old new Declined = ⊥

-- a command was started, and ended so, or couldn't be started
abbrev pub Starts : Command Global → List SystemCall → List SystemCall → Result Outcome HostFault → Type 0
Starts c old new (Ok outcome) =
    ((code : Option ℤ) × (new ≡ ask.End code ∷ start_call c ∷ old) × (outcome ≡ outcome_of code))
    ⊎ ((new ≡ start_call c ∷ old) × (outcome ≡ NotStarted))
Starts c old new (Err fault) = IsNotBegun c old new fault

-- the start of a call's script, in the root
abbrev pub script_call : List ℕ → List ℕ → Call → SystemCall
script_call directory front call = ask.Start (place_in directory front call.at) call.args (Some directory)

-- it was started
abbrev pub IsStarted : List ℕ → List ℕ → Call → List SystemCall → Type 0
IsStarted directory front call made = changes_in made ≡ script_call directory front call ∷ []

-- it was tried at most
abbrev pub IsTried : List ℕ → List ℕ → Call → List SystemCall → Type 0
IsTried directory front call made = (changes_in made ≡ []) ⊎ IsStarted directory front call made

-- it was started, and ended so
abbrev pub HasEnded : List ℕ → List ℕ → Call → Outcome → List SystemCall → Type 0
HasEnded directory front call outcome made = (code : Option ℤ) × (changes_in made ≡ ask.End code ∷ script_call directory front call ∷ []) × (outcome ≡ outcome_of code)

-- a script call that ended so
abbrev pub IsEndedBy : List ℕ → List ℕ → Call → Outcome → List SystemCall → Type 0
IsEndedBy directory front call outcome made = HasEnded directory front call outcome made ⊎ ((outcome ≡ NotStarted) × IsTried directory front call made)

-- a script call that was answered so
abbrev pub IsRunBy : List ℕ → List ℕ → Call → List SystemCall → Result Outcome HostFault → Type 0
IsRunBy directory front call made (Ok outcome) = IsEndedBy directory front call outcome made
IsRunBy directory front call made (Err Device) = IsTried directory front call made
IsRunBy directory front call made (Err NoMemory) = changes_in made ≡ []
IsRunBy directory front call made (Err Declined) = ⊥

-- the system wasn't asked what stands at a path: it is below one that is vacant after these calls
abbrev pub IsLackingBy : (earlier : List Noted) → Path → List SystemCall → Type 0
IsLackingBy earlier p made = (made ≡ []) × ∥ IsBelowVacant p earlier ∥₁

-- what stands behind a note that comes after these
abbrev pub IsShownBy : List ℕ → List ℕ → Bool → (earlier : List Noted) → Noted → List SystemCall → Type 0
IsShownBy directory front owners earlier (was.Looked p node) made = IsReadBy front owners p node made ⊎ ((node ≡ None) × IsLackingBy earlier p made)
IsShownBy directory front owners earlier (was.Seen p kind) made = IsSeenBy front owners p kind made ⊎ ((kind ≡ None) × IsLackingBy earlier p made)
IsShownBy directory front owners earlier (was.Listed p listing) made = changes_in made ≡ []
IsShownBy directory front owners earlier (was.Compared one other same) made = changes_in made ≡ []
IsShownBy directory front owners earlier (was.Done a) made = IsDoneBy front owners a made
IsShownBy directory front owners earlier (was.Undone a) made = IsBegunBy front owners a made
IsShownBy directory front owners earlier (was.Declined a) made = IsDeclinedBy front owners a made
IsShownBy directory front owners earlier (was.Ended call kept outcome) made = IsEndedBy directory front call outcome made
IsShownBy directory front owners earlier (was.Broke call kept) made = IsTried directory front call made
IsShownBy directory front owners earlier was.Missed made = changes_in made ≡ []
