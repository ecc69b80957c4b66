-- All that is met below a root is brought to the disk: its directories are listed, and what each name in them stands for is seen.
use Rattle.std.specs.Prelude.{◌≡◌, ◌⊎◌, ℕ, List, [], ◌∷◌, ◌++◌, Option, Some, None, Contains}
use Rattle.std.specs.Fs.{file_type, IsDir, IsFile}
use Rattle.std.specs.declared.fs.Metadata.{Metadata}
use Rattle.host_core.specs.Paths.{Path}
use Rattle.host_files.specs.Places.{place_of}
use Rattle.host_files.specs.SystemCalls.{look_call}
use Rattle.host_files.specs.declared.trace.SystemCall.{SystemCall}
use Rattle.host_files.specs.declared.trace.SystemCall.TheVariants as ask

-- each of these is one of those
abbrev pub Includes : {X : Type 0} → List X → List X → Type 0
Includes {X} some all = (x : X) → Contains some x → Contains all x

-- a list goes on behind its end
abbrev pub GoesOn : {X : Type 0} → List X → List X → Type 0
GoesOn {X} old new = (more : List X) × (new ≡ old ++ more)

module _ (front : List ℕ) where
  -- a file is synced; a directory is one of those that are walked through, unless it lies on another file system
  abbrev pub IsHandled : List SystemCall → List Path → Path → Option Metadata → Type 0
  IsHandled made walked path None = Unit {0}
  IsHandled made walked path (Some seen) =
      (IsFile (file_type seen) → Contains made (ask.SyncFile (place_of front path)))
      × (IsDir (file_type seen) → Contains made (ask.Apart (place_of front path)) ⊎ Contains walked path)

  -- a look told what stands at a path
  abbrev pub HasMet : List SystemCall → List Path → Path → Type 0
  HasMet made walked path = (seen : Option Metadata) × Contains made (look_call (place_of front path) seen) × IsHandled made walked path seen

  -- a directory told its names, and each of them was met
  abbrev pub HasListed : List SystemCall → List Path → Path → Type 0
  HasListed made walked path = (names : List (List ℕ)) × Contains made (ask.Names (place_of front path) names) × ((name : List ℕ) → Contains names name → HasMet made walked (path ++ 47 ∷ name))

  -- The directories that were walked through, the root's among them, were listed and synced.
  abbrev pub IsWalked : List SystemCall → Type 0
  IsWalked made = (walked : List Path) × Contains walked [] × ((path : Path) → Contains walked path → HasListed made walked path × Contains made (ask.SyncDirectory (place_of front path)))
