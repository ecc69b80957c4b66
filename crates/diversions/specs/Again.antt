-- A change that was stopped on its way, asked for again.
use Rattle.std.specs.Prelude.{◌≡◌, ◌⊎◌, List, Option, None}
use Rattle.host_core.specs.World.{World}
use Rattle.administration.specs.Files.{KeepsBesideFile}
use Rattle.administration.specs.Places.{diversions_path}
use Rattle.diversions.specs.Lines.{HasDiversions}
use Rattle.diversions.specs.declared.entry.Diversion.{Diversion}
use Rattle.diversions.specs.declared.refusal.Refusal.{Refusal}

-- the new table is there, and the files are as they were to be; or the old one is, and the same change isn't refused and leaves them so
abbrev pub IsFinishedAgain : List Diversion → (World → Option Refusal) → (World → World) → World → World → Type 0
IsFinishedAgain entries refusal change old now =
    (HasDiversions now entries × KeepsBesideFile diversions_path (change old) now)
    ⊎ ((now diversions_path ≡ old diversions_path) × (refusal now ≡ None) × KeepsBesideFile diversions_path (change old) (change now))
