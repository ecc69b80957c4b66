-- What parts need of the records, the lists and the world in which they are done.
use Rattle.std.specs.Prelude.{◌≡◌, ◌≢◌, ℕ, Bool, true, false, List, [], ◌∷◌, is_some}
use Rattle.std.specs.List.{All, AllByRecursion, AllPairs}
use Rattle.host_core.specs.World.{World}
use Rattle.conffiles.specs.Settling.{CanSettle}
use Rattle.file_lists.specs.Owners.{AreListPaths, paths_of}
use Rattle.file_lists.specs.declared.paths.PackageList.{PackageList}
use Rattle.status_records.specs.Records.{record_in}
use Rattle.status_records.specs.Words.{is_not_installed}
use Rattle.status_records.specs.declared.record.Record.{Record}
use Rattle.listed_files.specs.Closing.{SparesAdministration}
use Rattle.listed_files.specs.Concluding.{AreElsewhere}
use Rattle.unit_stages.specs.Parts.{part_lists, part_records}
use Rattle.unit_stages.specs.declared.part.Part.{Part}
use Rattle.unit_stages.specs.declared.part.Part.TheVariants.{Note, Forget, Settle, Remove, RemoveDirectories, Clear, List as Listing, DropList, DropMembers}

-- a note of a package that has a record already
pub record IsNotable (name : List ℕ) (r : Record) (rs : List Record) : Type 0 where
  pub own : r.name ≡ name
  pub stands : is_not_installed r.state ≡ false
  pub known : is_some (record_in rs name) ≡ true

-- the list of a package that has a record
pub record IsListing (name : List ℕ) (paths : List (List ℕ)) (rs : List Record) : Type 0 where
  pub listable : AreListPaths paths
  pub known : is_some (record_in rs name) ≡ true

module _ (name : List ℕ) where
  -- what a part needs of the records and the lists: a record or a list's file goes only where the package lists nothing
  abbrev pub IsFit : Part → List Record → List PackageList → Type 0
  IsFit (Note r) rs ls = IsNotable name r rs
  IsFit Forget rs ls = paths_of ls name ≡ []
  IsFit (Settle settled) rs ls = AllPairs (λ e f. e.path ≢ f.path) settled.items
  IsFit (Remove leaving) rs ls = SparesAdministration leaving.items
  IsFit (RemoveDirectories leaving) rs ls = SparesAdministration leaving.items
  IsFit (Clear names) rs ls = AreElsewhere names.items
  IsFit (Listing paths) rs ls = IsListing name paths rs
  IsFit DropList rs ls = paths_of ls name ≡ []
  IsFit (DropMembers keep_postrm) rs ls = Unit {0}

  -- each at its turn
  abbrev pub AreFit : List Part → List Record → List PackageList → Type 0
  AreFit [] rs ls = Unit {0}
  AreFit (part ∷ parts) rs ls = IsFit part rs ls × AreFit parts (part_records name part rs) (part_lists name part ls)

-- conffiles are settled
abbrev pub is_settling : Part → Bool
is_settling (Note r) = false
is_settling Forget = false
is_settling (Settle settled) = true
is_settling (Remove leaving) = false
is_settling (RemoveDirectories leaving) = false
is_settling (Clear names) = false
is_settling (Listing paths) = false
is_settling DropList = false
is_settling (DropMembers keep_postrm) = false

abbrev pub HaveNoSettle : List Part → Type 0
HaveNoSettle parts = AllByRecursion (λ part. is_settling part ≡ false) parts

-- Conffiles are settled at most once; they can be in this world, and before it only the administration is changed.
abbrev pub AreSettleable : List Part → World → Type 0
AreSettleable [] w = Unit {0}
AreSettleable (Note r ∷ parts) w = AreSettleable parts w
AreSettleable (Forget ∷ parts) w = AreSettleable parts w
AreSettleable (Settle settled ∷ parts) w = All (λ e. CanSettle e.path w) settled.items × HaveNoSettle parts
AreSettleable (Remove leaving ∷ parts) w = HaveNoSettle parts
AreSettleable (RemoveDirectories leaving ∷ parts) w = HaveNoSettle parts
AreSettleable (Clear names ∷ parts) w = HaveNoSettle parts
AreSettleable (Listing paths ∷ parts) w = AreSettleable parts w
AreSettleable (DropList ∷ parts) w = AreSettleable parts w
AreSettleable (DropMembers keep_postrm ∷ parts) w = AreSettleable parts w
