-- A unit before which the overrides were read is that of a package of the same paths, by one decision.
use Rattle.std.proofs.Common.{◌≡◌, ◌⊎◌, inl, inr, ℕ, Bool, List, Option, Some, None, Result, Ok, Err, refl}
use Rattle.host_core.specs.Events.{Event}
use Rattle.host_core.specs.Host.{State}
use Rattle.host_core.specs.Paths.{Path}
use Rattle.host_core.specs.World.{World}
use Rattle.package_tree.specs.ShipMap.{paths_of}
use Rattle.package_tree.specs.declared.package.Package.{Package}
use Rattle.stat_overrides.specs.Fitting.{overridden_paths}
use Rattle.stat_overrides.specs.Packages.{first_unknown, overridden}
use Rattle.stat_overrides.specs.declared.table.Overrides.{Overrides}
use Rattle.unit_reports.specs.Held.{Held}
use Rattle.unit_reports.specs.declared.refusal.Rule.TheVariants.{OverrideLine, OwnerUnknown}
use Rattle.unit_reports.specs.declared.report.Unit.{Unit as AUnit}
use Rattle.unpack_relations.specs.declared.checking.Checked.{Checked}
use Rattle.unpack_relations.specs.declared.checking.Checked.TheVariants.{Refused}
use Rattle.unpack_relations.specs.declared.options.UnpackOptions.{UnpackOptions}
use Rattle.dpkg_session.specs.Overriding.{taken_by, taken_with}
use Rattle.dpkg_session.specs.Run.{IsAmidBy, IsAmidOverridden, IsAmidTaken}
use Rattle.dpkg_session.specs.Units.{IsOverriddenUnit, IsTakenUnit, IsUnitBy}

-- the unit of a package that ships the same paths
pub record IsUnitOfAlike (p : Package) (before after : Held) (u : AUnit) (s t : State) : Type 0 where
  pub alike : Package
  pub decision : Checked
  pub paths : paths_of alike.files ≡ paths_of p.files
  pub unit : IsUnitBy alike decision before after u s t

unit_by : (auto : UnpackOptions) (o : Overrides) (p : Package) (found : Option Path) (before after : Held) (u : AUnit) (s t : State) → IsTakenUnit auto p.name (taken_by o p found) before after u s t → IsUnitOfAlike p before after u s t
unit_by auto o p (Some path) before after u s t is = record { alike = p; decision = Refused (OwnerUnknown path); paths = refl; unit = is }
unit_by auto o p None before after u s t (decision, decided, is) = record { alike = overridden o p; decision = decision; paths = overridden_paths o p.files; unit = is }

unit_with : (auto : UnpackOptions) (read : Result Overrides ℕ) (p : Package) (before after : Held) (u : AUnit) (s t : State) → IsTakenUnit auto p.name (taken_with read p) before after u s t → IsUnitOfAlike p before after u s t
unit_with auto (Err line) p before after u s t is = record { alike = p; decision = Refused (OverrideLine line); paths = refl; unit = is }
unit_with auto (Ok o) p before after u s t is = unit_by auto o p (first_unknown o p.files) before after u s t is

pub unit_alike : (auto : UnpackOptions) (p : Package) (before after : Held) (u : AUnit) (s t : State) → IsOverriddenUnit auto p before after u s t → IsUnitOfAlike p before after u s t
unit_alike auto p before after u s t (read, are, is) = unit_with auto read p before after u s t is

-- and at each moment
pub record IsAmidAlike (p : Package) (before : Held) (old : World) (so_far : List Event) (now : World) : Type 0 where
  pub alike : Package
  pub decision : Checked
  pub paths : paths_of alike.files ≡ paths_of p.files
  pub amid : IsAmidBy alike decision before old so_far now

-- nothing has changed yet
amid_still : (p : Package) (before : Held) (old : World) (so_far : List Event) (now : World) → now ≡ old → IsAmidAlike p before old so_far now
amid_still p before old so_far now same = record { alike = p; decision = Refused (OverrideLine 0); paths = refl; amid = same }

amid_by : (auto : UnpackOptions) (o : Overrides) (p : Package) (found : Option Path) (before : Held) (old : World) (so_far : List Event) (now : World) → IsAmidTaken auto (taken_by o p found) before old so_far now → IsAmidAlike p before old so_far now
amid_by auto o p (Some path) before old so_far now same = amid_still p before old so_far now same
amid_by auto o p None before old so_far now (inl still) = amid_still p before old so_far now still.0
amid_by auto o p None before old so_far now (inr (decision, decided, amid)) = record { alike = overridden o p; decision = decision; paths = overridden_paths o p.files; amid = amid }

amid_with : (auto : UnpackOptions) (read : Result Overrides ℕ) (p : Package) (before : Held) (old : World) (so_far : List Event) (now : World) → IsAmidTaken auto (taken_with read p) before old so_far now → IsAmidAlike p before old so_far now
amid_with auto (Err line) p before old so_far now same = amid_still p before old so_far now same
amid_with auto (Ok o) p before old so_far now amid = amid_by auto o p (first_unknown o p.files) before old so_far now amid

pub amid_alike : (auto : UnpackOptions) (p : Package) (before : Held) (old : World) (so_far : List Event) (now : World) → IsAmidOverridden auto p before old so_far now → IsAmidAlike p before old so_far now
amid_alike auto p before old so_far now (inl still) = amid_still p before old so_far now still.0
amid_alike auto p before old so_far now (inr (read, are, amid)) = amid_with auto read p before old so_far now amid
