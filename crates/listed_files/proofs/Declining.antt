-- Of which steps a declined one is told.
use Rattle.std.proofs.Common.{◌<◌, Result, Ok, Err, inl, inr, arith}
use Rattle.host_core.specs.Paths.{Path}
use Rattle.host_core.specs.Host.{State, AtEachMoment, Counts, NoFault, denials}
use Rattle.package_files.specs.Steps.{DeclinesTwice}
use Rattle.host_core.specs.declared.fault.HostFault.{HostFault}
use Rattle.host_core.specs.declared.fault.HostFault.TheVariants.{Device, NoMemory, Declined}
use Rattle.host_core.specs.declared.node.Node.{Node}
use Rattle.host_core.proofs.Moments.{since_now}
use Rattle.administration.specs.Files.{IsReplacing}
use Rattle.listed_files.specs.Listing.{DeclinesListed}

module _ {T : Type 0} (list : Path) (union : Node) (result : Result T HostFault) where
  -- one of the list's, or the barrier behind it
  pub declined_early : (old new : State) → AtEachMoment (IsReplacing list union) old new → DeclinesListed list union result old new
  declined_early old new each = by result where
    by : (r : Result T HostFault) → DeclinesListed list union r old new
    by (Ok x) = tt
    by (Err Device) = tt
    by (Err NoMemory) = tt
    by (Err Declined) = inl (λ h. since_now (λ so_far. IsReplacing list union old.world) old new each h)

  -- one of the files'
  pub declined_files : (old mid new : State) → NoFault old mid → DeclinesTwice result mid new → DeclinesListed list union result old new
  declined_files old mid new first second = by result second where
    by : (r : Result T HostFault) → DeclinesTwice r mid new → DeclinesListed list union r old new
    by (Ok x) twice = tt
    by (Err Device) twice = tt
    by (Err NoMemory) twice = tt
    by (Err Declined) twice = inr (omega (arith, first.denials, twice))

  -- one behind that of a file
  pub declined_later : (old mid new : State) → denials old < denials mid → Counts mid new result → DeclinesListed list union result old new
  declined_later old mid new first second = by result second where
    by : (r : Result T HostFault) → Counts mid new r → DeclinesListed list union r old new
    by (Ok x) counts = tt
    by (Err Device) counts = tt
    by (Err NoMemory) counts = tt
    by (Err Declined) counts = inr (omega (arith, first, counts.denials))
