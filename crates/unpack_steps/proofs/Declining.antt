-- No declined step is told where one only looks.
use Rattle.std.proofs.Common.{◌≡◌, List, [], ◌∷◌, Result, Ok, Err, refl, ap, arith}
use Rattle.host_core.specs.Paths.{Path}
use Rattle.host_core.specs.Events.{Event, Did, Finished, Cut, Failed, Denied, denials_of}
use Rattle.host_core.specs.Host.{State, AllFailed, Counts, Reads, denials}
use Rattle.host_core.specs.declared.fault.HostFault.{HostFault}
use Rattle.host_core.specs.declared.fault.HostFault.TheVariants.{Device, NoMemory, Declined}
use Rattle.host_core.specs.declared.node.Node.{Node}
use Rattle.host_core.proofs.Counted.{denials_of-append}
use Rattle.listed_files.specs.Listing.{DeclinesListed}

failed_denials : (es : List Event) → AllFailed es → denials_of es ≡ 0
failed_denials [] all = refl
failed_denials (Did s ∷ es) all = absurd all
failed_denials (Finished ran ∷ es) all = absurd all
failed_denials (Cut call change ∷ es) all = absurd all
failed_denials (Failed ∷ es) all = failed_denials es all
failed_denials (Denied path ∷ es) all = absurd all

looked_denials : (a b : State) → Reads a b → denials b ≡ denials a
looked_denials a b reads = omega (arith, ap denials_of reads.events, denials_of-append a.events reads.added, failed_denials reads.added reads.failed)

module _ {T : Type 0} (list : Path) (union : Node) (result : Result T HostFault) where
  pub looked_only : (old new : State) → Reads old new → Counts old new result → DeclinesListed list union result old new
  looked_only old new reads counted = by result counted where
    by : (r : Result T HostFault) → Counts old new r → DeclinesListed list union r old new
    by (Ok x) counts = tt
    by (Err Device) counts = tt
    by (Err NoMemory) counts = tt
    by (Err Declined) counts = absurd (omega (arith, counts.denials, looked_denials old new reads))
