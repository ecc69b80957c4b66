-- A directory that is listed over a host below.
use Rattle.std.proofs.Common.{◌≡◌, ◌∙◌, ◌++◌, List, Result, Ok, Err, sym, ap, subst}
use Rattle.std.specs.Prelude.{IsTrue, IfOk}
use Rattle.host_core.specs.Events.{Event}
use Rattle.host_core.specs.Host.{State, Counts}
use Rattle.host_core.specs.Looks.{Looks}
use Rattle.host_core.specs.Paths.{Path}
use Rattle.host_core.specs.Tree.{IsListing}
use Rattle.host_core.specs.World.{World}
use Rattle.host_core.specs.declared.fault.HostFault.{HostFault}
use Rattle.host_core.specs.declared.listing.Listing.{Listing}
use Rattle.host_overlay.specs.Layers.{failures_of}
use Rattle.host_overlay.specs.Standings.{Changed, overlaid, AreThere}
use Rattle.host_overlay.proofs.Sound.{Sound, over, over_world, looked_over}
use Rattle.host_overlay.proofs.Telling.{Makes}

-- the listing is that of the directory
abbrev pub Lists : Path → Listing → World → Type 0
Lists path listing w = IsListing w path listing.names listing.bad

module _ (begun a b : State) (m n : Changed) (es new : List Event) (sound : Sound begun a m es) (makes : Makes m es) (path : Path) (r : Result Listing HostFault) (events : new ≡ es ++ failures_of r) (changes : n ≡ m) (looks : Looks r (Lists path) a b) where
  base : Looks r (λ listing w. Unit {0}) (over begun a es) (over begun b new)
  base = looked_over begun a b m es new sound makes r events (Lists path) (λ listing w. Unit {0}) (λ x h p. tt) looks

  there : IsTrue a.honest → AreThere n a.world
  there h = subst (λ (x : Changed). AreThere x a.world) (sym changes) (subst (λ (w : World). AreThere m w) (sym sound.world) (sound.there h))

  pub listing_looks : (below told : Listing) → r ≡ Ok below → ((w : World) → AreThere n w → Lists path below w → Lists path told (overlaid n w)) → Looks (Ok told) (Lists path) (over begun a es) (over begun b new)
  listing_looks below told is goes = record {
    found = λ h. subst (λ (w : World). Lists path told w) (ap (λ (x : Changed). overlaid x a.world) changes ∙ over_world begun a b m es new sound makes r events)
        (goes a.world (there (looks.reads.honest h)) (subst (λ (x : Result Listing HostFault). IfOk x (λ y. Lists path y a.world)) is (looks.found h)));
    reads = base.reads;
    silent = base.silent;
    counts = subst (λ (x : Result Listing HostFault). Counts (over begun a es) (over begun b new) x) is base.counts;
  }

  pub listing_fails : (fault : HostFault) → r ≡ Err fault → Looks (Err fault) (Lists path) (over begun a es) (over begun b new)
  listing_fails fault is = record {
    found = λ h. tt;
    reads = base.reads;
    silent = base.silent;
    counts = subst (λ (x : Result Listing HostFault). Counts (over begun a es) (over begun b new) x) is base.counts;
  }
