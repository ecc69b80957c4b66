-- The records of the package beside an unpack (Policy 6.6): the one found, the one noted where none was, and the one noted last.
use Rattle.std.specs.Prelude.{◌≡◌, Bool, List, [], Option, Some, None, map}
use Rattle.std.specs.List.{list_any}
use Rattle.std.specs.Str.{bytes_eq}
use Rattle.host_core.specs.Paths.{Path}
use Rattle.package_tree.specs.ShipMap.{paths_of}
use Rattle.package_tree.specs.declared.package.Package.{Package}
use Rattle.package_tree.specs.declared.shipped.Shipped.{Shipped}
use Rattle.status_records.specs.Conffiles.{committed_entries}
use Rattle.status_records.specs.Standings.{IsUnpackedOf}
use Rattle.status_records.specs.declared.entries.ConffileEntry.{ConffileEntry}
use Rattle.status_records.specs.declared.entries.PendingDigest.{PendingDigest}
use Rattle.status_records.specs.declared.record.Record.{Record}
use Rattle.unpack_plan.specs.Digests.{shipped_digests, told_digest}
use Rattle.unpack_plan.specs.Yielded.{Yielding, counted_entries}

-- the conffiles that the record found has; none where the package has no record
abbrev pub entries_of : Option Record → List ConffileEntry
entries_of None = []
entries_of (Some r) = r.conffiles

-- its digests that aren't settled yet
abbrev pub pending_of : Option Record → List PendingDigest
pending_of None = []
pending_of (Some r) = r.pending

-- the package ships a path, as a conffile or as anything else
abbrev pub is_shipped : List Shipped → Path → Bool
is_shipped files path = list_any (bytes_eq path) (paths_of files)

-- the package as its tree tells of it: unpacked, wanted installed, without conffiles
abbrev pub IsIncoming : Package → Record → Type 0
IsIncoming p r = IsUnpackedOf p.name p.version p.control None [] [] r

-- The record of the unpacked package. The shipped digests aren't settled yet; the entries are those of before and of the shipped
-- conffiles (Policy 10.7.3), where of those that other packages yield their digests count as recorded (Policy 10.7.4).
pub record IsFresh (y : Yielding) (p : Package) (found : Option Record) (r : Record) : Type 0 where
  pub pending : map told_digest r.pending ≡ shipped_digests p.conffiles p.files
  pub is : IsUnpackedOf p.name p.version p.control found (committed_entries (counted_entries y (entries_of found) r.pending) r.pending p.flagged (is_shipped p.files)) r.pending r
