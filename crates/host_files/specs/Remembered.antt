-- What the calls so far tell of the root that isn't looked at again.
use Rattle.std.specs.Prelude.{◌≡◌, ◌≢◌, ◌⊎◌, List, [], ◌∷◌, None, Some, IsSome}
use Rattle.host_core.specs.Paths.{Path}
use Rattle.host_core.specs.Tree.{IsBelow}
use Rattle.host_core.specs.World.{IsDirectory}
use Rattle.host_core.specs.declared.node.Kind.TheVariants as kind
use Rattle.host_files.specs.declared.record.Asked.{Asked}
use Rattle.host_files.specs.declared.record.Asked.TheVariants as asked
use Rattle.host_files.specs.declared.record.Noted.{Noted}
use Rattle.host_files.specs.declared.record.Noted.TheVariants as was

-- A directory is known by a step: it is above what was made or is that, or it was known before and isn't what the step names.
abbrev pub IsKnownByStep : Path → Asked → Type 0 → Type 0
IsKnownByStep d (asked.Write p node) before = IsBelow d p ⊎ ((p ≢ d) × before)
IsKnownByStep d (asked.Move a b) before = (a ≢ d) × (b ≢ d) × before
IsKnownByStep d (asked.Take p) before = (p ≢ d) × before
IsKnownByStep d (asked.MakeDir p access) before = (d ≡ p) ⊎ ((p ≢ d) × before)
IsKnownByStep d (asked.RemoveDir p) before = (p ≢ d) × before
IsKnownByStep d (asked.HardLink a b) before = (b ≢ d) × before
IsKnownByStep d (asked.MakeLink p target) before = (p ≢ d) × before
IsKnownByStep d (asked.Sync p) before = before
IsKnownByStep d asked.Barrier before = before
IsKnownByStep d asked.SyncAll before = before
IsKnownByStep d asked.SyncRoot before = before
IsKnownByStep d (asked.Lower p) before = before

-- It is known by a call: it was seen, or something below it, or it was known before. After a script, a fault and a step that was declined nothing is.
abbrev pub IsKnownBy : Path → Noted → Type 0 → Type 0
IsKnownBy d (was.Looked p found) before = (IsSome found × (IsBelow d p ⊎ ((d ≡ p) × IsDirectory found))) ⊎ before
IsKnownBy d (was.Seen p found) before = (IsSome found × (IsBelow d p ⊎ ((d ≡ p) × (found ≡ Some kind.Directory)))) ⊎ before
IsKnownBy d (was.Listed p listing) before = before
IsKnownBy d (was.Compared one other same) before = before
IsKnownBy d (was.Done a) before = IsKnownByStep d a before
IsKnownBy d (was.Undone a) before = ⊥
IsKnownBy d (was.Declined a) before = ⊥
IsKnownBy d (was.Ended call kept outcome) before = ⊥
IsKnownBy d (was.Broke call kept) before = ⊥
IsKnownBy d was.Missed before = ⊥

-- a directory is known after these calls, the newest of which comes first
abbrev pub IsKnown : Path → List Noted → Type 0
IsKnown d [] = ⊥
IsKnown d (n ∷ earlier) = IsKnownBy d n (IsKnown d earlier)

-- A file is new by a step: it was written, or it was new before, and the step writes no other and doesn't name it.
abbrev pub IsNewByStep : Path → Asked → Type 0 → Type 0
IsNewByStep f (asked.Write p node) before = f ≡ p
IsNewByStep f (asked.Move a b) before = (a ≢ f) × (b ≢ f) × before
IsNewByStep f (asked.Take p) before = (p ≢ f) × before
IsNewByStep f (asked.MakeDir p access) before = (p ≢ f) × before
IsNewByStep f (asked.RemoveDir p) before = (p ≢ f) × before
IsNewByStep f (asked.HardLink a b) before = (a ≢ f) × (b ≢ f) × before
IsNewByStep f (asked.MakeLink p target) before = (p ≢ f) × before
IsNewByStep f (asked.Sync p) before = before
IsNewByStep f asked.Barrier before = before
IsNewByStep f asked.SyncAll before = before
IsNewByStep f asked.SyncRoot before = before
IsNewByStep f (asked.Lower p) before = before

-- It is new by a call. After a script, a fault and a step that was declined none is.
abbrev pub IsNewBy : Path → Noted → Type 0 → Type 0
IsNewBy f (was.Looked p found) before = before
IsNewBy f (was.Seen p found) before = before
IsNewBy f (was.Listed p listing) before = before
IsNewBy f (was.Compared one other same) before = before
IsNewBy f (was.Done a) before = IsNewByStep f a before
IsNewBy f (was.Undone a) before = ⊥
IsNewBy f (was.Declined a) before = ⊥
IsNewBy f (was.Ended call kept outcome) before = ⊥
IsNewBy f (was.Broke call kept) before = ⊥
IsNewBy f was.Missed before = ⊥

-- the file at a path is the one that was written last, and has no other name, after these calls
abbrev pub IsNew : Path → List Noted → Type 0
IsNew f [] = ⊥
IsNew f (n ∷ earlier) = IsNewBy f n (IsNew f earlier)

-- neither path is the other, or goes on below it
abbrev pub IsApart : Path → Path → Type 0
IsApart v p = (v ≢ p) × (IsBelow v p → ⊥) × (IsBelow p v → ⊥)

-- a path isn't another, and doesn't go on below it
abbrev pub IsOutside : (top p : Path) → Type 0
IsOutside top p = (top ≢ p) × (IsBelow top p → ⊥)

-- A path is vacant by a step: it was before, and the step names none at it, above it or below it.
abbrev pub IsVacantByStep : Path → Asked → Type 0 → Type 0
IsVacantByStep v (asked.Write p node) before = IsApart v p × before
IsVacantByStep v (asked.Move a b) before = IsApart v a × IsApart v b × before
IsVacantByStep v (asked.Take p) before = IsApart v p × before
IsVacantByStep v (asked.MakeDir p access) before = IsApart v p × before
IsVacantByStep v (asked.RemoveDir p) before = IsApart v p × before
IsVacantByStep v (asked.HardLink a b) before = IsApart v a × IsApart v b × before
IsVacantByStep v (asked.MakeLink p target) before = IsApart v p × before
IsVacantByStep v (asked.Sync p) before = IsApart v p × before
IsVacantByStep v asked.Barrier before = before
IsVacantByStep v asked.SyncAll before = before
IsVacantByStep v asked.SyncRoot before = before
IsVacantByStep v (asked.Lower p) before = IsApart v p × before

-- It is vacant by a call: nothing was seen there; or it was vacant before, nothing was seen at it or below it, and its names weren't
-- asked for. After a script, a fault and a step that was declined none is.
abbrev pub IsVacantBy : Path → Noted → Type 0 → Type 0
IsVacantBy v (was.Looked p found) before = ((found ≡ None) × ((v ≡ p) ⊎ before)) ⊎ (IsOutside v p × before)
IsVacantBy v (was.Seen p found) before = ((found ≡ None) × ((v ≡ p) ⊎ before)) ⊎ (IsOutside v p × before)
IsVacantBy v (was.Listed p listing) before = (v ≢ p) × before
IsVacantBy v (was.Compared one other same) before = before
IsVacantBy v (was.Done a) before = IsVacantByStep v a before
IsVacantBy v (was.Undone a) before = ⊥
IsVacantBy v (was.Declined a) before = ⊥
IsVacantBy v (was.Ended call kept outcome) before = ⊥
IsVacantBy v (was.Broke call kept) before = ⊥
IsVacantBy v was.Missed before = ⊥

-- nothing stands at a path, as a look told, after these calls
abbrev pub IsVacant : Path → List Noted → Type 0
IsVacant v [] = ⊥
IsVacant v (n ∷ earlier) = IsVacantBy v n (IsVacant v earlier)

-- a path above this one is vacant after these calls
abbrev pub IsBelowVacant : Path → List Noted → Type 0
IsBelowVacant p notes = (v : Path) × IsBelow v p × IsVacant v notes
