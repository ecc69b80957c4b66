-- The record of a package behind a removal or a purge (Policy 6.8).
use Rattle.std.specs.Prelude.{◌≡◌, ◌⊎◌, List, [], ◌∷◌, Option, Some, None}
use Rattle.host_core.specs.declared.call.Call.{Call}
use Rattle.status_records.specs.declared.record.Record.{Record}
use Rattle.removal_engine.specs.Stages.{Deed, Planned}

-- the package's record after a deed
abbrev pub left_by : Deed → Option Record → Option Record
left_by (Deed.Notes r) o = Some r
left_by Deed.Forgets o = None
left_by (Deed.Settles conffiles) o = o
left_by (Deed.Removes leaving) o = o
left_by (Deed.RemovesDirectories leaving) o = o
left_by (Deed.Clears names) o = o
left_by (Deed.Lists paths) o = o
left_by Deed.DropsList o = o
left_by (Deed.DropsMembers keep_postrm) o = o

abbrev pub left_by_all : List Deed → Option Record → Option Record
left_by_all [] o = o
left_by_all (d ∷ ds) o = left_by_all ds (left_by d o)

-- The call of a stage failed: what its deeds left, or what was restored then.
pub record FailsWith (p : Planned) (failed : Option Call) (before after : Option Record) : Type 0 where
  pub call : Call
  pub answer : failed ≡ Some call
  pub forward : p.row.forward ≡ Some call
  pub left : (after ≡ left_by_all p.parts before) ⊎ (after ≡ left_by_all p.restore (left_by_all p.parts before))

-- stages were run up to the one whose call failed, if one did: this record of the package is left
abbrev pub EndsWith : List Planned → Option Call → Option Record → Option Record → Type 0
EndsWith [] failed before after = (failed ≡ None) × (after ≡ before)
EndsWith (p ∷ ps) failed before after = EndsWith ps failed (left_by_all p.parts before) after ⊎ FailsWith p failed before after
