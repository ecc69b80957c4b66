-- How a record changes with what is done to its package (Policy 6.6 to 6.8).
use Rattle.std.specs.Prelude.{◌≡◌, ◌&&◌, ℕ, Bool, true, false, not, cond, List, Option, Some, None, is_some}
use Rattle.std.proofs.Common.{refl}
use Rattle.control_fields.specs.declared.field.Field.{Field}
use Rattle.status_records.specs.Configured.{last_configured}
use Rattle.status_records.specs.Recorded.{AreFieldsOf}
use Rattle.status_records.specs.Words.{is_installed}
use Rattle.status_records.specs.declared.entries.ConffileEntry.{ConffileEntry}
use Rattle.status_records.specs.declared.entries.PendingDigest.{PendingDigest}
use Rattle.status_records.specs.declared.record.Record.{Record}
use Rattle.status_records.specs.Triggers.{no_triggers, triggers_beside, left_may_stand}
use Rattle.status_records.specs.declared.words.Want.{Want}
use Rattle.status_records.specs.declared.words.Want.TheVariants as want
use Rattle.status_records.specs.declared.words.Flag.{Flag}
use Rattle.status_records.specs.declared.words.Flag.TheVariants as flag
use Rattle.status_records.specs.declared.words.State.{State}
use Rattle.status_records.specs.declared.words.State.TheVariants as state

-- an installed package has no version last configured beside its own
abbrev pub version_beside : Bool → Option (List ℕ) → Option (List ℕ)
version_beside installed last = cond installed None last

pub one_version : (installed awaits : Bool) (last : Option (List ℕ)) → (installed && not awaits) && is_some (version_beside installed last) ≡ false
one_version true true last = refl
one_version true false last = refl
one_version false awaits last = refl

-- With another flag and state: a package that leaves the state installed keeps its version as the one last configured, and has
-- no triggers to process.
abbrev pub standing_as : Flag → State → Record → Record
standing_as flag state r = record r {
  flag = flag;
  state = state;
  config_version = version_beside (is_installed state) (last_configured r);
  current = one_version (is_installed state) (is_some (triggers_beside state r.triggers).awaited) (last_configured r);
  triggers = triggers_beside state r.triggers;
  beside = left_may_stand state r.triggers;
}

-- something else is wanted of the package
abbrev pub wanting : Want → Record → Record
wanting want r = record r { want = want }

-- a removal has reached the package's files
abbrev pub removed : Record → Record
removed r = record r { removed_since = true }

-- configured: no removal has reached the files since
abbrev pub configured : Record → Record
configured r = record (standing_as flag.Ok state.Installed r) { removed_since = false }

-- with other conffiles
abbrev pub with_conffiles : List ConffileEntry → List PendingDigest → Record → Record
with_conffiles entries pending r = record r { conffiles = entries; pending = pending }

-- of an earlier record, where there is one
abbrev pub last_of : Option Record → Option (List ℕ)
last_of None = None
last_of (Some old) = last_configured old

abbrev pub removed_of : Option Record → Bool
removed_of None = false
removed_of (Some old) = old.removed_since

-- The record of an unpacked package, wanted installed: what an earlier record told of the last configuration stays. It has no
-- triggers: those that were there go. Its other fields are those of the control file, as dpkg records them.
pub record IsUnpackedOf (name version : List ℕ) (control : List Field) (old : Option Record) (entries : List ConffileEntry) (pending : List PendingDigest) (r : Record) : Type 0 where
  pub name_is : r.name ≡ name
  pub want_is : r.want ≡ want.Install
  pub flag_is : r.flag ≡ flag.Ok
  pub state_is : r.state ≡ state.Unpacked
  pub version_is : r.version ≡ version
  pub config_is : r.config_version ≡ last_of old
  pub removed_is : r.removed_since ≡ removed_of old
  pub conffiles_are : r.conffiles ≡ entries
  pub pending_are : r.pending ≡ pending
  pub triggers_are : r.triggers ≡ no_triggers
  pub fields_are : AreFieldsOf control r.fields
