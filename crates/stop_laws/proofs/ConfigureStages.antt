-- The stages of configuring a package, by their deeds.
use Rattle.std.proofs.Common.{◌≡◌, ◌||◌, Bool, List, [], ◌∷◌, ◌++◌, map, refl, ap, ◌∙◌}
use Rattle.std.specs.List.{list_any}
use Rattle.host_core.specs.Paths.{Path}
use Rattle.conffiles.specs.Settling.{is_conffile_name, is_name_of_some}
use Rattle.conffiles.specs.declared.entries.Settled.{Settled}
use Rattle.status_records.specs.Standings.{configured}
use Rattle.status_records.specs.declared.record.Record.{Record}
use Rattle.unit_stages.specs.declared.part.Part.{Part}
use Rattle.unit_stages.specs.declared.part.Part.TheVariants.{Note, Forget, Settle, Remove, RemoveDirectories, Clear, List as Listing, DropList, DropMembers}
use Rattle.unit_stages.specs.declared.stage.Stage.{Stage}
use Rattle.undo_rows.specs.declared.rows.Row.{Row}
use Rattle.removal_engine.specs.Stages.{Deed, Planned, deed, planned}
use Rattle.configure_engine.specs.Decided.{decided_paths}
use Rattle.configure_engine.specs.Settled.{settled}
use Rattle.configure_engine.specs.Stages.{AreConfigureStages, AreFirstParts, SettlesThese, half, list_parts, listed_without}
use Rattle.configure_engine.specs.Waiting.{going_paths}
use Rattle.stop_laws.proofs.Moments.{All, AllIn}

-- what is noted behind the conffiles; before it the list is written, where a path goes
abbrev pub then_deeds : Record → List Path → List Path → List Deed
then_deeds r listed [] = Deed.Notes (half (settled r)) ∷ []
then_deeds r listed (q ∷ going) = Deed.Lists (listed_without (q ∷ going) listed) ∷ Deed.Notes (half (settled r)) ∷ []

abbrev pub settling_deeds : Record → List Path → List Settled → List Deed
settling_deeds r listed decisions = Deed.Settles decisions ∷ then_deeds r listed (going_paths r)

-- before the call
abbrev pub first_deeds : Record → List Path → List Settled → List Deed
first_deeds r listed [] = Deed.Notes (half r) ∷ []
first_deeds r listed (e ∷ es) = Deed.Notes (half r) ∷ settling_deeds r listed (e ∷ es)

abbrev pub stage_with : List Deed → Row → Planned
stage_with parts row = record { parts = parts; row = row; restore = [] }

-- behind it
abbrev pub last_deeds : Record → List Deed
last_deeds r = Deed.Notes (configured (settled r)) ∷ []

settles_deed : (list : List Settled) (part : Part) → SettlesThese list part → deed part ≡ Deed.Settles list
settles_deed list (Note r) is = absurd is
settles_deed list Forget is = absurd is
settles_deed list (Settle conffiles) is = ap (λ (l : List Settled). Deed.Settles l) is
settles_deed list (Remove leaving) is = absurd is
settles_deed list (RemoveDirectories leaving) is = absurd is
settles_deed list (Clear names) is = absurd is
settles_deed list (Listing paths) is = absurd is
settles_deed list DropList is = absurd is
settles_deed list (DropMembers keep_postrm) is = absurd is

list_deeds : (r : Record) (listed going : List Path) → map deed (list_parts going listed ++ Note (half (settled r)) ∷ []) ≡ then_deeds r listed going
list_deeds r listed [] = refl
list_deeds r listed (q ∷ going) = refl

parts_deeds : (r : Record) (listed : List Path) (decisions : List Settled) (parts : List Part) → AreFirstParts r listed decisions parts → map deed parts ≡ first_deeds r listed decisions
parts_deeds r listed [] parts is = ap (λ (l : List Part). map deed l) is
parts_deeds r listed (e ∷ es) parts is =
    ap (λ (l : List Part). map deed l) is.2
    ∙ ap (λ (d : Deed). Deed.Notes (half r) ∷ d ∷ map deed (list_parts (going_paths r) listed ++ Note (half (settled r)) ∷ [])) (settles_deed (e ∷ es) is.0 is.1)
    ∙ ap (λ (l : List Deed). Deed.Notes (half r) ∷ Deed.Settles (e ∷ es) ∷ l) (list_deeds r listed (going_paths r))

one_stage : (stage : Stage) (deeds : List Deed) → map deed stage.parts.items ≡ deeds → stage.restore.items ≡ [] → planned stage ≡ stage_with deeds stage.row
one_stage stage deeds parts none = λ i. record { parts = parts i; row = stage.row; restore = map deed (none i) }

pub stages_deeds : (r : Record) (listed : List Path) (decisions : List Settled) (stored : Bool) (stages : List Stage) (are : AreConfigureStages r listed decisions stored stages)
    → map planned stages ≡ stage_with (first_deeds r listed decisions) are.first.row ∷ stage_with (last_deeds r) are.second.row ∷ []
stages_deeds r listed decisions stored stages are =
    ap (λ (l : List Stage). map planned l) are.are
    ∙ (λ i.
    one_stage are.first (first_deeds r listed decisions) (parts_deeds r listed decisions are.first.parts.items are.parts) are.no_restore i
    ∷ one_stage are.second (last_deeds r) (ap (λ (l : List Part). map deed l) are.installs) are.no_restore_either i ∷ [])

-- P holds of each of these deeds
module _ (P : Deed → Type 0) (r : Record) (listed : List Path) where
  pub record OfSettling (decisions : List Settled) : Type 0 where
    pub settles : P (Deed.Settles decisions)
    pub lists : P (Deed.Lists (listed_without (going_paths r) listed))
    pub notes : P (Deed.Notes (half (settled r)))

  then_by : (going : List Path) → P (Deed.Lists (listed_without going listed)) → P (Deed.Notes (half (settled r))) → All P (then_deeds r listed going)
  then_by [] lists notes = (notes, tt)
  then_by (q ∷ going) lists notes = (lists, (notes, tt))

  pub then_all : P (Deed.Lists (listed_without (going_paths r) listed)) → P (Deed.Notes (half (settled r))) → All P (then_deeds r listed (going_paths r))
  then_all lists notes = then_by (going_paths r) lists notes

  pub settling_all : (decisions : List Settled) → OfSettling decisions → All P (settling_deeds r listed decisions)
  settling_all decisions of = (of.settles, then_all of.lists of.notes)

  pub first_all : (decisions : List Settled) → P (Deed.Notes (half r)) → OfSettling decisions → All P (first_deeds r listed decisions)
  first_all [] half_noted of = (half_noted, tt)
  first_all (e ∷ es) half_noted of = (half_noted, settling_all (e ∷ es) of)

  pub stages_all : (decisions : List Settled) (first second : Row) → P (Deed.Notes (half r)) → OfSettling decisions → P (Deed.Notes (configured (settled r))) → AllIn P (stage_with (first_deeds r listed decisions) first ∷ stage_with (last_deeds r) second ∷ [])
  stages_all decisions first second half_noted of installed = ((first_all decisions half_noted of, tt), (((installed, tt), tt), tt))

-- names of conffiles that are settled
pub names_of_decided : (decisions : List Settled) (q : Path) → is_name_of_some decisions q ≡ list_any (λ x. is_conffile_name x q) (decided_paths decisions)
names_of_decided [] q = refl
names_of_decided (e ∷ es) q = ap (λ b. is_conffile_name e.path q || b) (names_of_decided es q)
