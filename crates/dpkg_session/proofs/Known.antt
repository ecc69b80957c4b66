-- The records that a run of stages leaves: none is of a package that is gone, and each has the name of one of before.
use Rattle.std.proofs.Common.{◌≡◌, inl, inr, ℕ, zero, suc, Bool, true, false, not, cond, List, [], ◌∷◌, Option, Contains, filter, sym, subst, arith}
use Rattle.std.specs.List.{AllByRecursion}
use Rattle.std.specs.Str.{bytes_eq}
use Rattle.std.specs.Cmp.Lexicographic.{slice_cmp}
use Rattle.std.specs.Ordering.{is_lt, nat_cmp}
use Rattle.host_core.specs.Host.{State}
use Rattle.host_core.specs.declared.call.Call.{Call}
use Rattle.diversions.specs.Ways.{Ways}
use Rattle.status_records.specs.Records.{AreStanding, drop_record, place_record, put_record}
use Rattle.status_records.specs.Words.{is_not_installed}
use Rattle.status_records.specs.declared.record.Record.{Record}
use Rattle.unit_stages.specs.Parts.{part_records, parts_records}
use Rattle.unit_stages.specs.declared.part.Part.{Part}
use Rattle.unit_stages.specs.declared.part.Part.TheVariants.{Note, Forget, Settle, Remove, RemoveDirectories, Clear, List as Listing, DropList, DropMembers}
use Rattle.unit_stages.specs.Holding.{Holding, after_parts}
use Rattle.unit_stages.specs.Runs.{HasRestored, HaveRun}
use Rattle.unit_stages.specs.declared.stage.Stage.{Stage}
use Rattle.unpack_engine.proofs.EndRecords.{head_of, tail_of}
use Rattle.held_administration.specs.Order.{record_names}
use Rattle.undo_rows.specs.declared.rows.Called.{Called}
use Rattle.undo_rows.specs.declared.rows.Owner.{Owner}
use Rattle.dpkg_session.proofs.Keeping.{AreOwn, IsOwn}
use Rattle.dpkg_session.proofs.Staying.{AreOwnStages}

-- a record of a package that isn't gone, of one of these names
pub record IsOneOf (names : List (List ℕ)) (r : Record) : Type 0 where
  pub stands : is_not_installed r.state ≡ false
  pub named : Contains names r.name

-- what holds of all holds of those that are kept, and with another one

all_filter : (P : Record → Type 0) (keep : Record → Bool) (rs : List Record) → AllByRecursion P rs → AllByRecursion P (filter keep rs)
all_filter P keep [] all = tt
all_filter P keep (r ∷ rs) all = by (keep r) (all_filter P keep rs all.1)
  where
    by : (b : Bool) → AllByRecursion P (filter keep rs) → AllByRecursion P (cond b (r ∷ filter keep rs) (filter keep rs))
    by true rest = (all.0, rest)
    by false rest = rest

all_placed : (P : Record → Type 0) (r : Record) (rs : List Record) → P r → AllByRecursion P rs → AllByRecursion P (place_record r rs)
all_placed P r [] here all = (here, tt)
all_placed P r (x ∷ xs) here all = by (is_lt (slice_cmp nat_cmp x.name r.name)) (all_placed P r xs here all.1)
  where
    by : (b : Bool) → AllByRecursion P (place_record r xs) → AllByRecursion P (cond b (x ∷ place_record r xs) (r ∷ x ∷ xs))
    by true rest = (all.0, rest)
    by false rest = (here, all)

all_dropped : (P : Record → Type 0) (name : List ℕ) (rs : List Record) → AllByRecursion P rs → AllByRecursion P (drop_record name rs)
all_dropped P name rs all = all_filter P (λ r. not (bytes_eq r.name name)) rs all

pub all_put : (P : Record → Type 0) (r : Record) (rs : List Record) → P r → AllByRecursion P rs → AllByRecursion P (put_record r rs)
all_put P r rs here all = all_placed P r (drop_record r.name rs) here (all_dropped P r.name rs all)

-- all records are of their own names

more_named : (x : List ℕ) (xs : List (List ℕ)) (rs : List Record) → AllByRecursion (IsOneOf xs) rs → AllByRecursion (IsOneOf (x ∷ xs)) rs
more_named x xs [] all = tt
more_named x xs (r ∷ rs) all = (record { stands = all.0.stands; named = tail_of x xs r.name all.0.named }, more_named x xs rs all.1)

pub all_named : (rs : List Record) → AreStanding rs → AllByRecursion (IsOneOf (record_names rs)) rs
all_named [] all = tt
all_named (r ∷ rs) all = (record { stands = all.0; named = head_of r.name (record_names rs) }, more_named r.name (record_names rs) rs (all_named rs all.1))

pub named_standing : (names : List (List ℕ)) (rs : List Record) → AllByRecursion (IsOneOf names) rs → AreStanding rs
named_standing names [] all = tt
named_standing names (r ∷ rs) all = (all.0.stands, named_standing names rs all.1)

pub name_among : (names : List (List ℕ)) (rs : List Record) → AllByRecursion (IsOneOf names) rs → (q : List ℕ) → Contains (record_names rs) q → Contains names q
name_among names [] all q has = absurd (omega (arith, has.1))
name_among names (r ∷ rs) all q (zero, lt, e) = subst (Contains names) e all.0.named
name_among names (r ∷ rs) all q (suc k, lt, e) = name_among names rs all.1 q (k, omega (arith, lt), e)

module _ (names : List (List ℕ)) (name : List ℕ) (has : Contains names name) where
  part_named : (part : Part) (rs : List Record) → IsOwn name part → AllByRecursion (IsOneOf names) rs → AllByRecursion (IsOneOf names) (part_records name part rs)
  part_named (Note r) rs own all = all_put (IsOneOf names) r rs (record { stands = own.1; named = subst (Contains names) (sym own.0) has }) all
  part_named Forget rs own all = all_dropped (IsOneOf names) name rs all
  part_named (Settle settled) rs own all = all
  part_named (Remove leaving) rs own all = all
  part_named (RemoveDirectories leaving) rs own all = all
  part_named (Clear cleared) rs own all = all
  part_named (Listing paths) rs own all = all
  part_named DropList rs own all = all
  part_named (DropMembers keep_postrm) rs own all = all

  parts_named : (parts : List Part) (rs : List Record) → AreOwn name parts → AllByRecursion (IsOneOf names) rs → AllByRecursion (IsOneOf names) (parts_records name parts rs)
  parts_named [] rs own all = all
  parts_named (part ∷ parts) rs own all = parts_named parts (part_records name part rs) own.1 (part_named part rs own.0 all)

  module _ (ways : Ways) where
    restored_named : (owners : List Owner) (restore : List Part) (before after : Holding) (s t : State) → AreOwn name restore → HasRestored name ways owners restore before after s t
        → AllByRecursion (IsOneOf names) before.records → AllByRecursion (IsOneOf names) after.records
    restored_named owners restore before after s t fit (HasRestored.restored none does is) all =
        subst (λ (h : Holding). AllByRecursion (IsOneOf names) h.records) (sym is) (parts_named restore before.records fit all)
    restored_named owners restore before after s t fit (HasRestored.left some same is) all = subst (λ (h : Holding). AllByRecursion (IsOneOf names) h.records) (sym is) all

    pub stages_named : (stages : List Stage) (failed : Option Call) (before after : Holding) (s t : State) (told now : List Called) → AreOwnStages name stages
        → HaveRun name ways stages failed before after s t told now → AllByRecursion (IsOneOf names) before.records → AllByRecursion (IsOneOf names) after.records
    stages_named [] failed before after s t told now fit run all = subst (λ (h : Holding). AllByRecursion (IsOneOf names) h.records) (sym run.1) all
    stages_named (stage ∷ stages) failed before after s t told now fit (inl gone) all =
        stages_named stages failed (after_parts name stage.parts.items before) after gone.mid t gone.more now fit.1 gone.further (parts_named stage.parts.items before.records fit.0.parts all)
    stages_named (stage ∷ stages) failed before after s t told now fit (inr is) all =
        restored_named is.fell.undo.owners stage.restore.items (after_parts name stage.parts.items before) after is.fell.undo.undone t fit.0.restore is.fell.undo.restored (parts_named stage.parts.items before.records fit.0.parts all)
