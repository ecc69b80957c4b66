-- The records that the next opening finds, at each moment of stages.
use Rattle.std.proofs.Common.{◌≡◌, ◌≢◌, inl, inr, ℕ, List, [], ◌∷◌, Option, Some, None, sym, subst, ◌∙◌}
use Rattle.host_core.specs.Paths.{Path}
use Rattle.host_core.specs.World.{World, Change, changed}
use Rattle.status_db.specs.Held.{HasRecords}
use Rattle.status_records.specs.Records.{record_in}
use Rattle.status_records.specs.declared.record.Record.{Record}
use Rattle.removal_engine.specs.Stages.{Deed, Planned}
use Rattle.removal_engine.proofs.Deeds.{deed_records, deeds_records}
use Rattle.removal_engine.proofs.EndRecords.{IsOwn}
use Rattle.removal_engine.proofs.Tables.{drop_other, drop_own, put_other, put_own}
use Rattle.stop_laws.proofs.Moments.{All, AllIn, Amid, AmidStages, IsCalled, IsInside}

module _ (name : List ℕ) (first : List Record) (P : Option Record → Type 0) where
  -- what a deed notes of the package has P
  abbrev pub Notes : Deed → Type 0
  Notes (Deed.Notes r) = P (Some r)
  Notes Deed.Forgets = P None
  Notes (Deed.Settles conffiles) = Unit {0}
  Notes (Deed.Removes leaving) = Unit {0}
  Notes (Deed.RemovesDirectories leaving) = Unit {0}
  Notes (Deed.Clears names) = Unit {0}
  Notes (Deed.Lists paths) = Unit {0}
  Notes Deed.DropsList = Unit {0}
  Notes (Deed.DropsMembers keep_postrm) = Unit {0}

  -- and it is of the package
  abbrev pub NotesOwn : Deed → Type 0
  NotesOwn d = IsOwn name d × Notes d

  -- the package's record has P, and those of others are as before
  pub record IsGood (rs : List Record) : Type 0 where
    pub own : P (record_in rs name)
    pub others : (q : List ℕ) → q ≢ name → record_in rs q ≡ record_in first q

  -- and such records stand
  pub record StandGood (now : World) : Type 0 where
    pub table : List Record
    pub records : HasRecords now table
    pub good : IsGood table

  one_good : (d : Deed) (rs : List Record) → NotesOwn d → IsGood rs → IsGood (deed_records name d rs)
  one_good (Deed.Notes r) rs notes good = record { own = subst P (sym (put_own r rs name notes.0)) notes.1; others = λ q other. put_other r rs name q notes.0 other ∙ good.others q other }
  one_good Deed.Forgets rs notes good = record { own = subst P (sym (drop_own name rs)) notes.1; others = λ q other. drop_other name rs q other ∙ good.others q other }
  one_good (Deed.Settles conffiles) rs notes good = good
  one_good (Deed.Removes leaving) rs notes good = good
  one_good (Deed.RemovesDirectories leaving) rs notes good = good
  one_good (Deed.Clears names) rs notes good = good
  one_good (Deed.Lists paths) rs notes good = good
  one_good Deed.DropsList rs notes good = good
  one_good (Deed.DropsMembers keep_postrm) rs notes good = good

  pub all_good : (ds : List Deed) (rs : List Record) → All NotesOwn ds → IsGood rs → IsGood (deeds_records name ds rs)
  all_good [] rs notes good = good
  all_good (d ∷ ds) rs notes good = all_good ds (deed_records name d rs) notes.1 (one_good d rs notes.0 good)

  stand : (rs : List Record) (now : World) → HasRecords now rs → IsGood rs → StandGood now
  stand rs now has good = record { table = rs; records = has; good = good }

  pub amid_good : (declined : Path → Type 0) (ds : List Deed) (rs : List Record) (v w : World) → All NotesOwn ds → IsGood rs → Amid name declined ds rs v w → StandGood w
  amid_good declined [] rs v w notes good over = stand rs w over.records good
  amid_good declined (d ∷ ds) rs v w notes good (inl at) = elim at.records [
    | inl before ↦ stand rs w before good
    | inr after ↦ stand (deed_records name d rs) w after (one_good d rs notes.0 good)
  ]
  amid_good declined (d ∷ ds) rs v w notes good (inr behind) =
      amid_good declined ds (deed_records name d rs) behind.mid w notes.1 (one_good d rs notes.0 good) behind.further

  called_good : (declined : Path → Type 0) (restore : List Deed) (rs : List Record) (old : World) (change : Change) (now : World) → All NotesOwn restore → IsGood rs → IsCalled name declined restore rs old change now → StandGood now
  called_good declined restore rs old change now notes good (IsCalled.on_calls same has) = stand rs now has good
  called_good declined restore rs old change now notes good (IsCalled.on_restore called same amid) = amid_good declined restore rs called now notes good amid

  pub inside_good : (declined : Path → Type 0) (p : Planned) (rs : List Record) (old : World) (change : Change) (now : World) → All NotesOwn p.parts → All NotesOwn p.restore → IsGood rs → IsInside name declined p rs old change now → StandGood now
  inside_good declined p rs old change now notes notes_then good (IsInside.in_parts none amid) = amid_good declined p.parts rs old now notes good amid
  inside_good declined p rs old change now notes notes_then good (IsInside.in_calls ready done called) =
      called_good declined p.restore (deeds_records name p.parts rs) ready change now notes_then (all_good p.parts rs notes good) called

  pub stages_good : (declined : Path → Type 0) (ps : List Planned) (rs : List Record) (old : World) (change : Change) (now : World) → AllIn NotesOwn ps → IsGood rs → AmidStages name declined ps rs old change now → StandGood now
  stages_good declined [] rs old change now notes good is = stand rs now is.records good
  stages_good declined (p ∷ ps) rs old change now notes good (inl is) = stand rs now is.records good
  stages_good declined (p ∷ ps) rs old change now notes good (inr (inl inside)) = inside_good declined p rs old change now notes.0.0 notes.0.1 good inside
  stages_good declined (p ∷ ps) rs old change now notes good (inr (inr passed)) =
      stages_good declined ps (deeds_records name p.parts rs) (changed passed.early passed.ready) passed.late now notes.1 (all_good p.parts rs notes.0.0 good) passed.further
