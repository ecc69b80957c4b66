-- Where an unpack's files were written the check had found its paths sound: the row of the files succeeded, or a step of it was
-- declined.
use Rattle.std.proofs.Common.{◌≡◌, ◌≢◌, ◌||◌, ◌⊎◌, inl, inr, ℕ, zero, suc, Bool, true, false, cond, List, [], ◌∷◌, ◌++◌, Option, Some, None, IsTrue, Contains, length, map, not, is_some, take, refl, sym, ap, subst, ◌∙◌, arith}
use Rattle.std.proofs.lemmas.Bool.{true≢false}
use Rattle.std.proofs.lemmas.List.Elements.{Contains-append_right}
use Rattle.host_core.specs.Paths.{Path}
use Rattle.host_core.specs.World.{World, is_kept}
use Rattle.host_core.specs.Events.{Ran, changes_of}
use Rattle.host_core.specs.Host.{State, calls, finished}
use Rattle.undo_rows.specs.declared.rows.Row.{Row}
use Rattle.undo_rows.specs.declared.rows.Called.{Called}
use Rattle.undo_rows.specs.declared.rows.Owner.TheVariants.{Files as OfFiles}
use Rattle.undo_rows.specs.declared.fall.Fall.{Fall}
use Rattle.undo_rows.specs.declared.fall.StepFault.{StepFault}
use Rattle.undo_rows.specs.declared.fall.StepFault.TheVariants.{LinkParent, NoParent, DirInWay, Clash, DiversionTarget, Declined}
use Rattle.undo_rows.specs.declared.failed.Failed.{Failed}
use Rattle.undo_rows.specs.Place.{Back, is_declined}
use Rattle.undo_rows.specs.Telling.{HasRun}
use Rattle.undo_rows.specs.Transcript.{Goes, Succeed}
use Rattle.undo_rows.specs.Transcripts.{Ended, Committed, Unwound, IfHonest, Unwinds}
use Rattle.file_check.specs.Clashes.{owning}
use Rattle.file_check.specs.Sound.{AllSound}
use Rattle.status_records.specs.declared.record.Record.{Record}
use Rattle.unpack_rows.specs.declared.kinds.RowKind.{RowKind}
use Rattle.unpack_rows.specs.declared.kinds.RowKind.TheVariants.{Other, Postrm}
use Rattle.unpack_rows.specs.declared.rows.OtherPackage.{OtherPackage}
use Rattle.unpack_rows.specs.declared.rows.Present.{Present}
use Rattle.unpack_rows.specs.ForwardRows.{files_row, others_rows, postrm_row, preinst_row, prerm_row, records_of, rows_of}
use Rattle.unpack_rows.specs.Kinds.{first_kinds, has_prerm, is_upgrade, kinds_of, last_kinds, own_of, state_of}
use Rattle.unpack_rows.specs.Stages.{Stage, Unwritten, Wrote, Restored, failed_at, has_files, is_files, stage_of}
use Rattle.unpack_steps.specs.At.{HasFault, IsFileFault, IsStepFault}
use Rattle.unpack_steps.specs.Clearing.{HasCleared, IsBesideOwn}
use Rattle.unpack_steps.specs.Task.{Task, name}
use Rattle.kept_files.proofs.Trails.{IsHere, follows_leaves}

-- kinds and rows side by side: that of the files is of the files
abbrev pub AreBeside : List RowKind → List Row → Type 0
AreBeside [] rows = Unit {0}
AreBeside (k ∷ ks) [] = Unit {0}
AreBeside (k ∷ ks) (row ∷ rows) = (is_files k ≡ true → row.owner ≡ OfFiles) × AreBeside ks rows

none_is : false ≡ true → ⊥
none_is e = true≢false (sym e)

others_beside : (os : List OtherPackage) (ks : List RowKind) (rows : List Row) → AreBeside ks rows → AreBeside (map (λ r. Other r) (records_of os) ++ ks) (others_rows os ++ rows)
others_beside [] ks rows rest = rest
others_beside (o ∷ os) ks rows rest = ((λ is. absurd (none_is is)), others_beside os ks rows rest)

module _ (start : Option Record) (incoming : Record) (stored tree : Present) (os : List OtherPackage) where
  abbrev own : List ℕ
  own = (own_of start incoming).name

  abbrev old : List ℕ
  old = (own_of start incoming).version

  abbrev new : List ℕ
  new = incoming.version

  last_beside : (u : Bool) → AreBeside (last_kinds u) (preinst_row own old new stored tree (state_of start) ∷ files_row ∷ cond u (postrm_row own old new stored tree ∷ []) [])
  last_beside true = ((λ is. absurd (none_is is)), ((λ is. refl), ((λ is. absurd (none_is is)), tt)))
  last_beside false = ((λ is. absurd (none_is is)), ((λ is. refl), tt))

  first_beside : (p : Bool) (ks : List RowKind) (rows : List Row) → AreBeside ks rows → AreBeside (first_kinds p ++ ks) (cond p (prerm_row own old new stored tree ∷ []) [] ++ rows)
  first_beside true ks rows rest = ((λ is. absurd (none_is is)), rest)
  first_beside false ks rows rest = rest

  pub rows_beside : AreBeside (kinds_of start (records_of os)) (rows_of start incoming stored tree (others_rows os))
  rows_beside = first_beside (has_prerm (state_of start)) _ _ (others_beside os _ _ (last_beside (is_upgrade (state_of start))))

  -- the row of the files is one of them
  files_last : (u : Bool) → Contains (preinst_row own old new stored tree (state_of start) ∷ files_row ∷ cond u (postrm_row own old new stored tree ∷ []) []) files_row
  files_last true = (1, omega arith, refl)
  files_last false = (1, omega arith, refl)

  pub files_among : Contains (rows_of start incoming stored tree (others_rows os)) files_row
  files_among =
      Contains-append_right (cond (has_prerm (state_of start)) (prerm_row own old new stored tree ∷ []) []) _ files_row
      (Contains-append_right (others_rows os) _ files_row (files_last (is_upgrade (state_of start))))

-- the row of the files is one of the first
files_before : (ks : List RowKind) (before after : List Row) → AreBeside ks (before ++ after) → has_files (take (length before) ks) ≡ true → (row : Row) × Contains before row × (row.owner ≡ OfFiles)
files_before ks [] after beside has = absurd (true≢false (sym has))
files_before [] (r ∷ before) after beside has = absurd (true≢false (sym has))
files_before (k ∷ ks) (r ∷ before) after beside has = by (is_files k) refl has (files_before ks before after beside.1)
  where
    by : (b : Bool) → is_files k ≡ b → b || has_files (take (length before) ks) ≡ true → (has_files (take (length before) ks) ≡ true → (row : Row) × Contains before row × (row.owner ≡ OfFiles))
        → (row : Row) × Contains (r ∷ before) row × (row.owner ≡ OfFiles)
    by true is some rest = (r, (zero, omega arith, refl), beside.0 is)
    by false is some rest = let more = rest some in (more.0, Contains-append_right (r ∷ []) before more.0 more.1, more.2)

-- a row of the files that succeeded found no fault
module _ (gives : List Ran → Option StepFault → Type 0) where
  abbrev IsGiven : Option StepFault → Type 0
  IsGiven fault = (past : List Ran) × gives past fault

  went : (past : List Ran) (row : Row) (ts : List Ran) → row.owner ≡ OfFiles → Goes gives past row ts None → IsGiven None
  went past row ts files (Goes.wrote whose given) = (past, given)
  went past row ts files (Goes.succeeded t whose tries) = absurd (whose files)

  pub gave_none : (past : List Ran) (rows : List Row) (ts : List Ran) (row : Row) → Succeed gives past rows ts → Contains rows row → row.owner ≡ OfFiles → IsGiven None
  gave_none past [] ts row succeed there files = absurd (omega (arith, there.1))
  gave_none past (r ∷ rows) ts row succeed (zero, lt, at) files = went past r succeed.0 (ap (λ (x : Row). x.owner) at ∙ files) succeed.3
  gave_none past (r ∷ rows) ts row succeed (suc k, lt, at) files = gave_none (past ++ succeed.0) rows succeed.1 row succeed.4 (k, omega (arith, lt), at) files

  -- one that failed told its fault
  fell : (past : List Ran) (row : Row) (ts : List Ran) (fall : Fall) → is_declined fall.fault ≡ true → Goes gives past row ts (Some fall) → (fault : StepFault) × (is_declined (Some fault) ≡ true) × gives past (Some fault)
  fell past row ts fall declined (Goes.clashed fault f whose given why) = (fault, ap is_declined (sym why) ∙ declined, given)
  fell past row ts fall declined (Goes.failed t f whose tries why) = absurd (true≢false (sym declined ∙ ap is_declined why))

-- a declined step comes behind a check that found no fault
sound_of : (t : Task) (w : World) (fault : StepFault) → is_declined (Some fault) ≡ true → HasFault t w (Some fault) → HasFault t w None
sound_of t w (LinkParent p) declined has = absurd (true≢false (sym declined))
sound_of t w (NoParent p) declined has = absurd (true≢false (sym declined))
sound_of t w (DirInWay p) declined has = absurd (true≢false (sym declined))
sound_of t w (Clash p owner) declined has = absurd (true≢false (sym declined))
sound_of t w (DiversionTarget p diverter) declined has = absurd (true≢false (sym declined))
sound_of t w (Declined p) declined has = has.0

cleared_same : (gone : Bool) (owner : List ℕ) (v w : World) (q : Path) → IsBesideOwn owner q → HasCleared gone owner v w → w q ≡ v q
cleared_same true owner v w q beside cleared = cleared.rest q beside
cleared_same false owner v w q beside same = ap (λ (x : World). x q) same

module _ (t : Task) (q : Path) (here : IsHere t q) (beside : IsBesideOwn (name t) q) where
  -- the paths were sound in a world in which this stood at the path
  pub record WasSound : Type 0 where
    pub found : World
    pub stands : found q ≡ t.start.world q
    pub sound : HasFault t found None

  was_sound : (past : List Ran) (fault : Option StepFault) → (is : IsFileFault t past fault) → HasFault t is.found None → WasSound
  was_sound past fault is sound = record {
    found = is.found;
    stands = follows_leaves t.places q here.unnoted here.kept (changes_of (finished is.ran)) is.base is.found is.came
        ∙ cleared_same (not (is_some t.found)) (name t) t.start.world is.base q beside is.cleared;
    sound = sound;
  }

  module _ (rows : List Row) (begun last : State) (told now : List Called) (honest : IsTrue last.honest) where
    abbrev gives : List Ran → Option StepFault → Type 0
    gives = IfHonest last (IsFileFault t)

    sound_none : IsGiven gives None → WasSound
    sound_none given = let is = given.1 honest in was_sound given.0 None is is.has

    pub sound_committed : Contains rows files_row → HasRun (IsFileFault t) Committed rows begun last told now → WasSound
    sound_committed among run = sound_none (gave_none gives (calls begun) rows run.ts files_row run.has among refl)

    sound_failed : (past : List Ran) (row : Row) (ts : List Ran) (fall : Fall) → is_declined fall.fault ≡ true → Goes gives past row ts (Some fall) → WasSound
    sound_failed past row ts fall declined goes =
        let it = fell gives past row ts fall declined goes in
        let is = it.2 honest in
        was_sound past (Some it.0) is (sound_of t is.found it.0 it.1 is.has)

    module _ (kinds : List RowKind) (beside_rows : AreBeside kinds rows) (fall : Fall) (failed : List Failed) (run : HasRun (IsFileFault t) (Unwound fall failed) rows begun last told now) where
      abbrev un : Unwinds gives (calls begun) rows run.ts fall failed
      un = run.has

      pub sound_unwound : (stage_of kinds (Back 0 fall failed) ≡ Unwritten) ⊎ WasSound
      sound_unwound = by (has_files (take fall.row kinds)) refl
        where
          at_row : (d : Bool) → is_declined fall.fault ≡ d → (cond d Restored Unwritten ≡ Unwritten) ⊎ WasSound
          at_row true is = inr (sound_failed (calls begun ++ un.forward) un.row un.last fall is un.fails)
          at_row false is = inl refl

          by : (b : Bool) → has_files (take fall.row kinds) ≡ b → (cond b (cond (has_files (take 0 kinds)) Wrote Restored) (failed_at fall.fault) ≡ Unwritten) ⊎ WasSound
          by true is =
              let row = files_before kinds un.before (un.row ∷ un.after) (subst (AreBeside kinds) un.rows_are beside_rows) (ap (λ n. has_files (take n kinds)) (sym un.fell_at) ∙ is) in
              inr (sound_none (gave_none gives (calls begun) un.before un.forward row.0 un.succeed row.1 row.2))
          by false is = at_row (is_declined fall.fault) refl
