-- The install of a package that isn't there, or of which conffiles alone are, is on the page.
use Rattle.std.proofs.Common.{◌≡◌, inl, inr, ℕ, Bool, true, false, List, [], ◌∷◌, ◌++◌, Option, Some, None, codes, map, refl, sym, ap, ◌∙◌}
use Rattle.std.proofs.lemmas.List.{append-nil}
use Rattle.host_core.specs.Events.{Ran}
use Rattle.host_core.specs.declared.call.Script.TheVariants as script
use Rattle.undo_rows.specs.declared.rows.Row.{Row}
use Rattle.undo_rows.specs.declared.fall.StepFault.{StepFault}
use Rattle.undo_rows.specs.Transcript.{Succeed}
use Rattle.undo_rows.specs.Transcripts.{Anyhow, Ended, Committed, Legal}
use Rattle.status_records.specs.Records.{record_in}
use Rattle.status_records.specs.declared.record.Record.{Record}
use Rattle.status_records.specs.declared.words.State.{State}
use Rattle.status_records.specs.declared.words.State.TheVariants as state
use Rattle.unpack_rows.specs.EndStates.{end_of, own_name}
use Rattle.unpack_rows.specs.ForwardRows.{rows_from, rows_of}
use Rattle.unpack_rows.specs.Kinds.{has_prerm, is_upgrade, kinds_of, own_of, state_of}
use Rattle.unpack_rows.specs.Notes.{noted, notes_at}
use Rattle.unpack_rows.specs.Stages.{stage_of}
use Rattle.policy_page.specs.Answers.{Answer, answer_of, fails, works}
use Rattle.policy_page.specs.Lines.{IsLine, IsPage, Line, all_present, fault_of}
use Rattle.policy_page.specs.Page
use Rattle.policy_page.specs.Page.{Install}
use Rattle.policy_page.proofs.Left.{kinds_by, left_committed, left_stuck, left_undone, place_of, stage_is}
use Rattle.policy_page.proofs.Pages.{is_page}
use Rattle.policy_page.proofs.Rows.{Are, fell_alone, fell_files, goes_alone, goes_files, falls_alone, falls_files, of_none, row_alone, row_of_files, went_alone, went_files}
use Rattle.policy_page.proofs.Runs.{Falls, alone, each_line, is_line, three, unwinds}
use Rattle.policy_page.proofs.Undoing.{Calls, Has, Have, Puts, Undo, either_end, undoes, undone}

module _ (start : Option Record) (incoming : Record) where
  abbrev name : List ℕ
  name = own_name start incoming

  abbrev preinst : Row
  preinst = row_alone name (Page.new_preinst_install start incoming) (Page.new_postrm_abort_install start incoming)

  -- the rows up to each

  abbrev to_preinst : List Row
  to_preinst = preinst ∷ []

  abbrev pub rows : List Row
  rows = preinst ∷ row_of_files ∷ []

  abbrev page : Install → Line
  page = Page.install start incoming

  abbrev reached : List Answer
  reached = works (Page.new_preinst_install start incoming) ∷ []

  -- what undoes the rows so far

  abbrev abort_postrm : Undo
  abort_postrm = Calls (Page.new_postrm_abort_install start incoming)

  abbrev undo_preinst : List Undo
  undo_preinst = abort_postrm ∷ []

  abbrev undo_files : List Undo
  undo_files = abort_postrm ∷ Puts ∷ []

  have_preinst : Have name undo_preinst to_preinst
  have_preinst = (Has.calls preinst _ refl refl, tt)

  have_files : Have name undo_files rows
  have_files = (Has.calls preinst _ refl refl, (Has.puts row_of_files refl, tt))

  -- how far the rows have gone

  preinst_done : (ts : List Ran) → Succeed Anyhow [] to_preinst ts → Are ts reached
  preinst_done ts (own, more, is, go, none) = alone _ own more ts is none (went_alone name _ _ [] own go)

  all_done : (ts : List Ran) → Succeed Anyhow [] rows ts → (l : Install) × IsLine (page l) Committed ts
  all_done ts (own, more, is, go, (files, behind, with_files, written, none)) = (
    Install.Succeeds,
    record {
      calls = alone _ own more ts is (with_files ∙ (λ i. went_files own files written i ++ none i)) (went_alone name _ _ [] own go);
      ends = refl;
    },
  )

  -- where the preinst fails
  preinst_fails : Falls page [] preinst
  preinst_fails fall failed forward last back ts at before here undo is =
      let f = fell_alone name _ _ forward last fall here in
      let calls = λ (answers : List Answer) (e : Are back answers). three [] _ answers forward last back ts is (ap (map answer_of) before) f.0 e in
      either_end
      (λ e. (Install.PreinstFails, is_line (page Install.PreinstFails) 0 None _ refl fall failed ts at f.1 e.is (calls _ e.are)))
      (λ e. (Install.PreinstFailsThenPostrm, is_line (page Install.PreinstFailsThenPostrm) 0 None _ refl fall failed ts at f.1 e.is (calls _ e.are)))
      (undone name undo_preinst to_preinst 0 have_preinst back failed undo)

  -- where the files can't be written
  files_fail : Falls page to_preinst row_of_files
  files_fail fall failed forward last back ts at before here undo is =
      let f = fell_files forward last fall here in
      let calls = λ (answers : List Answer) (e : Are back answers). three reached [] answers forward last back ts is (preinst_done forward before) (ap (map answer_of) f.1) e in
      either_end
      (λ e. ((Install.FilesFail f.0), is_line (page (Install.FilesFail f.0)) 1 (Some f.0) _ refl fall failed ts at f.2 e.is (calls _ e.are)))
      (λ e. ((Install.FilesFailThenPostrm f.0), is_line (page (Install.FilesFailThenPostrm f.0)) 1 (Some f.0) _ refl fall failed ts at f.2 e.is (calls _ e.are)))
      (undone name undo_files rows 0 have_files back failed undo)

  -- each legal transcript is a line
  pub each : (ended : Ended) (ts : List Ran) → Legal Anyhow [] ended rows ts → (l : Install) × IsLine (page l) ended ts
  each = each_line page rows all_done (preinst_fails, (files_fail, tt))

  -- and each line is legal

  go_preinst : (ts : List Ran) → Are ts reached → Succeed Anyhow [] to_preinst ts
  go_preinst ts are = (ts, [], sym (append-nil ts), goes_alone name _ _ [] ts are, refl)

  go_all : (ts : List Ran) → Are ts reached → Succeed Anyhow [] rows ts
  go_all ts are = (ts, [], sym (append-nil ts), goes_alone name _ _ [] ts are, ([], [], refl, goes_files _ [] refl, refl))

  pub legal : (l : Install) (ts : List Ran) → Are ts (page l).calls → Legal Anyhow [] (page l).end.ended rows ts
  legal Install.Succeeds ts are = go_all ts are
  legal Install.PreinstFails ts are =
      unwinds [] preinst _ _ _ [] _ _ refl of_none (λ past last e. falls_alone name _ _ past last 0 e) (λ back e. undoes name undo_preinst to_preinst 0 have_preinst back _ (inl (record { are = e; is = refl }))) ts are
  legal Install.PreinstFailsThenPostrm ts are =
      unwinds [] preinst _ _ _ [] _ _ refl of_none (λ past last e. falls_alone name _ _ past last 0 e) (λ back e. undoes name undo_preinst to_preinst 0 have_preinst back _ (inr (inl (record { are = e; is = refl })))) ts are
  legal (Install.FilesFail fault) ts are =
      unwinds to_preinst row_of_files _ _ _ reached _ _ refl go_preinst (λ past last e. falls_files past last 1 fault e) (λ back e. undoes name undo_files rows 0 have_files back _ (inl (record { are = e; is = refl }))) ts are
  legal (Install.FilesFailThenPostrm fault) ts are =
      unwinds to_preinst row_of_files _ _ _ reached _ _ refl go_preinst (λ past last e. falls_files past last 1 fault e) (λ back e. undoes name undo_files rows 0 have_files back _ (inr (inl (record { are = e; is = refl })))) ts are

-- reading a line from how its calls end

by_undo : Install → Install → List Bool → Option Install
by_undo works fails [] = None
by_undo works fails (true ∷ x) = Some works
by_undo works fails (false ∷ x) = Some fails

pub read : Option StepFault → List Bool → Option Install
read fault [] = None
read None (true ∷ x) = Some Install.Succeeds
read (Some fault) (true ∷ x) = by_undo (Install.FilesFail fault) (Install.FilesFailThenPostrm fault) x
read fault (false ∷ x) = by_undo Install.PreinstFails Install.PreinstFailsThenPostrm x

module _ (start : Option Record) (incoming : Record) where
  abbrev of : Install → Line
  of = Page.install start incoming

  pub read_back : (l : Install) → read (fault_of (of l).end.ended) (map (λ a. a.succeeds) (of l).calls) ≡ Some l
  unfolding read by_undo
  read_back Install.Succeeds = refl
  read_back Install.PreinstFails = refl
  read_back Install.PreinstFailsThenPostrm = refl
  read_back (Install.FilesFail fault) = refl
  read_back (Install.FilesFailThenPostrm fault) = refl

  module _ (none : has_prerm (state_of start) ≡ false) (fresh : is_upgrade (state_of start) ≡ false) where
    pub files_left : (l : Install) → stage_of (kinds_of start []) (place_of start (of l).end.ended) ≡ (of l).end.files
    files_left l = stage_is start incoming false false none fresh (of l).end.ended ∙ by l
      where
        by : (l : Install) → stage_of (kinds_by false false) (end_of 2 (of l).end.ended) ≡ (of l).end.files
        by Install.Succeeds = refl
        by Install.PreinstFails = refl
        by Install.PreinstFailsThenPostrm = refl
        by (Install.FilesFail fault) = refl
        by (Install.FilesFailThenPostrm fault) = refl

    pub record_left : (table : List Record) → record_in table (own_name start incoming) ≡ start → (l : Install) → record_in (noted table (notes_at start incoming (kinds_of start []) (place_of start (of l).end.ended))) (own_name start incoming) ≡ (of l).end.left
    record_left table found Install.Succeeds = left_committed start incoming false false none fresh table found
    record_left table found Install.PreinstFails = left_undone start incoming false false none fresh table found 0 None
    record_left table found Install.PreinstFailsThenPostrm = left_stuck start incoming false false none fresh table found 0 0 None
    record_left table found (Install.FilesFail fault) = left_undone start incoming false false none fresh table found 1 (Some fault)
    record_left table found (Install.FilesFailThenPostrm fault) = left_stuck start incoming false false none fresh table found 1 0 (Some fault)

-- the rows, by the state in which the package is found

module _ (start : Option Record) (incoming : Record) where
  pub unconfigured : is_upgrade (state_of start) ≡ false → has_prerm (state_of start) ≡ false
  unconfigured fresh = by (state_of start) fresh
    where
      by : (s : State) → is_upgrade s ≡ false → has_prerm s ≡ false
      by state.NotInstalled fresh = refl
      by state.ConfigFiles fresh = refl
      by state.HalfInstalled fresh = refl
      by state.Unpacked fresh = refl
      by state.HalfConfigured fresh = cc
      by state.Installed fresh = cc

  abbrev rows_by : State → List Row
  rows_by s =
      row_alone (own_name start incoming) (Page.of_new start incoming script.Preinst (codes "install" ∷ Page.passed start incoming s)) (Page.of_new start incoming script.Postrm (codes "abort-install" ∷ Page.passed start incoming s))
      ∷ row_of_files ∷ []

  pub rows_are : is_upgrade (state_of start) ≡ false → rows_of start incoming all_present all_present [] ≡ rows start incoming
  rows_are fresh = by (state_of start) fresh
    where
      by : (s : State) → is_upgrade s ≡ false → rows_from (own_name start incoming) (own_of start incoming).version incoming.version all_present all_present s [] ≡ rows_by s
      by state.NotInstalled fresh = refl
      by state.ConfigFiles fresh = refl
      by state.HalfInstalled fresh = cc
      by state.Unpacked fresh = cc
      by state.HalfConfigured fresh = cc
      by state.Installed fresh = cc

-- the whole page
pub whole : (start : Option Record) (incoming : Record) → is_upgrade (state_of start) ≡ false → IsPage (Page.install start incoming) start incoming
whole start incoming fresh =
    is_page (Page.install start incoming) start incoming (rows start incoming) (rows_are start incoming fresh) (each start incoming) (legal start incoming) read (read_back start incoming)
    (files_left start incoming (unconfigured start incoming fresh) fresh) (record_left start incoming (unconfigured start incoming fresh) fresh)
