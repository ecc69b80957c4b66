-- The upgrade of a package that is unpacked or half-installed is on the page.
use Rattle.std.proofs.Common.{◌≡◌, inl, inr, ℕ, Bool, true, false, List, [], ◌∷◌, ◌++◌, Option, Some, None, map, refl, sym, ap, ◌∙◌}
use Rattle.std.proofs.lemmas.List.{append-nil}
use Rattle.host_core.specs.Events.{Ran}
use Rattle.undo_rows.specs.declared.rows.Row.{Row}
use Rattle.undo_rows.specs.declared.fall.StepFault.{StepFault}
use Rattle.undo_rows.specs.Transcript.{Succeed}
use Rattle.undo_rows.specs.Transcripts.{Anyhow, Ended, Committed, Legal}
use Rattle.status_records.specs.Records.{record_in}
use Rattle.status_records.specs.declared.record.Record.{Record}
use Rattle.status_records.specs.declared.words.State.{State}
use Rattle.status_records.specs.declared.words.State.TheVariants as state
use Rattle.unpack_rows.specs.EndStates.{end_of, own_name}
use Rattle.unpack_rows.specs.ForwardRows.{rows_from, rows_of}
use Rattle.unpack_rows.specs.Kinds.{has_prerm, is_upgrade, kinds_of, own_of, state_of}
use Rattle.unpack_rows.specs.Notes.{noted, notes_at}
use Rattle.unpack_rows.specs.Stages.{stage_of}
use Rattle.policy_page.specs.Answers.{Answer, Way, answer_of, Outright, InItsPlace, fails, works}
use Rattle.policy_page.specs.Lines.{IsLine, IsPage, Line, all_present, fault_of}
use Rattle.policy_page.specs.Page
use Rattle.policy_page.specs.Page.{Unconfigured}
use Rattle.policy_page.proofs.Left.{kinds_by, left_committed, left_stuck, left_undone, place_of, stage_is}
use Rattle.policy_page.proofs.Pages.{is_page}
use Rattle.policy_page.proofs.Rows.{Are, fell_alone, fell_files, fell_with, goes_alone, goes_files, goes_with, falls_alone, falls_files, falls_with, of_none, parted, row_alone, row_of_files, row_with, went_alone, went_files, went_with}
use Rattle.policy_page.proofs.Runs.{Falls, alone, each_line, is_line, three, two, unwinds}
use Rattle.policy_page.proofs.Undoing.{Calls, Has, Have, Puts, Undo, either_end, three_ends, undoes, undone}

module _ (start : Option Record) (incoming : Record) where
  abbrev name : List ℕ
  name = own_name start incoming

  abbrev preinst : Row
  preinst = row_alone name (Page.new_preinst_upgrade start incoming) (Page.new_postrm_abort_upgrade start incoming)

  abbrev postrm : Row
  postrm = row_with name (Page.old_postrm_upgrade start incoming) (Page.new_postrm_failed_upgrade start incoming) (Page.old_preinst_abort_upgrade start incoming)

  -- the rows up to each

  abbrev to_preinst : List Row
  to_preinst = preinst ∷ []

  abbrev to_files : List Row
  to_files = preinst ∷ row_of_files ∷ []

  abbrev pub rows : List Row
  rows = preinst ∷ row_of_files ∷ postrm ∷ []

  pub rows_are : has_prerm (state_of start) ≡ false → is_upgrade (state_of start) ≡ true → rows_of start incoming all_present all_present [] ≡ rows
  rows_are none upgrade = by (state_of start) none upgrade
    where
      by : (s : State) → has_prerm s ≡ false → is_upgrade s ≡ true → rows_from name (own_of start incoming).version incoming.version all_present all_present s [] ≡ rows
      by state.NotInstalled none upgrade = cc
      by state.ConfigFiles none upgrade = cc
      by state.HalfInstalled none upgrade = refl
      by state.Unpacked none upgrade = refl
      by state.HalfConfigured none upgrade = cc
      by state.Installed none upgrade = cc

  abbrev page : Unconfigured → Line
  page = Page.upgrade_unconfigured start incoming

  abbrev reached : List Answer
  reached = works (Page.new_preinst_upgrade start incoming) ∷ []

  -- what undoes the rows so far

  abbrev abort_postrm : Undo
  abort_postrm = Calls (Page.new_postrm_abort_upgrade start incoming)

  abbrev undo_preinst : List Undo
  undo_preinst = abort_postrm ∷ []

  abbrev undo_files : List Undo
  undo_files = abort_postrm ∷ Puts ∷ []

  abbrev undo_postrm : List Undo
  undo_postrm = abort_postrm ∷ Puts ∷ Calls (Page.old_preinst_abort_upgrade start incoming) ∷ []

  have_preinst : Have name undo_preinst to_preinst
  have_preinst = (Has.calls preinst _ refl refl, tt)

  have_files : Have name undo_files to_files
  have_files = (Has.calls preinst _ refl refl, (Has.puts row_of_files refl, tt))

  have_postrm : Have name undo_postrm rows
  have_postrm = (Has.calls preinst _ refl refl, (Has.puts row_of_files refl, (Has.calls postrm _ refl refl, tt)))

  -- how far the rows have gone

  preinst_done : (ts : List Ran) → Succeed Anyhow [] to_preinst ts → Are ts reached
  preinst_done ts (own, more, is, go, none) = alone _ own more ts is none (went_alone name _ _ [] own go)

  files_done : (ts : List Ran) → Succeed Anyhow [] to_files ts → Are ts reached
  files_done ts (own, more, is, go, (files, behind, with_files, written, none)) =
      alone _ own more ts is (with_files ∙ (λ i. went_files own files written i ++ none i)) (went_alone name _ _ [] own go)

  all_done : (ts : List Ran) → Succeed Anyhow [] rows ts → (l : Unconfigured) × IsLine (page l) Committed ts
  all_done ts (own, more, is, go, (files, behind, with_files, written, (last, end, with_last, done, none))) =
      let w = went_with name _ _ _ (own ++ files) last done in
      let calls : Are behind (Page.postrm_goes start incoming w.0) = alone _ last end behind with_last none w.1 in
      let later : more ≡ behind = with_files ∙ (λ i. went_files own files written i ++ behind) in
      (Unconfigured.Succeeds w.0, record { calls = two _ _ own more ts is (went_alone name _ _ [] own go) (ap (map answer_of) later ∙ calls); ends = refl })

  -- where the preinst fails
  preinst_fails : Falls page [] preinst
  preinst_fails fall failed forward last back ts at before here undo is =
      let f = fell_alone name _ _ forward last fall here in
      let calls = λ (answers : List Answer) (e : Are back answers). three [] _ answers forward last back ts is (ap (map answer_of) before) f.0 e in
      either_end
      (λ e. (Unconfigured.PreinstFails, is_line (page Unconfigured.PreinstFails) 0 None _ refl fall failed ts at f.1 e.is (calls _ e.are)))
      (λ e. (Unconfigured.PreinstFailsThenPostrm, is_line (page Unconfigured.PreinstFailsThenPostrm) 0 None _ refl fall failed ts at f.1 e.is (calls _ e.are)))
      (undone name undo_preinst to_preinst 0 have_preinst back failed undo)

  -- where the files can't be written
  files_fail : Falls page to_preinst row_of_files
  files_fail fall failed forward last back ts at before here undo is =
      let f = fell_files forward last fall here in
      let calls = λ (answers : List Answer) (e : Are back answers). three reached [] answers forward last back ts is (preinst_done forward before) (ap (map answer_of) f.1) e in
      either_end
      (λ e. ((Unconfigured.FilesFail f.0), is_line (page (Unconfigured.FilesFail f.0)) 1 (Some f.0) _ refl fall failed ts at f.2 e.is (calls _ e.are)))
      (λ e. ((Unconfigured.FilesFailThenPostrm f.0), is_line (page (Unconfigured.FilesFailThenPostrm f.0)) 1 (Some f.0) _ refl fall failed ts at f.2 e.is (calls _ e.are)))
      (undone name undo_files to_files 0 have_files back failed undo)

  -- where the postrm fails
  postrm_fails : Falls page to_files postrm
  postrm_fails fall failed forward last back ts at before here undo is =
      let f = fell_with name _ _ _ forward last fall here in
      let calls = λ (answers : List Answer) (e : Are back answers). three reached _ answers forward last back ts is (files_done forward before) f.0 e in
      three_ends
      (λ e. (Unconfigured.PostrmFails, is_line (page Unconfigured.PostrmFails) 2 None _ refl fall failed ts at f.1 e.is (calls _ e.are)))
      (λ e. (Unconfigured.PostrmFailsThenPostrm, is_line (page Unconfigured.PostrmFailsThenPostrm) 2 None _ refl fall failed ts at f.1 e.is (calls _ e.are)))
      (λ e. (Unconfigured.PostrmFailsThenPreinst, is_line (page Unconfigured.PostrmFailsThenPreinst) 2 None _ refl fall failed ts at f.1 e.is (calls _ e.are)))
      (undone name undo_postrm rows 0 have_postrm back failed undo)

  -- each legal transcript is a line
  pub each : (ended : Ended) (ts : List Ran) → Legal Anyhow [] ended rows ts → (l : Unconfigured) × IsLine (page l) ended ts
  each = each_line page rows all_done (preinst_fails, (files_fail, (postrm_fails, tt)))

  -- and each line is legal

  go_preinst : (ts : List Ran) → Are ts reached → Succeed Anyhow [] to_preinst ts
  go_preinst ts are = (ts, [], sym (append-nil ts), goes_alone name _ _ [] ts are, refl)

  go_files : (ts : List Ran) → Are ts reached → Succeed Anyhow [] to_files ts
  go_files ts are = (ts, [], sym (append-nil ts), goes_alone name _ _ [] ts are, ([], [], refl, goes_files _ [] refl, refl))

  go_all : (way : Way) (ts : List Ran) → Are ts (works (Page.new_preinst_upgrade start incoming) ∷ Page.postrm_goes start incoming way) → Succeed Anyhow [] rows ts
  go_all way ts are =
      let s = parted reached (Page.postrm_goes start incoming way) ts are in
      (s.0, s.1, s.2, goes_alone name _ _ [] s.0 s.3, ([], s.1, refl, goes_files _ [] refl, (s.1, [], sym (append-nil s.1), goes_with name _ _ _ _ way s.1 s.4, refl)))

  pub legal : (l : Unconfigured) (ts : List Ran) → Are ts (page l).calls → Legal Anyhow [] (page l).end.ended rows ts
  legal (Unconfigured.Succeeds way) ts are = go_all way ts are
  legal Unconfigured.PreinstFails ts are =
      unwinds [] preinst _ _ _ [] _ _ refl of_none (λ past last e. falls_alone name _ _ past last 0 e) (λ back e. undoes name undo_preinst to_preinst 0 have_preinst back _ (inl (record { are = e; is = refl }))) ts are
  legal Unconfigured.PreinstFailsThenPostrm ts are =
      unwinds [] preinst _ _ _ [] _ _ refl of_none (λ past last e. falls_alone name _ _ past last 0 e) (λ back e. undoes name undo_preinst to_preinst 0 have_preinst back _ (inr (inl (record { are = e; is = refl })))) ts are
  legal (Unconfigured.FilesFail fault) ts are =
      unwinds to_preinst row_of_files _ _ _ reached _ _ refl go_preinst (λ past last e. falls_files past last 1 fault e) (λ back e. undoes name undo_files to_files 0 have_files back _ (inl (record { are = e; is = refl }))) ts are
  legal (Unconfigured.FilesFailThenPostrm fault) ts are =
      unwinds to_preinst row_of_files _ _ _ reached _ _ refl go_preinst (λ past last e. falls_files past last 1 fault e) (λ back e. undoes name undo_files to_files 0 have_files back _ (inr (inl (record { are = e; is = refl })))) ts are
  legal Unconfigured.PostrmFails ts are =
      unwinds to_files postrm _ _ _ reached _ _ refl go_files (λ past last e. falls_with name _ _ _ past last 2 e) (λ back e. undoes name undo_postrm rows 0 have_postrm back _ (inl (record { are = e; is = refl }))) ts are
  legal Unconfigured.PostrmFailsThenPostrm ts are =
      unwinds to_files postrm _ _ _ reached _ _ refl go_files (λ past last e. falls_with name _ _ _ past last 2 e) (λ back e. undoes name undo_postrm rows 0 have_postrm back _ (inr (inl (record { are = e; is = refl })))) ts are
  legal Unconfigured.PostrmFailsThenPreinst ts are =
      unwinds to_files postrm _ _ _ reached _ _ refl go_files (λ past last e. falls_with name _ _ _ past last 2 e) (λ back e. undoes name undo_postrm rows 0 have_postrm back _ (inr (inr (inl (record { are = e; is = refl }))))) ts are

-- reading a line from how its calls end

by_undo : Unconfigured → Unconfigured → List Bool → Option Unconfigured
by_undo works fails [] = None
by_undo works fails (true ∷ x) = Some works
by_undo works fails (false ∷ x) = Some fails

by_postrm : List Bool → Option Unconfigured
by_postrm [] = None
by_postrm (true ∷ x) = Some (Unconfigured.Succeeds Outright)
by_postrm (false ∷ []) = None
by_postrm (false ∷ true ∷ x) = Some (Unconfigured.Succeeds InItsPlace)
by_postrm (false ∷ false ∷ []) = None
by_postrm (false ∷ false ∷ false ∷ x) = Some Unconfigured.PostrmFailsThenPreinst
by_postrm (false ∷ false ∷ true ∷ x) = by_undo Unconfigured.PostrmFails Unconfigured.PostrmFailsThenPostrm x

by_files : Option StepFault → List Bool → Option Unconfigured
by_files None x = by_postrm x
by_files (Some fault) x = by_undo (Unconfigured.FilesFail fault) (Unconfigured.FilesFailThenPostrm fault) x

pub read : Option StepFault → List Bool → Option Unconfigured
read fault [] = None
read fault (true ∷ x) = by_files fault x
read fault (false ∷ x) = by_undo Unconfigured.PreinstFails Unconfigured.PreinstFailsThenPostrm x

module _ (start : Option Record) (incoming : Record) where
  abbrev of : Unconfigured → Line
  of = Page.upgrade_unconfigured start incoming

  pub read_back : (l : Unconfigured) → read (fault_of (of l).end.ended) (map (λ a. a.succeeds) (of l).calls) ≡ Some l
  unfolding read by_files by_postrm by_undo
  read_back (Unconfigured.Succeeds Outright) = refl
  read_back (Unconfigured.Succeeds InItsPlace) = refl
  read_back Unconfigured.PreinstFails = refl
  read_back Unconfigured.PreinstFailsThenPostrm = refl
  read_back (Unconfigured.FilesFail fault) = refl
  read_back (Unconfigured.FilesFailThenPostrm fault) = refl
  read_back Unconfigured.PostrmFails = refl
  read_back Unconfigured.PostrmFailsThenPreinst = refl
  read_back Unconfigured.PostrmFailsThenPostrm = refl

  module _ (none : has_prerm (state_of start) ≡ false) (upgraded : is_upgrade (state_of start) ≡ true) where
    pub files_left : (l : Unconfigured) → stage_of (kinds_of start []) (place_of start (of l).end.ended) ≡ (of l).end.files
    files_left l = stage_is start incoming false true none upgraded (of l).end.ended ∙ by l
      where
        by : (l : Unconfigured) → stage_of (kinds_by false true) (end_of 3 (of l).end.ended) ≡ (of l).end.files
        by (Unconfigured.Succeeds way) = refl
        by Unconfigured.PreinstFails = refl
        by Unconfigured.PreinstFailsThenPostrm = refl
        by (Unconfigured.FilesFail fault) = refl
        by (Unconfigured.FilesFailThenPostrm fault) = refl
        by Unconfigured.PostrmFails = refl
        by Unconfigured.PostrmFailsThenPreinst = refl
        by Unconfigured.PostrmFailsThenPostrm = refl

    pub record_left : (table : List Record) → record_in table (own_name start incoming) ≡ start → (l : Unconfigured) → record_in (noted table (notes_at start incoming (kinds_of start []) (place_of start (of l).end.ended))) (own_name start incoming) ≡ (of l).end.left
    record_left table found (Unconfigured.Succeeds way) = left_committed start incoming false true none upgraded table found
    record_left table found Unconfigured.PreinstFails = left_undone start incoming false true none upgraded table found 0 None
    record_left table found Unconfigured.PreinstFailsThenPostrm = left_stuck start incoming false true none upgraded table found 0 0 None
    record_left table found (Unconfigured.FilesFail fault) = left_undone start incoming false true none upgraded table found 1 (Some fault)
    record_left table found (Unconfigured.FilesFailThenPostrm fault) = left_stuck start incoming false true none upgraded table found 1 0 (Some fault)
    record_left table found Unconfigured.PostrmFails = left_undone start incoming false true none upgraded table found 2 None
    record_left table found Unconfigured.PostrmFailsThenPreinst = left_stuck start incoming false true none upgraded table found 2 2 None
    record_left table found Unconfigured.PostrmFailsThenPostrm = left_stuck start incoming false true none upgraded table found 2 0 None

-- the whole page
pub whole : (start : Option Record) (incoming : Record) → has_prerm (state_of start) ≡ false → is_upgrade (state_of start) ≡ true → IsPage (Page.upgrade_unconfigured start incoming) start incoming
whole start incoming none upgraded =
    is_page (Page.upgrade_unconfigured start incoming) start incoming (rows start incoming) (rows_are start incoming none upgraded) (each start incoming) (legal start incoming) read (read_back start incoming)
    (files_left start incoming none upgraded) (record_left start incoming none upgraded)
