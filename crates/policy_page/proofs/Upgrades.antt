-- The upgrade of a configured package is on the page.
use Rattle.std.proofs.Common.{◌≡◌, inl, inr, ℕ, Bool, true, false, List, [], ◌∷◌, ◌++◌, Option, Some, None, map, refl, sym, ap, ◌∙◌, append_assoc}
use Rattle.std.proofs.lemmas.List.{append-nil}
use Rattle.host_core.specs.Events.{Ran}
use Rattle.undo_rows.specs.declared.rows.Row.{Row}
use Rattle.undo_rows.specs.declared.fall.StepFault.{StepFault}
use Rattle.undo_rows.specs.Transcript.{Goes, Succeed}
use Rattle.undo_rows.specs.Transcripts.{Anyhow, Ended, Committed, Legal}
use Rattle.status_records.specs.Records.{record_in}
use Rattle.status_records.specs.declared.record.Record.{Record}
use Rattle.status_records.specs.declared.words.State.{State}
use Rattle.status_records.specs.declared.words.State.TheVariants as state
use Rattle.unpack_rows.specs.EndStates.{end_of, own_name}
use Rattle.unpack_rows.specs.ForwardRows.{rows_from, rows_of}
use Rattle.unpack_rows.specs.Kinds.{has_prerm, is_upgrade, kinds_of, own_of, state_of}
use Rattle.unpack_rows.specs.Notes.{noted, notes_at}
use Rattle.unpack_rows.specs.Stages.{stage_of}
use Rattle.policy_page.specs.Answers.{Answer, Way, answer_of, Outright, InItsPlace, works}
use Rattle.policy_page.specs.Lines.{IsLine, IsPage, Line, all_present, fault_of}
use Rattle.policy_page.specs.Page
use Rattle.policy_page.specs.Page.{Upgrade}
use Rattle.policy_page.proofs.Left.{kinds_by, left_committed, left_stuck, left_undone, place_of, stage_is}
use Rattle.policy_page.proofs.Pages.{is_page}
use Rattle.policy_page.proofs.Rows.{Are, fell_alone, fell_files, fell_with, goes_alone, goes_files, goes_with, falls_alone, falls_files, falls_with, of_none, parted, row_alone, row_of_files, row_with, went_alone, went_files, went_with}
use Rattle.policy_page.proofs.Runs.{Falls, alone, each_line, is_line, three, two, unwinds}
use Rattle.policy_page.proofs.Undoing.{Calls, Has, Have, Puts, Undo, either_end, four_ends, three_ends, undoes, undone}

module _ (start : Option Record) (incoming : Record) where
  abbrev name : List ℕ
  name = own_name start incoming

  abbrev prerm : Row
  prerm = row_with name (Page.old_prerm_upgrade start incoming) (Page.new_prerm_failed_upgrade start incoming) (Page.old_postinst_abort_upgrade start incoming)

  abbrev preinst : Row
  preinst = row_alone name (Page.new_preinst_upgrade start incoming) (Page.new_postrm_abort_upgrade start incoming)

  abbrev postrm : Row
  postrm = row_with name (Page.old_postrm_upgrade start incoming) (Page.new_postrm_failed_upgrade start incoming) (Page.old_preinst_abort_upgrade start incoming)

  -- the rows up to each

  abbrev to_prerm : List Row
  to_prerm = prerm ∷ []

  abbrev to_preinst : List Row
  to_preinst = prerm ∷ preinst ∷ []

  abbrev to_files : List Row
  to_files = prerm ∷ preinst ∷ row_of_files ∷ []

  abbrev pub four : List Row
  four = prerm ∷ preinst ∷ row_of_files ∷ postrm ∷ []

  pub rows_are : has_prerm (state_of start) ≡ true → rows_of start incoming all_present all_present [] ≡ four
  rows_are is = by (state_of start) is
    where
      by : (s : State) → has_prerm s ≡ true → rows_from name (own_of start incoming).version incoming.version all_present all_present s [] ≡ four
      by state.NotInstalled none = cc
      by state.ConfigFiles none = cc
      by state.HalfInstalled none = cc
      by state.Unpacked none = cc
      by state.HalfConfigured called = refl
      by state.Installed called = refl

  abbrev page : Upgrade → Line
  page = Page.upgrade start incoming

  abbrev prerm_goes : Way → List Answer
  prerm_goes = Page.prerm_goes start incoming

  abbrev reached : Way → List Answer
  reached way = prerm_goes way ++ works (Page.new_preinst_upgrade start incoming) ∷ []

  abbrev abort_postinst : Undo
  abort_postinst = Calls (Page.old_postinst_abort_upgrade start incoming)

  abbrev abort_postrm : Undo
  abort_postrm = Calls (Page.new_postrm_abort_upgrade start incoming)

  abbrev abort_preinst : Undo
  abort_preinst = Calls (Page.old_preinst_abort_upgrade start incoming)

  -- how far the rows have gone

  went_prerm : (ts : List Ran) → Goes Anyhow [] prerm ts None → (way : Way) × Are ts (prerm_goes way)
  went_prerm ts go = went_with name _ _ _ [] ts go

  went_preinst : (past ts : List Ran) → Goes Anyhow past preinst ts None → Are ts (works (Page.new_preinst_upgrade start incoming) ∷ [])
  went_preinst past ts go = went_alone name _ _ past ts go

  went_postrm : (past ts : List Ran) → Goes Anyhow past postrm ts None → (way : Way) × Are ts (Page.postrm_goes start incoming way)
  went_postrm past ts go = went_with name _ _ _ past ts go

  one_done : (ts : List Ran) → Succeed Anyhow [] to_prerm ts → (way : Way) × Are ts (prerm_goes way)
  one_done ts (own, more, is, go, none) = let w = went_prerm own go in (w.0, alone _ own more ts is none w.1)

  two_done : (ts : List Ran) → Succeed Anyhow [] to_preinst ts → (way : Way) × Are ts (reached way)
  two_done ts (own, more, is, go, (next, rest, are, goes_on, none)) =
      let w = went_prerm own go in
      (w.0, two _ _ own more ts is w.1 (alone _ next rest more are none (went_preinst own next goes_on)))

  three_done : (ts : List Ran) → Succeed Anyhow [] to_files ts → (way : Way) × Are ts (reached way)
  three_done ts (own, more, is, go, (next, rest, are, goes_on, (files, behind, with_files, written, none))) =
      let w = went_prerm own go in
      let quiet : rest ≡ [] = with_files ∙ (λ i. went_files (own ++ next) files written i ++ none i) in
      (w.0, two _ _ own more ts is w.1 (alone _ next rest more are quiet (went_preinst own next goes_on)))

  all_done : (ts : List Ran) → Succeed Anyhow [] four ts → (l : Upgrade) × IsLine (page l) Committed ts
  all_done ts (own, more, is, go, (next, rest, are, goes_on, (files, behind, with_files, written, (last, end, with_last, done, none)))) =
      let w = went_prerm own go in
      let v = went_postrm ((own ++ next) ++ files) last done in
      let calls : Are behind (Page.postrm_goes start incoming v.0) = alone _ last end behind with_last none v.1 in
      let later : rest ≡ behind = with_files ∙ (λ i. went_files (own ++ next) files written i ++ behind) in (
        Upgrade.Succeeds w.0 v.0,
        record {
          calls = two _ _ own more ts is w.1 (two _ _ next rest more are (went_preinst own next goes_on) (ap (map answer_of) later ∙ calls));
          ends = refl;
        },
      )

  -- what undoes the rows so far

  abbrev undo_one : List Undo
  undo_one = abort_postinst ∷ []

  abbrev undo_two : List Undo
  undo_two = abort_postinst ∷ abort_postrm ∷ []

  abbrev undo_three : List Undo
  undo_three = abort_postinst ∷ abort_postrm ∷ Puts ∷ []

  abbrev undo_four : List Undo
  undo_four = abort_postinst ∷ abort_postrm ∷ Puts ∷ abort_preinst ∷ []

  have_one : Have name undo_one to_prerm
  have_one = (Has.calls prerm _ refl refl, tt)

  have_two : Have name undo_two to_preinst
  have_two = (Has.calls prerm _ refl refl, (Has.calls preinst _ refl refl, tt))

  have_three : Have name undo_three to_files
  have_three = (Has.calls prerm _ refl refl, (Has.calls preinst _ refl refl, (Has.puts row_of_files refl, tt)))

  have_four : Have name undo_four four
  have_four = (Has.calls prerm _ refl refl, (Has.calls preinst _ refl refl, (Has.puts row_of_files refl, (Has.calls postrm _ refl refl, tt))))

  -- where the prerm fails
  prerm_fails : Falls page [] prerm
  prerm_fails fall failed forward last back ts at before here undo is =
      let f = fell_with name _ _ _ forward last fall here in
      let calls = λ (answers : List Answer) (e : Are back answers). three [] _ answers forward last back ts is (ap (map answer_of) before) f.0 e in
      either_end
      (λ e. (Upgrade.PrermFails, is_line (page Upgrade.PrermFails) 0 None _ refl fall failed ts at f.1 e.is (calls _ e.are)))
      (λ e. (Upgrade.PrermFailsThenPostinst, is_line (page Upgrade.PrermFailsThenPostinst) 0 None _ refl fall failed ts at f.1 e.is (calls _ e.are)))
      (undone name undo_one to_prerm 0 have_one back failed undo)

  -- where the preinst does
  preinst_fails : Falls page to_prerm preinst
  preinst_fails fall failed forward last back ts at before here undo is =
      let w = one_done forward before in
      let f = fell_alone name _ _ forward last fall here in
      let calls = λ (answers : List Answer) (e : Are back answers). three (prerm_goes w.0) _ answers forward last back ts is w.1 f.0 e in
      three_ends
      (λ e. (Upgrade.PreinstFails w.0, is_line (page (Upgrade.PreinstFails w.0)) 1 None _ refl fall failed ts at f.1 e.is (calls _ e.are)))
      (λ e. (Upgrade.PreinstFailsThenPostinst w.0, is_line (page (Upgrade.PreinstFailsThenPostinst w.0)) 1 None _ refl fall failed ts at f.1 e.is (calls _ e.are)))
      (λ e. (Upgrade.PreinstFailsThenPostrm w.0, is_line (page (Upgrade.PreinstFailsThenPostrm w.0)) 1 None _ refl fall failed ts at f.1 e.is (calls _ e.are)))
      (undone name undo_two to_preinst 0 have_two back failed undo)

  regrouped : (way : Way) (more : List Answer) → reached way ++ more ≡ prerm_goes way ++ works (Page.new_preinst_upgrade start incoming) ∷ more
  regrouped way more = append_assoc (prerm_goes way) (works (Page.new_preinst_upgrade start incoming) ∷ []) more

  -- where the files can't be written
  files_fail : Falls page to_preinst row_of_files
  files_fail fall failed forward last back ts at before here undo is =
      let w = two_done forward before in
      let f = fell_files forward last fall here in
      let calls = λ (answers : List Answer) (e : Are back answers). three (reached w.0) [] answers forward last back ts is w.1 (ap (map answer_of) f.1) e ∙ regrouped w.0 answers in
      three_ends
      (λ e. (Upgrade.FilesFail w.0 f.0, is_line (page (Upgrade.FilesFail w.0 f.0)) 2 (Some f.0) _ refl fall failed ts at f.2 e.is (calls _ e.are)))
      (λ e. (Upgrade.FilesFailThenPostinst w.0 f.0, is_line (page (Upgrade.FilesFailThenPostinst w.0 f.0)) 2 (Some f.0) _ refl fall failed ts at f.2 e.is (calls _ e.are)))
      (λ e. (Upgrade.FilesFailThenPostrm w.0 f.0, is_line (page (Upgrade.FilesFailThenPostrm w.0 f.0)) 2 (Some f.0) _ refl fall failed ts at f.2 e.is (calls _ e.are)))
      (undone name undo_three to_files 0 have_three back failed undo)

  -- where the postrm fails
  postrm_fails : Falls page to_files postrm
  postrm_fails fall failed forward last back ts at before here undo is =
      let w = three_done forward before in
      let f = fell_with name _ _ _ forward last fall here in
      let calls = λ (answers : List Answer) (e : Are back answers). three (reached w.0) _ answers forward last back ts is w.1 f.0 e ∙ regrouped w.0 _ in
      four_ends
      (λ e. (Upgrade.PostrmFails w.0, is_line (page (Upgrade.PostrmFails w.0)) 3 None _ refl fall failed ts at f.1 e.is (calls _ e.are)))
      (λ e. (Upgrade.PostrmFailsThenPostinst w.0, is_line (page (Upgrade.PostrmFailsThenPostinst w.0)) 3 None _ refl fall failed ts at f.1 e.is (calls _ e.are)))
      (λ e. (Upgrade.PostrmFailsThenPostrm w.0, is_line (page (Upgrade.PostrmFailsThenPostrm w.0)) 3 None _ refl fall failed ts at f.1 e.is (calls _ e.are)))
      (λ e. (Upgrade.PostrmFailsThenPreinst w.0, is_line (page (Upgrade.PostrmFailsThenPreinst w.0)) 3 None _ refl fall failed ts at f.1 e.is (calls _ e.are)))
      (undone name undo_four four 0 have_four back failed undo)

  -- each legal transcript is a line
  pub each : (ended : Ended) (ts : List Ran) → Legal Anyhow [] ended four ts → (l : Upgrade) × IsLine (page l) ended ts
  each = each_line page four all_done (prerm_fails, (preinst_fails, (files_fail, (postrm_fails, tt))))

  -- and each line is legal

  go_one : (way : Way) (ts : List Ran) → Are ts (prerm_goes way) → Succeed Anyhow [] to_prerm ts
  go_one way ts are = (ts, [], sym (append-nil ts), goes_with name _ _ _ [] way ts are, refl)

  go_two : (way : Way) (ts : List Ran) → Are ts (reached way) → Succeed Anyhow [] to_preinst ts
  go_two way ts are =
      let s = parted (prerm_goes way) (works (Page.new_preinst_upgrade start incoming) ∷ []) ts are in
      (s.0, s.1, s.2, goes_with name _ _ _ [] way s.0 s.3, (s.1, [], sym (append-nil s.1), goes_alone name _ _ s.0 s.1 s.4, refl))

  go_three : (way : Way) (ts : List Ran) → Are ts (reached way) → Succeed Anyhow [] to_files ts
  go_three way ts are =
      let s = parted (prerm_goes way) (works (Page.new_preinst_upgrade start incoming) ∷ []) ts are in
      (s.0, s.1, s.2, goes_with name _ _ _ [] way s.0 s.3, (s.1, [], sym (append-nil s.1), goes_alone name _ _ s.0 s.1 s.4, ([], [], refl, goes_files _ [] refl, refl)))

  go_four : (way end : Way) (ts : List Ran) → Are ts (prerm_goes way ++ works (Page.new_preinst_upgrade start incoming) ∷ Page.postrm_goes start incoming end) → Succeed Anyhow [] four ts
  go_four way end ts are =
      let s = parted (prerm_goes way) (works (Page.new_preinst_upgrade start incoming) ∷ Page.postrm_goes start incoming end) ts are in
      let r = parted (works (Page.new_preinst_upgrade start incoming) ∷ []) (Page.postrm_goes start incoming end) s.1 s.4 in
      (s.0, s.1, s.2, goes_with name _ _ _ [] way s.0 s.3, (r.0, r.1, r.2, goes_alone name _ _ s.0 r.0 r.3, ([], r.1, refl, goes_files _ [] refl, (r.1, [], sym (append-nil r.1), goes_with name _ _ _ _ end r.1 r.4, refl))))

  pub legal : (l : Upgrade) (ts : List Ran) → Are ts (page l).calls → Legal Anyhow [] (page l).end.ended four ts
  legal (Upgrade.Succeeds way end) ts are = go_four way end ts are
  legal Upgrade.PrermFails ts are =
      unwinds [] prerm _ _ _ [] _ _ refl of_none (λ past last e. falls_with name _ _ _ past last 0 e) (λ back e. undoes name undo_one to_prerm 0 have_one back _ (inl (record { are = e; is = refl }))) ts are
  legal Upgrade.PrermFailsThenPostinst ts are =
      unwinds [] prerm _ _ _ [] _ _ refl of_none (λ past last e. falls_with name _ _ _ past last 0 e) (λ back e. undoes name undo_one to_prerm 0 have_one back _ (inr (inl (record { are = e; is = refl })))) ts are
  legal (Upgrade.PreinstFails way) ts are =
      unwinds to_prerm preinst _ _ _ (prerm_goes way) _ _ refl (go_one way) (λ past last e. falls_alone name _ _ past last 1 e) (λ back e. undoes name undo_two to_preinst 0 have_two back _ (inl (record { are = e; is = refl }))) ts are
  legal (Upgrade.PreinstFailsThenPostinst way) ts are =
      unwinds to_prerm preinst _ _ _ (prerm_goes way) _ _ refl (go_one way) (λ past last e. falls_alone name _ _ past last 1 e) (λ back e. undoes name undo_two to_preinst 0 have_two back _ (inr (inl (record { are = e; is = refl })))) ts are
  legal (Upgrade.PreinstFailsThenPostrm way) ts are =
      unwinds to_prerm preinst _ _ _ (prerm_goes way) _ _ refl (go_one way) (λ past last e. falls_alone name _ _ past last 1 e) (λ back e. undoes name undo_two to_preinst 0 have_two back _ (inr (inr (inl (record { are = e; is = refl }))))) ts are
  legal (Upgrade.FilesFail way fault) ts are =
      unwinds to_preinst row_of_files _ _ _ (reached way) _ _ refl (go_two way) (λ past last e. falls_files past last 2 fault e) (λ back e. undoes name undo_three to_files 0 have_three back _ (inl (record { are = e; is = refl }))) ts (are ∙ sym (regrouped way _))
  legal (Upgrade.FilesFailThenPostinst way fault) ts are =
      unwinds to_preinst row_of_files _ _ _ (reached way) _ _ refl (go_two way) (λ past last e. falls_files past last 2 fault e) (λ back e. undoes name undo_three to_files 0 have_three back _ (inr (inl (record { are = e; is = refl })))) ts (are ∙ sym (regrouped way _))
  legal (Upgrade.FilesFailThenPostrm way fault) ts are =
      unwinds to_preinst row_of_files _ _ _ (reached way) _ _ refl (go_two way) (λ past last e. falls_files past last 2 fault e) (λ back e. undoes name undo_three to_files 0 have_three back _ (inr (inr (inl (record { are = e; is = refl }))))) ts (are ∙ sym (regrouped way _))
  legal (Upgrade.PostrmFails way) ts are =
      unwinds to_files postrm _ _ _ (reached way) _ _ refl (go_three way) (λ past last e. falls_with name _ _ _ past last 3 e) (λ back e. undoes name undo_four four 0 have_four back _ (inl (record { are = e; is = refl }))) ts (are ∙ sym (regrouped way _))
  legal (Upgrade.PostrmFailsThenPostinst way) ts are =
      unwinds to_files postrm _ _ _ (reached way) _ _ refl (go_three way) (λ past last e. falls_with name _ _ _ past last 3 e) (λ back e. undoes name undo_four four 0 have_four back _ (inr (inl (record { are = e; is = refl })))) ts (are ∙ sym (regrouped way _))
  legal (Upgrade.PostrmFailsThenPostrm way) ts are =
      unwinds to_files postrm _ _ _ (reached way) _ _ refl (go_three way) (λ past last e. falls_with name _ _ _ past last 3 e) (λ back e. undoes name undo_four four 0 have_four back _ (inr (inr (inl (record { are = e; is = refl }))))) ts (are ∙ sym (regrouped way _))
  legal (Upgrade.PostrmFailsThenPreinst way) ts are =
      unwinds to_files postrm _ _ _ (reached way) _ _ refl (go_three way) (λ past last e. falls_with name _ _ _ past last 3 e) (λ back e. undoes name undo_four four 0 have_four back _ (inr (inr (inr (inl (record { are = e; is = refl })))))) ts (are ∙ sym (regrouped way _))

-- reading a line from how its calls end

by_undo : Upgrade → Upgrade → Upgrade → List Bool → Option Upgrade
by_undo both second first [] = None
by_undo both second first (false ∷ x) = Some first
by_undo both second first (true ∷ []) = None
by_undo both second first (true ∷ false ∷ x) = Some second
by_undo both second first (true ∷ true ∷ x) = Some both

by_postrm : Way → List Bool → Option Upgrade
by_postrm way [] = None
by_postrm way (true ∷ x) = Some (Upgrade.Succeeds way Outright)
by_postrm way (false ∷ []) = None
by_postrm way (false ∷ true ∷ x) = Some (Upgrade.Succeeds way InItsPlace)
by_postrm way (false ∷ false ∷ []) = None
by_postrm way (false ∷ false ∷ false ∷ x) = Some (Upgrade.PostrmFailsThenPreinst way)
by_postrm way (false ∷ false ∷ true ∷ x) = by_undo (Upgrade.PostrmFails way) (Upgrade.PostrmFailsThenPostinst way) (Upgrade.PostrmFailsThenPostrm way) x

by_files : Way → Option StepFault → List Bool → Option Upgrade
by_files way None x = by_postrm way x
by_files way (Some fault) x = by_undo (Upgrade.FilesFail way fault) (Upgrade.FilesFailThenPostinst way fault) (Upgrade.FilesFailThenPostrm way fault) x

by_preinst : Way → Option StepFault → List Bool → Option Upgrade
by_preinst way fault [] = None
by_preinst way fault (true ∷ x) = by_files way fault x
by_preinst way fault (false ∷ x) = by_undo (Upgrade.PreinstFails way) (Upgrade.PreinstFailsThenPostinst way) (Upgrade.PreinstFailsThenPostrm way) x

pub read : Option StepFault → List Bool → Option Upgrade
read fault [] = None
read fault (true ∷ x) = by_preinst Outright fault x
read fault (false ∷ []) = None
read fault (false ∷ true ∷ x) = by_preinst InItsPlace fault x
read fault (false ∷ false ∷ []) = None
read fault (false ∷ false ∷ true ∷ x) = Some Upgrade.PrermFails
read fault (false ∷ false ∷ false ∷ x) = Some Upgrade.PrermFailsThenPostinst

module _ (start : Option Record) (incoming : Record) where
  abbrev of : Upgrade → Line
  of = Page.upgrade start incoming

  pub read_back : (l : Upgrade) → read (fault_of (of l).end.ended) (map (λ a. a.succeeds) (of l).calls) ≡ Some l
  unfolding read by_preinst by_files by_postrm by_undo
  read_back (Upgrade.Succeeds Outright Outright) = refl
  read_back (Upgrade.Succeeds Outright InItsPlace) = refl
  read_back (Upgrade.Succeeds InItsPlace Outright) = refl
  read_back (Upgrade.Succeeds InItsPlace InItsPlace) = refl
  read_back Upgrade.PrermFails = refl
  read_back Upgrade.PrermFailsThenPostinst = refl
  read_back (Upgrade.PreinstFails Outright) = refl
  read_back (Upgrade.PreinstFails InItsPlace) = refl
  read_back (Upgrade.PreinstFailsThenPostrm Outright) = refl
  read_back (Upgrade.PreinstFailsThenPostrm InItsPlace) = refl
  read_back (Upgrade.PreinstFailsThenPostinst Outright) = refl
  read_back (Upgrade.PreinstFailsThenPostinst InItsPlace) = refl
  read_back (Upgrade.FilesFail Outright fault) = refl
  read_back (Upgrade.FilesFail InItsPlace fault) = refl
  read_back (Upgrade.FilesFailThenPostrm Outright fault) = refl
  read_back (Upgrade.FilesFailThenPostrm InItsPlace fault) = refl
  read_back (Upgrade.FilesFailThenPostinst Outright fault) = refl
  read_back (Upgrade.FilesFailThenPostinst InItsPlace fault) = refl
  read_back (Upgrade.PostrmFails Outright) = refl
  read_back (Upgrade.PostrmFails InItsPlace) = refl
  read_back (Upgrade.PostrmFailsThenPreinst Outright) = refl
  read_back (Upgrade.PostrmFailsThenPreinst InItsPlace) = refl
  read_back (Upgrade.PostrmFailsThenPostrm Outright) = refl
  read_back (Upgrade.PostrmFailsThenPostrm InItsPlace) = refl
  read_back (Upgrade.PostrmFailsThenPostinst Outright) = refl
  read_back (Upgrade.PostrmFailsThenPostinst InItsPlace) = refl

  module _ (p : has_prerm (state_of start) ≡ true) where
    upgraded : is_upgrade (state_of start) ≡ true
    upgraded = by (state_of start) p
      where
        by : (s : State) → has_prerm s ≡ true → is_upgrade s ≡ true
        by state.NotInstalled none = cc
        by state.ConfigFiles none = cc
        by state.HalfInstalled none = cc
        by state.Unpacked none = cc
        by state.HalfConfigured called = refl
        by state.Installed called = refl

    pub files_left : (l : Upgrade) → stage_of (kinds_of start []) (place_of start (of l).end.ended) ≡ (of l).end.files
    files_left l = stage_is start incoming true true p upgraded (of l).end.ended ∙ by l
      where
        by : (l : Upgrade) → stage_of (kinds_by true true) (end_of 4 (of l).end.ended) ≡ (of l).end.files
        by (Upgrade.Succeeds way end) = refl
        by Upgrade.PrermFails = refl
        by Upgrade.PrermFailsThenPostinst = refl
        by (Upgrade.PreinstFails way) = refl
        by (Upgrade.PreinstFailsThenPostrm way) = refl
        by (Upgrade.PreinstFailsThenPostinst way) = refl
        by (Upgrade.FilesFail way fault) = refl
        by (Upgrade.FilesFailThenPostrm way fault) = refl
        by (Upgrade.FilesFailThenPostinst way fault) = refl
        by (Upgrade.PostrmFails way) = refl
        by (Upgrade.PostrmFailsThenPreinst way) = refl
        by (Upgrade.PostrmFailsThenPostrm way) = refl
        by (Upgrade.PostrmFailsThenPostinst way) = refl

    pub record_left : (table : List Record) → record_in table (own_name start incoming) ≡ start → (l : Upgrade) → record_in (noted table (notes_at start incoming (kinds_of start []) (place_of start (of l).end.ended))) (own_name start incoming) ≡ (of l).end.left
    record_left table found (Upgrade.Succeeds way end) = left_committed start incoming true true p upgraded table found
    record_left table found Upgrade.PrermFails = left_undone start incoming true true p upgraded table found 0 None
    record_left table found Upgrade.PrermFailsThenPostinst = left_stuck start incoming true true p upgraded table found 0 0 None
    record_left table found (Upgrade.PreinstFails way) = left_undone start incoming true true p upgraded table found 1 None
    record_left table found (Upgrade.PreinstFailsThenPostrm way) = left_stuck start incoming true true p upgraded table found 1 1 None
    record_left table found (Upgrade.PreinstFailsThenPostinst way) = left_stuck start incoming true true p upgraded table found 1 0 None
    record_left table found (Upgrade.FilesFail way fault) = left_undone start incoming true true p upgraded table found 2 (Some fault)
    record_left table found (Upgrade.FilesFailThenPostrm way fault) = left_stuck start incoming true true p upgraded table found 2 1 (Some fault)
    record_left table found (Upgrade.FilesFailThenPostinst way fault) = left_stuck start incoming true true p upgraded table found 2 0 (Some fault)
    record_left table found (Upgrade.PostrmFails way) = left_undone start incoming true true p upgraded table found 3 None
    record_left table found (Upgrade.PostrmFailsThenPreinst way) = left_stuck start incoming true true p upgraded table found 3 3 None
    record_left table found (Upgrade.PostrmFailsThenPostrm way) = left_stuck start incoming true true p upgraded table found 3 1 None
    record_left table found (Upgrade.PostrmFailsThenPostinst way) = left_stuck start incoming true true p upgraded table found 3 0 None

-- the whole page
pub whole : (start : Option Record) (incoming : Record) → has_prerm (state_of start) ≡ true → IsPage (Page.upgrade start incoming) start incoming
whole start incoming prerm =
    is_page (Page.upgrade start incoming) start incoming (four start incoming) (rows_are start incoming prerm) (each start incoming) (legal start incoming) read (read_back start incoming)
    (files_left start incoming prerm) (record_left start incoming prerm)
