-- The moments of a run of stages, by what their parts do and what script calls changed so far.
use Rattle.std.proofs.Common.{◌≡◌, ◌⊎◌, inl, inr, ℕ, List, [], ◌∷◌, ◌++◌, map, sym, ap, subst, ◌∙◌, append_assoc}
use Rattle.std.proofs.lemmas.List.{append-nil}
use Rattle.host_core.specs.World.{World, Change, changed}
use Rattle.host_core.specs.Paths.{Path}
use Rattle.host_core.specs.Events.{Event, IsDeniedIn, changes_of}
use Rattle.host_core.proofs.Denials.{denied_behind, denied_front}
use Rattle.host_core.proofs.Scripts.{changes_of-append, no_change}
use Rattle.administration.specs.Files.{IsDropped, IsDropping, IsReplaced, IsReplacing}
use Rattle.administration.specs.Places.{list_path}
use Rattle.conffiles.specs.Settling.{AreSettled, AreSettling}
use Rattle.diversions.specs.Ways.{Ways}
use Rattle.file_lists.specs.Writing.{list_file}
use Rattle.file_removal.specs.Clearing.{Cleared, IsClearing}
use Rattle.file_removal.specs.Removal.{IsRemoving, IsRemovingDirectories, Removed, RemovedDirectories}
use Rattle.status_db.specs.Held.{HasRecords}
use Rattle.status_db.specs.Noting.{IsNoting}
use Rattle.status_records.specs.Records.{drop_record, put_record}
use Rattle.status_records.specs.declared.record.Record.{Record}
use Rattle.unit_stages.specs.Doing.{AreDoing, IsFirstDoing, MayDo, MayDrop}
use Rattle.unit_stages.specs.Parts.{HasDone, HasDropped, HasNoted, HaveDone, part_records, parts_records}
use Rattle.unit_stages.specs.declared.part.Part.{Part}
use Rattle.unit_stages.specs.declared.part.Part.TheVariants.{Note, Forget, Settle, Remove, RemoveDirectories, Clear, List as Listing, DropList, DropMembers}
use Rattle.unit_stages.specs.Holding.{Holding, after_parts, after_stages}
use Rattle.unit_stages.specs.Running.{ArePast, AreRunning, IsCalling, IsInNext, IsInStage, IsOpenable}
use Rattle.unit_stages.specs.declared.stage.Stage.{Stage}
use Rattle.unit_stages.proofs.Denied.{doing_wider, parts_wider}
use Rattle.removal_engine.specs.Stages.{Deed, Planned, deed, planned}
use Rattle.removal_engine.proofs.Deeds.{all_same_records, deed_records, deeds_records, same_records}

-- P holds of each of some deeds, and of each deed of some stages
abbrev pub All : (Deed → Type 0) → List Deed → Type 0
All P [] = Unit {0}
All P (d ∷ ds) = P d × All P ds

abbrev pub AllIn : (Deed → Type 0) → List Planned → Type 0
AllIn P [] = Unit {0}
AllIn P (p ∷ ps) = (All P p.parts × All P p.restore) × AllIn P ps

-- of a run in which steps at these paths were declined
module _ (name : List ℕ) (declined : Path → Type 0) where
  -- a deed is done
  abbrev pub Done : Deed → List Record → World → World → Type 0
  Done (Deed.Notes r) rs old new = HasNoted (put_record r rs) old new
  Done Deed.Forgets rs old new = HasNoted (drop_record name rs) old new
  Done (Deed.Settles conffiles) rs old new = AreSettled conffiles old new
  Done (Deed.Removes leaving) rs old new = Removed declined leaving old new
  Done (Deed.RemovesDirectories leaving) rs old new = RemovedDirectories declined leaving old new
  Done (Deed.Clears names) rs old new = Cleared names old new
  Done (Deed.Lists paths) rs old new = IsReplaced (list_path name) (list_file paths) old new
  Done Deed.DropsList rs old new = IsDropped (list_path name) old new
  Done (Deed.DropsMembers keep_postrm) rs old new = HasDropped name keep_postrm old new

  -- or under way
  abbrev pub May : Deed → List Record → World → World → Type 0
  May (Deed.Notes r) rs old now = IsNoting rs (put_record r rs) old now
  May Deed.Forgets rs old now = IsNoting rs (drop_record name rs) old now
  May (Deed.Settles conffiles) rs old now = AreSettling conffiles old now
  May (Deed.Removes leaving) rs old now = IsRemoving leaving old now
  May (Deed.RemovesDirectories leaving) rs old now = IsRemovingDirectories leaving old now
  May (Deed.Clears names) rs old now = IsClearing names old now
  May (Deed.Lists paths) rs old now = IsReplacing (list_path name) (list_file paths) old now
  May Deed.DropsList rs old now = IsDropping (list_path name) old now
  May (Deed.DropsMembers keep_postrm) rs old now = MayDrop name keep_postrm old now

  done_deed : (part : Part) (rs : List Record) (v w : World) → HasDone name declined part rs v w → Done (deed part) rs v w
  done_deed (Note r) rs v w is = is
  done_deed Forget rs v w is = is
  done_deed (Settle conffiles) rs v w is = is
  done_deed (Remove leaving) rs v w is = is
  done_deed (RemoveDirectories leaving) rs v w is = is
  done_deed (Clear names) rs v w is = is
  done_deed (Listing paths) rs v w is = is
  done_deed DropList rs v w is = is
  done_deed (DropMembers keep_postrm) rs v w is = is

  may_deed : (part : Part) (rs : List Record) (v w : World) → MayDo name part rs v w → May (deed part) rs v w
  may_deed (Note r) rs v w is = is
  may_deed Forget rs v w is = is
  may_deed (Settle conffiles) rs v w is = is
  may_deed (Remove leaving) rs v w is = is
  may_deed (RemoveDirectories leaving) rs v w is = is
  may_deed (Clear names) rs v w is = is
  may_deed (Listing paths) rs v w is = is
  may_deed DropList rs v w is = is
  may_deed (DropMembers keep_postrm) rs v w is = is

  -- deeds are done, one after another
  abbrev pub AllDone : List Deed → List Record → World → World → Type 0
  AllDone [] rs old new = new ≡ old
  AllDone (d ∷ ds) rs old new = (mid : World) × Done d rs old mid × AllDone ds (deed_records name d rs) mid new

  -- a deed is under way, and the records are those of before it or those after it
  pub record IsAt (d : Deed) (rs : List Record) (old now : World) : Type 0 where
    pub may : May d rs old now
    pub records : HasRecords now rs ⊎ HasRecords now (deed_records name d rs)

  -- a deed is done, and then this
  pub record IsBehind (d : Deed) (rest : List Record → World → Type 0) (rs : List Record) (old : World) : Type 0 where
    pub mid : World
    pub done : Done d rs old mid
    pub further : rest (deed_records name d rs) mid

  -- nothing more is to be done
  pub record IsOver (rs : List Record) (old now : World) : Type 0 where
    pub same : now ≡ old
    pub records : HasRecords now rs

  -- at each moment of deeds
  abbrev pub Amid : List Deed → List Record → World → World → Type 0
  Amid [] rs old now = IsOver rs old now
  Amid (d ∷ ds) rs old now = IsAt d rs old now ⊎ IsBehind d (λ rest mid. Amid ds rest mid now) rs old

  -- the calls of a stage are made, or they were made and this is done where one failed
  pub data IsCalled (restore : List Deed) (rs : List Record) (old : World) (change : Change) (now : World) : Type 0 where
    on_calls : now ≡ changed change old → HasRecords now rs → IsCalled restore rs old change now
    on_restore : (called : World) → called ≡ changed change old → Amid restore rs called now → IsCalled restore rs old change now

  -- a stage is under way: its parts are, or its calls
  pub data IsInside (p : Planned) (rs : List Record) (old : World) (change : Change) (now : World) : Type 0 where
    in_parts : change ≡ [] → Amid p.parts rs old now → IsInside p rs old change now
    in_calls : (ready : World) → AllDone p.parts rs old ready → IsCalled p.restore (deeds_records name p.parts rs) ready change now → IsInside p rs old change now

  -- no stage has begun
  pub record IsBefore (rs : List Record) (old : World) (change : Change) (now : World) : Type 0 where
    pub none : change ≡ []
    pub same : now ≡ old
    pub records : HasRecords now rs

  -- a stage has passed, and then this
  pub record HasPassed (p : Planned) (rest : List Record → World → Change → Type 0) (rs : List Record) (old : World) (change : Change) : Type 0 where
    pub ready : World
    pub done : AllDone p.parts rs old ready
    pub early : Change
    pub late : Change
    pub changes : change ≡ early ++ late
    pub further : rest (deeds_records name p.parts rs) (changed early ready) late

  -- at each moment of stages
  abbrev pub AmidStages : List Planned → List Record → World → Change → World → Type 0
  AmidStages [] rs old change now = IsBefore rs old change now
  AmidStages (p ∷ ps) rs old change now = IsBefore rs old change now ⊎ (IsInside p rs old change now ⊎ HasPassed p (λ rest mid late. AmidStages ps rest mid late now) rs old change)

  -- so it is of parts

  all_done : (parts : List Part) (rs : List Record) (v w : World) → HaveDone name declined parts rs v w → AllDone (map deed parts) rs v w
  all_done [] rs v w same = same
  all_done (part ∷ parts) rs v w done =
      (done.0, done_deed part rs v done.0 done.1, subst (λ (l : List Record). AllDone (map deed parts) l done.0 w) (same_records name part rs) (all_done parts (part_records name part rs) done.0 w done.2))

  first_at : (back : List Part) (rs : List Record) (v w : World) → IsFirstDoing name back rs v w → Amid (map deed back) rs v w
  first_at [] rs v w over = record { same = over.same; records = over.records }
  first_at (part ∷ back) rs v w doing = inl (record {
    may = may_deed part rs v w doing.may;
    records = elim doing.records [ inl is ↦ inl is | inr is ↦ inr (subst (HasRecords w) (same_records name part rs) is) ];
  })

  parts_amid : (front back : List Part) (rs : List Record) (v mid w : World) → HaveDone name declined front rs v mid → IsFirstDoing name back (parts_records name front rs) mid w → Amid (map deed (front ++ back)) rs v w
  parts_amid [] back rs v mid w same next = first_at back rs v w (subst (λ (x : World). IsFirstDoing name back rs x w) same next)
  parts_amid (part ∷ front) back rs v mid w done next = inr (record {
    mid = done.0;
    done = done_deed part rs v done.0 done.1;
    further = subst (λ (l : List Record). Amid (map deed (front ++ back)) l done.0 w) (same_records name part rs) (parts_amid front back (part_records name part rs) done.0 mid w done.2 next);
  })

  doing_amid : (parts : List Part) (rs : List Record) (v w : World) → AreDoing name declined parts rs v w → Amid (map deed parts) rs v w
  doing_amid parts rs v w doing =
      subst (λ (l : List Part). Amid (map deed l) rs v w) (sym doing.are) (parts_amid doing.front doing.back rs v doing.mid w doing.done doing.next)

  -- and of stages
  module _ (ways : Ways) where
    -- steps at these paths were declined among these events
    abbrev pub AreDeclined : List Event → Type 0
    AreDeclined so_far = (p : Path) → IsDeniedIn so_far p → declined p

    own_denied : (own more since before : List Event) (p : Path) → before ≡ own ++ more → AreDeclined (before ++ since) → IsDeniedIn own p → declined p
    own_denied own more since before p are so is = so p (subst (λ (es : List Event). IsDeniedIn (es ++ since) p) (sym are) (denied_front (own ++ more) since p (denied_front own more p is)))

    later_denied : (own more since before : List Event) (p : Path) → before ≡ own ++ more → AreDeclined (before ++ since) → IsDeniedIn (more ++ since) p → declined p
    later_denied own more since before p are so is =
        so p (subst (λ (es : List Event). IsDeniedIn (es ++ since) p) (sym are) (subst (λ es. IsDeniedIn es p) (sym (append_assoc own more since)) (denied_behind own (more ++ since) p is)))

    calling_amid : (restore : List Part) (h : Holding) (old : World) (so_far : List Event) (now : World) (table : List Record) → AreDeclined so_far → IsCalling name ways restore h old so_far now table → IsOpenable table now
        → IsCalled (map deed restore) h.records old (changes_of so_far) now
    calling_amid restore h old so_far now table so (IsCalling.calling scripts is) opens = IsCalled.on_calls scripts.world (subst (HasRecords now) is opens.records)
    calling_amid restore h old so_far now table so (IsCalling.restoring calls after called are scripts quiet doing noted) opens =
        IsCalled.on_restore called
        (scripts.world
        ∙ ap (λ c. changed c old) (sym (ap changes_of are ∙ changes_of-append calls after ∙ ap (λ (c : Change). changes_of calls ++ c) (no_change after quiet) ∙ append-nil (changes_of calls))))
        (doing_amid restore h.records called now
        (doing_wider name (IsDeniedIn after) declined (λ p is. so p (subst (λ es. IsDeniedIn es p) (sym are) (denied_behind calls after p is))) restore h.records called now doing))

    inside_amid : (stage : Stage) (h : Holding) (old : World) (so_far : List Event) (now : World) (table : List Record) → AreDeclined so_far → IsInStage name ways stage h old so_far now table → IsOpenable table now
        → IsInside (planned stage) h.records old (changes_of so_far) now
    inside_amid stage h old so_far now table so (IsInStage.doing quiet doing noted) opens =
        IsInside.in_parts (no_change so_far quiet) (doing_amid stage.parts.items h.records old now (doing_wider name (IsDeniedIn so_far) declined so stage.parts.items h.records old now doing))
    inside_amid stage h old so_far now table so (IsInStage.behind before since ready are quiet done called) opens =
        IsInside.in_calls ready
        (all_done stage.parts.items h.records old ready
        (parts_wider name (IsDeniedIn before) declined (λ p is. so p (subst (λ es. IsDeniedIn es p) (sym are) (denied_front before since p is))) stage.parts.items h.records old ready done))
        (subst (λ (l : List Record). IsCalled (map deed stage.restore.items) l ready (changes_of so_far) now) (all_same_records name stage.parts.items h.records)
        (subst (λ (c : Change). IsCalled (map deed stage.restore.items) (parts_records name stage.parts.items h.records) ready c now)
        (sym (ap changes_of are ∙ changes_of-append before since ∙ ap (λ (c : Change). c ++ changes_of since) (no_change before quiet)))
        (calling_amid stage.restore.items (after_parts name stage.parts.items h) ready since now table (λ p is. so p (subst (λ es. IsDeniedIn es p) (sym are) (denied_behind before since p is))) called opens)))

    not_none : {X : Type 0} (stage : Stage) (rest : List Stage) → [] ≡ stage ∷ rest → X
    not_none stage rest e = absurd (let same : ◌≡◌ {A = List Stage} [] (stage ∷ rest) = e in cc)

    next_amid : (back : List Stage) (h : Holding) (old : World) (so_far : List Event) (now : World) (table : List Record) → AreDeclined so_far → IsInNext name ways back h old so_far now table → IsOpenable table now
        → AmidStages (map planned back) h.records old (changes_of so_far) now
    next_amid [] h old so_far now table so (IsInNext.between none same is) opens = record { none = ap changes_of none; same = same; records = subst (HasRecords now) is opens.records }
    next_amid [] h old so_far now table so (IsInNext.inside stage rest is amid) opens = not_none stage rest is
    next_amid (s ∷ back) h old so_far now table so (IsInNext.between none same is) opens = inl (record { none = ap changes_of none; same = same; records = subst (HasRecords now) is opens.records })
    next_amid (s ∷ back) h old so_far now table so (IsInNext.inside stage rest is amid) opens =
        subst (λ (l : List Stage). AmidStages (map planned l) h.records old (changes_of so_far) now) (sym is) (inr (inl (inside_amid stage h old so_far now table so amid opens)))

    run_amid : (front back : List Stage) (h : Holding) (old : World) (before since : List Event) (reached now : World) (table : List Record) → AreDeclined (before ++ since) → ArePast name ways front h old before reached
        → IsInNext name ways back (after_stages name front h) reached since now table → IsOpenable table now → AmidStages (map planned (front ++ back)) h.records old (changes_of (before ++ since)) now
    run_amid [] back h old before since reached now table so past next opens =
        subst (λ (c : List Event). AmidStages (map planned back) h.records old (changes_of (c ++ since)) now) (sym past.0)
        (next_amid back h old since now table (λ p is. so p (denied_behind before since p is)) (subst (λ (x : World). IsInNext name ways back h x since now table) past.1 next) opens)
    run_amid (s ∷ front) back h old before since reached now table so past next opens =
        let one = past.past in
        inr (inr (record {
          ready = one.ready;
          done = all_done s.parts.items h.records old one.ready
              (parts_wider name (IsDeniedIn one.before) declined (λ p is. own_denied past.own past.more since before p past.events so (subst (λ es. IsDeniedIn es p) (sym one.events) (denied_front one.before one.calls p is))) s.parts.items h.records old one.ready one.done);
          early = changes_of one.calls;
          late = changes_of (past.more ++ since);
          changes = ap (λ (l : List Event). changes_of (l ++ since)) past.events
              ∙ changes_of-append (past.own ++ past.more) since
              ∙ ap (λ (c : Change). c ++ changes_of since) (changes_of-append past.own past.more)
              ∙ ap (λ (c : Change). (c ++ changes_of past.more) ++ changes_of since) (ap changes_of one.events ∙ changes_of-append one.before one.calls ∙ ap (λ (c : Change). c ++ changes_of one.calls) (no_change one.before one.quiet))
              ∙ append_assoc (changes_of one.calls) (changes_of past.more) (changes_of since)
              ∙ ap (λ (c : Change). changes_of one.calls ++ c) (sym (changes_of-append past.more since));
          further = subst (λ (x : World). AmidStages (map planned (front ++ back)) (deeds_records name (map deed s.parts.items) h.records) x (changes_of (past.more ++ since)) now) one.scripts.world
              (subst (λ (l : List Record). AmidStages (map planned (front ++ back)) l past.mid (changes_of (past.more ++ since)) now) (all_same_records name s.parts.items h.records)
              (run_amid front back (after_parts name s.parts.items h) past.mid past.more since reached now table (λ p is. later_denied past.own past.more since before p past.events so is) past.further next opens));
        }))

    -- at each moment of a run
    pub stages_amid : (stages : List Stage) (h : Holding) (old : World) (so_far : List Event) (now : World) → AreDeclined so_far → AreRunning name ways stages h old so_far now → AmidStages (map planned stages) h.records old (changes_of so_far) now
    stages_amid stages h old so_far now so running =
        subst (λ (l : List Stage). AmidStages (map planned l) h.records old (changes_of so_far) now) (sym running.are)
        (subst (λ (l : List Event). AmidStages (map planned (running.front ++ running.back)) h.records old (changes_of l) now) (sym running.events)
        (run_amid running.front running.back h old running.before running.since running.reached now running.table (λ p is. so p (subst (λ es. IsDeniedIn es p) (sym running.events) is)) running.past running.next running.opens))
