-- The file row and its undo by what was answered.
use Rattle.std.proofs.Common.{◌≡◌, inl, inr, ◌+◌, ◌<◌, ℕ, false, List, [], ◌++◌, Option, Some, None, IsTrue, Result, Ok, Err, OnOk, refl, subst, sym, ◌∙◌, ap}
use Rattle.std.specs.Prelude.{IfOk, IfNone, IfSome, MatchOption}
use Rattle.std.proofs.lemmas.Bool.{true≢false}
use Rattle.std.proofs.lemmas.List.{append-nil}
use Rattle.std.specs.List.Sorted.{IsPermutation}
use Rattle.host_core.specs.Paths.{Path}
use Rattle.host_core.specs.World.{World, kind_of}
use Rattle.host_core.specs.Events.{Event}
use Rattle.host_core.specs.Host.{State, AtEachMoment, Reads, Gives, Leaves, Silent, Since, Tells, calls}
use Rattle.host_core.proofs.Moments.{since_reads, since_then, since_weaker}
use Rattle.host_core.specs.declared.fault.HostFault.{HostFault}
use Rattle.host_core.specs.declared.node.Node.{Node}
use Rattle.administration.specs.Files.{KeepsBesideFile}
use Rattle.administration.specs.Places.{list_path, temporary}
use Rattle.undo_rows.specs.Place.{Back, Forward, is_declined, worked}
use Rattle.undo_rows.specs.Transcripts.{IfHonest}
use Rattle.undo_rows.specs.declared.failed.Failed.{Failed}
use Rattle.file_check.specs.Clashes.{Owning, owning}
use Rattle.file_check.specs.Ready.{IsSameBut}
use Rattle.file_check.specs.Sound.{AllSound, IsFirstFault}
use Rattle.file_lists.specs.Filed.{Filed}
use Rattle.file_lists.specs.Writing.{list_file, with_list}
use Rattle.file_check.specs.Rearranged.{IsRearranged}
use Rattle.file_check.proofs.Permuting.{each_permuted}
use Rattle.package_files.specs.declared.work.Work.{Work}
use Rattle.package_files.specs.Free.{IsFreeIn, IsSeen}
use Rattle.package_files.specs.Files.{Each}
use Rattle.package_files.specs.Names.{AllInOrder, IsNamed}
use Rattle.package_files.proofs.WorkLists.{each_map}
use Rattle.status_db.specs.Recorded.{Recorded}
use Rattle.listed_files.specs.Listing.{HasListed, HasTurnedBack, HasUnlisted, MayTurnBack}
use Rattle.listed_files.proofs.Apart.{apart, list_below, spare_below}
use Rattle.listed_files.proofs.Listings.{free_still}
use Rattle.undo_rows.specs.declared.fall.Fall.{Fall}
use Rattle.undo_rows.specs.declared.fall.StepFault.{StepFault}
use Rattle.undo_rows.specs.declared.fall.StepFault.TheVariants.{LinkParent, NoParent, DirInWay, Clash, DiversionTarget, Declined}
use Rattle.unpack_steps.specs.At.{At, IsFileFault, IsStepFault, holding}
use Rattle.unpack_steps.specs.FileMoves.{ByAnswer, HasWrittenRow, IsPathOf, MayWriteRow, places_before, places_of}
use Rattle.unpack_steps.specs.Task.{IsFileRow, Task, kinds, name}
use Rattle.unpack_steps.proofs.FileRow.{at_back, at_stopped, at_turned, at_written, file_fault}
use Rattle.unpack_steps.proofs.Rearranged.{sound_same}

-- nothing was done
pub quiet_moments : (P : World → Type 0) (s : State) → (IsTrue s.honest → P s.world) → Since (λ so_far. P) s s
quiet_moments P s here = record { added = []; events = sym (append-nil s.events); honest = λ h. h; world = refl; each = here }

-- it was looked at, and perhaps written then
module _ (list : Path) (union listed : Node) (works : List Work) (a b : State) (reads : Reads a b) where
  pub looking_moments : AtEachMoment (MayWriteRow list union listed works) a b
  looking_moments = since_reads (λ so_far. MayWriteRow list union listed works a.world) a b reads (λ fs failed. inl refl)

  pub writing_moments : (ordered : List Work) (c : State) → IsRearranged works ordered → AtEachMoment (MayTurnBack list union listed ordered) b c → AtEachMoment (MayWriteRow list union listed works) a c
  writing_moments ordered c moved second = since_then (λ so_far. MayWriteRow list union listed works a.world) a b c looking_moments
      (since_weaker (λ so_far. MayTurnBack list union listed ordered b.world) (λ so_far. MayWriteRow list union listed works a.world) b c
      (λ so_far w is. inr (ordered, moved, subst (λ (v : World). MayTurnBack list union listed ordered v w) reads.world is)) second)

seen_still : (name : Path) (v w : World) → KeepsBesideFile (list_path name) v w → (works : List Work) → Each IsNamed works → Each (IsSeen v) works → Each (IsSeen w) works
seen_still name v w rest works named seen = each_map IsNamed (IsSeen v) (IsSeen w)
    (λ x is saw. saw ∙ ap kind_of (sym (rest x.target (λ e. (apart x (list_path name) is (list_below name)).target (sym e)) (λ e. (apart x (temporary (list_path name)) is (spare_below name)).target (sym e))))) works named seen

-- what was checked was written, in another order
pub row_written : (name : Path) (node : Node) (checked ordered : List Work) (v w : World) → Each IsNamed checked → IsPermutation checked ordered → Each (IsFreeIn v) checked → Each (IsSeen v) checked
    → HasListed (list_path name) node ordered v w → HasWrittenRow (list_path name) node ordered v w
row_written name node checked ordered v w named moved free seen has =
    let ordered_named = each_permuted IsNamed checked ordered moved named in
    record {
      listed = has;
      from = record {
        free = free_still name v has.mid has.replaced.rest ordered ordered_named (each_permuted (IsFreeIn v) checked ordered moved free);
        seen = seen_still name v has.mid has.replaced.rest ordered ordered_named (each_permuted (IsSeen v) checked ordered moved seen);
        has = has.written.each;
      };
    }

-- where the files have a fault, which is no declined step
pub stopped_by : (wrote turned stopped : Type 0) (fault : StepFault) → is_declined (Some fault) ≡ false → stopped → ByAnswer (Some fault) wrote turned stopped
stopped_by wrote turned stopped (LinkParent path) found is = is
stopped_by wrote turned stopped (NoParent path) found is = is
stopped_by wrote turned stopped (DirInWay path) found is = is
stopped_by wrote turned stopped (Clash path owner) found is = is
stopped_by wrote turned stopped (DiversionTarget path diverter) found is = is
stopped_by wrote turned stopped (Declined path) found is = absurd (true≢false found)

pub step_fault : (o : Owning) (works : List Work) (w : World) (fault : StepFault) → is_declined (Some fault) ≡ false → IsFirstFault o works w fault → IsStepFault o works w fault
step_fault o works w (LinkParent path) found is = is
step_fault o works w (NoParent path) found is = is
step_fault o works w (DirInWay path) found is = is
step_fault o works w (Clash path owner) found is = is
step_fault o works w (DiversionTarget path diverter) found is = is
step_fault o works w (Declined path) found is = absurd (true≢false found)

pub where_none : {T : Type 0} (A : Type 0) (B : T → Type 0) (o : Option T) → o ≡ None → MatchOption o A B → A
where_none A B o is told = subst (λ p. MatchOption p A B) is told

pub where_some : {T : Type 0} (A : Type 0) (B : T → Type 0) (o : Option T) (x : T) → o ≡ Some x → MatchOption o A B → B x
where_some A B o x is told = subst (λ p. MatchOption p A B) is told

-- the judgement of the works as they were given, whatever was seen of them
pub judged_by : (o : Owning) (w : World) (xs ys : List Work) (result : Result (Option StepFault) HostFault) → IsSameBut xs ys → IfOk result (λ found. IfNone found (AllSound o ys w)) → IfOk result (λ found. IfSome found (IsFirstFault o xs w))
    → IfOk result (λ found. MatchOption found (AllSound o xs w) (IsFirstFault o xs w))
judged_by o w xs ys (Ok None) same sound fault = sound_same o w xs ys same sound
judged_by o w xs ys (Ok (Some f)) same sound fault = fault
judged_by o w xs ys (Err e) same sound fault = tt

module _ (t : Task) (d : Recorded) (lists : Filed) (places : List Path) (works : List Work) (s : State) (i : ℕ) (row : IsFileRow (kinds t) i) (at : At t (holding d lists places works) s (Forward i)) (u : State) (silent : Silent s u) where
  pub row_judged : (result : Result (Option StepFault) HostFault) → Tells result (λ found w. MatchOption found (AllSound (owning t.ways lists.lists t.yields (name t)) works w) (IsStepFault (owning t.ways lists.lists t.yields (name t)) works w)) s u
      → IfOk result (IfHonest u (IsFileFault t) (calls s))
  row_judged (Ok found) judged = λ h. file_fault t d lists places works s i row at found (silent.honest h) (judged h)
  row_judged (Err e) judged = tt

  pub row_placed : (result : Result (Option StepFault) HostFault) (P : List Event → World → Type 0) → Since P s u → (filed : Filed) (now : List Path) (ordered : List Work)
      → IfOk result (λ found. ByAnswer found (filed ≡ record lists { lists = with_list (name t) t.union lists.lists }) (filed ≡ record lists { lists = with_list (name t) t.listed (with_list (name t) t.union lists.lists) }) (filed ≡ lists))
      → IfOk result (λ found. ByAnswer found (now ≡ places ++ places_of works) (now ≡ places) (now ≡ places)) → IsRearranged works ordered → Each IsNamed ordered
      → IfOk result (λ found. ByAnswer found (AllInOrder ordered) (AllInOrder ordered) (Unit {0}))
      → Gives result (λ found old new. ByAnswer found (HasWrittenRow (list_path (name t)) (list_file t.union) ordered old new) (HasTurnedBack (list_path (name t)) (list_file t.union) (list_file t.listed) ordered old new) (new ≡ old)) s u
      → IfOk result (λ fault. At t (holding d filed now ordered) u (worked i fault))
  row_placed (Ok None) P moments filed now ordered filed_is now_is moved named order wrote = at_written t d lists places works s i row at u silent P moments filed now ordered filed_is now_is moved named order wrote
  row_placed (Ok (Some (LinkParent path))) P moments filed now ordered filed_is now_is moved named order wrote = at_stopped t d lists places works s i row at u silent P moments (LinkParent path) refl filed now ordered filed_is now_is wrote
  row_placed (Ok (Some (NoParent path))) P moments filed now ordered filed_is now_is moved named order wrote = at_stopped t d lists places works s i row at u silent P moments (NoParent path) refl filed now ordered filed_is now_is wrote
  row_placed (Ok (Some (DirInWay path))) P moments filed now ordered filed_is now_is moved named order wrote = at_stopped t d lists places works s i row at u silent P moments (DirInWay path) refl filed now ordered filed_is now_is wrote
  row_placed (Ok (Some (Clash path owner))) P moments filed now ordered filed_is now_is moved named order wrote = at_stopped t d lists places works s i row at u silent P moments (Clash path owner) refl filed now ordered filed_is now_is wrote
  row_placed (Ok (Some (DiversionTarget path diverter))) P moments filed now ordered filed_is now_is moved named order wrote = at_stopped t d lists places works s i row at u silent P moments (DiversionTarget path diverter) refl filed now ordered filed_is now_is wrote
  row_placed (Ok (Some (Declined path))) P moments filed now ordered filed_is now_is moved named order wrote = at_turned t d lists places works s i row at u silent P moments path filed now ordered filed_is now_is moved named order wrote
  row_placed (Err e) P moments filed now ordered filed_is now_is moved named order wrote = tt

pub back_placed : {T : Type 0} (t : Task) (d : Recorded) (lists : Filed) (places : List Path) (works : List Work) (s : State) (i : ℕ) (fall : Fall) (failed : List Failed) → IsFileRow (kinds t) i → i < fall.row
    → At t (holding d lists places works) s (Back (i + 1) fall failed) → (u : State) → Silent s u → (result : Result T HostFault) (P : List Event → World → Type 0) → Since P s u → (filed : Filed) (now : List Path)
    → OnOk result (filed ≡ record lists { lists = with_list (name t) t.listed lists.lists }) → OnOk result (now ≡ places_before places works) → Leaves result (HasUnlisted (list_path (name t)) (list_file t.listed) works) s u
    → OnOk result (At t (holding d filed now works) u (Back i fall failed))
back_placed t d lists places works s i fall failed row less at u silent (Ok x) P moments filed now filed_is now_is undone = at_back t d lists places works s i fall failed row less at u silent P moments filed now filed_is now_is undone
back_placed t d lists places works s i fall failed row less at u silent (Err e) P moments filed now filed_is now_is undone = tt
