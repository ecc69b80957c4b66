-- What stands at a path at each moment of stages, by what their deeds may do there.
use Rattle.std.proofs.Common.{◌≡◌, ◌≢◌, ◌⊎◌, ◌||◌, ◌&&◌, inl, inr, ℕ, Bool, true, false, cond, List, [], ◌∷◌, ◌++◌, Option, Some, None, refl, sym, ap, subst, ◌∙◌, append_assoc}
use Rattle.std.specs.Str.{bytes_eq}
use Rattle.std.proofs.lemmas.Bool.{true≢false}
use Rattle.std.proofs.lemmas.List.{append-nil}
use Rattle.std.proofs.lemmas.Slice.Eq.{bytes_eq-Decides}
use Rattle.host_core.specs.Paths.{Path}
use Rattle.host_core.specs.World.{World, Change, IsDirectory, changed, lowered}
use Rattle.host_core.proofs.Scripts.{changed-append, changed_at}
use Rattle.host_core.proofs.Paths.{decide}
use Rattle.host_core.specs.declared.node.Node.{Node}
use Rattle.host_core.specs.declared.node.Node.TheVariants.{File, Dir, Link}
use Rattle.administration.specs.Places.{list_path, temporary}
use Rattle.conffiles.specs.Settling.{is_name_of_some}
use Rattle.control_members.specs.Names.{is_member_name}
use Rattle.control_members.specs.Stored.{goes, stored_member_path}
use Rattle.file_lists.specs.Writing.{list_file}
use Rattle.file_removal.specs.Clearing.{Cleared, IsClearing, cleared, is_among}
use Rattle.file_removal.specs.Removal.{GoesBy, IsGoing, IsRemovingBy, RemovedUnless, Staying, none_stays}
use Rattle.file_removal.specs.declared.leaving.Leaving.{Leaving}
use Rattle.status_db.specs.Held.{is_record_place}
use Rattle.status_records.specs.declared.record.Record.{Record}
use Rattle.unit_stages.specs.Doing.{MayDrop}
use Rattle.unit_stages.specs.Parts.{HasDropped}
use Rattle.listed_files.specs.Areas.{is_leaving_place}
use Rattle.removal_engine.specs.Stages.{Deed, Planned}
use Rattle.removal_engine.proofs.Deeds.{deed_records, deeds_records}
use Rattle.stop_laws.proofs.Moments.{All, AllDone, AllIn, Amid, AmidStages, Done, IsBefore, IsCalled, IsInside, May}

some_first : (a b : Bool) → a ≡ true → a || b ≡ true
some_first true b is = refl
some_first false b is = cc

some_later : (a b : Bool) → b ≡ true → a || b ≡ true
some_later true b is = refl
some_later false b is = is

both : (a b : Bool) → a ≡ true → b ≡ true → a && b ≡ true
both true b first second = second
both false b first second = first

-- what goes by a list has the place of a path that may go
pub goes_place : (stays : Staying) (d : Bool) (v : World) (xs : List Leaving) (q : Path) → GoesBy stays d v xs q → is_leaving_place xs q ≡ true
goes_place stays d v [] q goes = absurd goes
goes_place stays d v (x ∷ xs) q (inl later) = some_later (x.goes && bytes_eq q x.place) (is_leaving_place xs q) (goes_place stays d v xs q later)
goes_place stays d v (x ∷ xs) q (inr here) =
    some_first (x.goes && bytes_eq q x.place) (is_leaving_place xs q) (both x.goes (bytes_eq q x.place) here.1 ((bytes_eq-Decides q x.place).1 (sym here.0)))

-- and where directories alone go it is one
goes_directory : (stays : Staying) (v : World) (xs : List Leaving) (q : Path) → GoesBy stays true v xs q → IsDirectory (v q)
goes_directory stays v [] q goes = absurd goes
goes_directory stays v (x ∷ xs) q (inl later) = goes_directory stays v xs q later
goes_directory stays v (x ∷ xs) q (inr (place, goes, inl loose)) = absurd (true≢false loose.0)
goes_directory stays v (x ∷ xs) q (inr (place, goes, inr directory)) = directory.0

-- of a directory nothing is taken before it goes
lowered_directory : (there : Option Node) → IsDirectory there → lowered there ≡ there
lowered_directory there is = ap lowered is.1 ∙ sym is.1

cleared_or : (there : Option Node) → (cleared there ≡ there) ⊎ (cleared there ≡ None)
cleared_or None = inl refl
cleared_or (Some (File bytes access)) = inr refl
cleared_or (Some (Dir access)) = inl refl
cleared_or (Some (Link target)) = inr refl

module _ (name : List ℕ) (q : Path) (V : Option Node → Type 0) where
  -- it is none of the package's control files, or one of them
  abbrev pub IsBesideMembers : Type 0
  IsBesideMembers = (member : Path) → is_member_name member ≡ true → q ≢ stored_member_path name member

  abbrev pub IsMember : Type 0
  IsMember = (member : Path) × (is_member_name member ≡ true) × (q ≡ stored_member_path name member)

  -- a deed leaves alone what stands there, or what it leaves has V; a file that is going may lend no rights any more where Lo holds
  abbrev pub SetsOr : (Lo : Type 0) → Deed → Type 0
  SetsOr Lo (Deed.Notes r) = is_record_place q ≡ false
  SetsOr Lo Deed.Forgets = is_record_place q ≡ false
  SetsOr Lo (Deed.Settles conffiles) = is_name_of_some conffiles q ≡ false
  SetsOr Lo (Deed.Removes leaving) = is_leaving_place leaving q ≡ true → V None × Lo
  SetsOr Lo (Deed.RemovesDirectories leaving) = is_leaving_place leaving q ≡ true → V None
  SetsOr Lo (Deed.Clears names) = is_among names q ≡ true → V None
  SetsOr Lo (Deed.Lists paths) = (q ≢ temporary (list_path name)) × (q ≡ list_path name → V (Some (list_file paths)))
  SetsOr Lo Deed.DropsList = q ≡ list_path name → V None
  SetsOr Lo (Deed.DropsMembers keep_postrm) = IsBesideMembers ⊎ (IsMember × V None)

  -- none is
  abbrev pub Sets : Deed → Type 0
  Sets d = SetsOr ⊥ d

  -- without a script call

  abbrev pub IsKeptOr : World → World → Type 0
  IsKeptOr v w = (w q ≡ v q) ⊎ V (w q)

  kept_then : (u v w : World) → IsKeptOr u v → IsKeptOr v w → IsKeptOr u w
  kept_then u v w (inl first) (inl second) = inl (second ∙ first)
  kept_then u v w (inr first) (inl second) = inr (subst V (sym second) first)
  kept_then u v w first (inr second) = inr second

  at_value : (v w : World) (there : Option Node) → w q ≡ there → V there → IsKeptOr v w
  at_value v w there is has = inr (subst V (sym is) has)

  removed_keeps : (declined : Path → Type 0) (d : Bool) (leaving : List Leaving) (v w : World) → (is_leaving_place leaving q ≡ true → V None) → RemovedUnless declined d leaving v w → IsKeptOr v w
  removed_keeps declined d leaving v w sets removed = elim (removed.2.each q) [
    | inl gone ↦ at_value v w None gone.1 (sets (goes_place removed.0 d v leaving q gone.0))
    | inr kept ↦ inl kept.1
  ]

  -- the same, or of what was kept a file lends no rights any more
  abbrev pub IsKeptOrGoing : (Lo : Type 0) → World → World → Type 0
  IsKeptOrGoing Lo v w = IsKeptOr v w ⊎ (Lo × ((mid : World) × IsKeptOr v mid × (w q ≡ lowered (mid q))))

  kept_going : (Lo : Type 0) (u v w : World) → IsKeptOr u v → IsKeptOrGoing Lo v w → IsKeptOrGoing Lo u w
  kept_going Lo u v w first (inl second) = inl (kept_then u v w first second)
  kept_going Lo u v w first (inr going) = inr (going.0, (going.1.0, kept_then u v going.1.0 first going.1.1, going.1.2))

  removing_keeps : (Lo : Type 0) (leaving : List Leaving) (v w : World) → (is_leaving_place leaving q ≡ true → V None × Lo) → IsRemovingBy false leaving v w → IsKeptOrGoing Lo v w
  removing_keeps Lo leaving v w sets removing = by (removing.each q)
    where
      by : (w q ≡ v q) ⊎ (GoesBy none_stays false v leaving q × IsGoing (v q) (w q)) → IsKeptOrGoing Lo v w
      by (inl kept) = inl (inl kept)
      by (inr (goes, inl none)) = inl (at_value v w None none (sets (goes_place none_stays false v leaving q goes)).0)
      by (inr (goes, inr going)) = inr ((sets (goes_place none_stays false v leaving q goes)).1, (v, inl refl, going))

  directories_keep : (leaving : List Leaving) (v w : World) → (is_leaving_place leaving q ≡ true → V None) → IsRemovingBy true leaving v w → IsKeptOr v w
  directories_keep leaving v w sets removing = by (removing.each q)
    where
      by : (w q ≡ v q) ⊎ (GoesBy none_stays true v leaving q × IsGoing (v q) (w q)) → IsKeptOr v w
      by (inl kept) = inl kept
      by (inr (goes, inl none)) = at_value v w None none (sets (goes_place none_stays true v leaving q goes))
      by (inr (goes, inr going)) = inl (going ∙ lowered_directory (v q) (goes_directory none_stays v leaving q goes))

  clears : (v w : World) → V None → w q ≡ cleared (v q) → IsKeptOr v w
  clears v w sets is = elim (cleared_or (v q)) [
    | inl same ↦ inl (is ∙ same)
    | inr none ↦ at_value v w None (is ∙ none) sets
  ]

  cleared_keeps : (names : List Path) (v w : World) → (is_among names q ≡ true → V None) → Cleared names v w → IsKeptOr v w
  cleared_keeps names v w sets is = by (is_among names q) refl (is.each q)
    where
      by : (b : Bool) → is_among names q ≡ b → w q ≡ cond b (cleared (v q)) (v q) → IsKeptOr v w
      by true among at = clears v w (sets among) at
      by false among at = inl at

  clearing_keeps : (names : List Path) (v w : World) → (is_among names q ≡ true → V None) → IsClearing names v w → IsKeptOr v w
  clearing_keeps names v w sets is = elim (is.each q) [
    | inl same ↦ inl same
    | inr gone ↦ clears v w (sets gone.0) gone.1
  ]

  listed_keeps : (paths : List Path) (v w : World) → (q ≢ temporary (list_path name)) × (q ≡ list_path name → V (Some (list_file paths))) → ((w (list_path name) ≡ v (list_path name)) ⊎ (w (list_path name) ≡ Some (list_file paths)))
      → (q ≢ list_path name → w q ≡ v q) → IsKeptOr v w
  listed_keeps paths v w sets target rest = elim (decide q (list_path name)) [
    | inl at ↦ elim target [
      | inl same ↦ inl (ap w at ∙ same ∙ ap v (sym at))
      | inr new ↦ at_value v w (Some (list_file paths)) (ap w at ∙ new) (sets.1 at)
    ]
    | inr off ↦ inl (rest off)
  ]

  dropped_keeps : (v w : World) → (q ≡ list_path name → V None) → ((w (list_path name) ≡ v (list_path name)) ⊎ (w (list_path name) ≡ None)) → (q ≢ list_path name → w q ≡ v q) → IsKeptOr v w
  dropped_keeps v w sets target rest = elim (decide q (list_path name)) [
    | inl at ↦ elim target [
      | inl same ↦ inl (ap w at ∙ same ∙ ap v (sym at))
      | inr none ↦ at_value v w None (ap w at ∙ none) (sets at)
    ]
    | inr off ↦ inl (rest off)
  ]

  one_node : (b : Bool) (before now : Option Node) → now ≡ cond b None before → (now ≡ before) ⊎ (now ≡ None)
  one_node true before now is = inr is
  one_node false before now is = inl is

  members_keep : (keep_postrm : Bool) (v w : World) → Sets (Deed.DropsMembers keep_postrm) → HasDropped name keep_postrm v w → IsKeptOr v w
  members_keep keep_postrm v w (inl off) done = inl (done.taken.rest q off)
  members_keep keep_postrm v w (inr sets) done =
      let member = sets.0.0 in
      let at = sets.0.2 in
      elim (one_node (goes done.names keep_postrm member) (v (stored_member_path name member)) (w (stored_member_path name member)) (done.taken.stands member sets.0.1)) [
        | inl same ↦ inl (ap w at ∙ same ∙ ap v (sym at))
        | inr none ↦ at_value v w None (ap w at ∙ none) sets.1
      ]

  members_keep_amid : (keep_postrm : Bool) (v w : World) → Sets (Deed.DropsMembers keep_postrm) → MayDrop name keep_postrm v w → IsKeptOr v w
  members_keep_amid keep_postrm v w sets (inl same) = inl (ap (λ (x : World). x q) same)
  members_keep_amid keep_postrm v w (inl off) (inr taking) = inl (taking.2.rest q off)
  members_keep_amid keep_postrm v w (inr sets) (inr taking) =
      let member = sets.0.0 in
      let at = sets.0.2 in
      elim (taking.2.own member sets.0.1) [
        | inl same ↦ inl (ap w at ∙ same ∙ ap v (sym at))
        | inr taken ↦ elim (one_node (goes taking.0 keep_postrm member) (v (stored_member_path name member)) (w (stored_member_path name member)) taken) [
          | inl same ↦ inl (ap w at ∙ same ∙ ap v (sym at))
          | inr none ↦ at_value v w None (ap w at ∙ none) sets.1
        ]
      ]

  module _ (Lo : Type 0) (declined : Path → Type 0) where
    done_keeps : (d : Deed) (rs : List Record) (v w : World) → SetsOr Lo d → Done name declined d rs v w → IsKeptOr v w
    done_keeps (Deed.Notes r) rs v w sets done = inl (done.rest q sets)
    done_keeps Deed.Forgets rs v w sets done = inl (done.rest q sets)
    done_keeps (Deed.Settles conffiles) rs v w sets done = inl (done.rest q sets)
    done_keeps (Deed.Removes leaving) rs v w sets done = removed_keeps declined false leaving v w (λ is. (sets is).0) done
    done_keeps (Deed.RemovesDirectories leaving) rs v w sets done = removed_keeps declined true leaving v w sets done
    done_keeps (Deed.Clears names) rs v w sets done = cleared_keeps names v w sets done
    done_keeps (Deed.Lists paths) rs v w sets done = listed_keeps paths v w sets (inr done.target) (λ off. done.rest q off sets.0)
    done_keeps Deed.DropsList rs v w sets done = dropped_keeps v w sets (inr done.target) (λ off. done.rest q off)
    done_keeps (Deed.DropsMembers keep_postrm) rs v w sets done = members_keep keep_postrm v w sets done

    may_keeps : (d : Deed) (rs : List Record) (v w : World) → SetsOr Lo d → May name declined d rs v w → IsKeptOrGoing Lo v w
    may_keeps (Deed.Notes r) rs v w sets may = inl (inl (may.rest q sets))
    may_keeps Deed.Forgets rs v w sets may = inl (inl (may.rest q sets))
    may_keeps (Deed.Settles conffiles) rs v w sets may = inl (inl (may.rest q sets))
    may_keeps (Deed.Removes leaving) rs v w sets may = removing_keeps Lo leaving v w sets may
    may_keeps (Deed.RemovesDirectories leaving) rs v w sets may = inl (directories_keep leaving v w sets may)
    may_keeps (Deed.Clears names) rs v w sets may = inl (clearing_keeps names v w sets may)
    may_keeps (Deed.Lists paths) rs v w sets may = inl (listed_keeps paths v w sets may.target (λ off. may.rest q off sets.0))
    may_keeps Deed.DropsList rs v w sets may = inl (dropped_keeps v w sets may.target (λ off. may.rest q off))
    may_keeps (Deed.DropsMembers keep_postrm) rs v w sets may = inl (members_keep_amid keep_postrm v w sets may)

    pub all_keep : (ds : List Deed) (rs : List Record) (v w : World) → All (SetsOr Lo) ds → AllDone name declined ds rs v w → IsKeptOr v w
    all_keep [] rs v w sets same = inl (ap (λ (x : World). x q) same)
    all_keep (d ∷ ds) rs v w sets done =
        kept_then v done.0 w (done_keeps d rs v done.0 sets.0 done.1) (all_keep ds (deed_records name d rs) done.0 w sets.1 done.2)

    pub amid_going : (ds : List Deed) (rs : List Record) (v w : World) → All (SetsOr Lo) ds → Amid name declined ds rs v w → IsKeptOrGoing Lo v w
    amid_going [] rs v w sets over = inl (inl (ap (λ (x : World). x q) over.same))
    amid_going (d ∷ ds) rs v w sets (inl at) = may_keeps d rs v w sets.0 at.may
    amid_going (d ∷ ds) rs v w sets (inr behind) =
        kept_going Lo v behind.mid w (done_keeps d rs v behind.mid sets.0 behind.done) (amid_going ds (deed_records name d rs) behind.mid w sets.1 behind.further)

  never_going : (v w : World) → IsKeptOrGoing ⊥ v w → IsKeptOr v w
  never_going v w (inl kept) = kept
  never_going v w (inr going) = absurd going.0

  pub all_done_keep : (declined : Path → Type 0) (ds : List Deed) (rs : List Record) (v w : World) → All Sets ds → AllDone name declined ds rs v w → IsKeptOr v w
  all_done_keep declined ds rs v w sets done = all_keep ⊥ declined ds rs v w sets done

  pub amid_keeps : (declined : Path → Type 0) (ds : List Deed) (rs : List Record) (v w : World) → All Sets ds → Amid name declined ds rs v w → IsKeptOr v w
  amid_keeps declined ds rs v w sets amid = never_going v w (amid_going ⊥ declined ds rs v w sets amid)

  -- with the script calls of stages

  -- what they made of what stood there, or of what has V since it was left
  pub data IsSet (change : Change) (old now : World) : Type 0 where
    stood : now q ≡ changed change old q → IsSet change old now
    left : (early late : Change) → change ≡ early ++ late → (mid : World) → V (mid q) → now q ≡ changed late mid q → IsSet change old now

  kept_set : (v w : World) → IsKeptOr v w → IsSet [] v w
  kept_set v w (inl same) = IsSet.stood same
  kept_set v w (inr has) = IsSet.left [] [] refl w has refl

  called_set : (change : Change) (v w : World) → w ≡ changed change v → IsSet change v w
  called_set change v w same = IsSet.stood (ap (λ (x : World). x q) same)

  more_changed : (first second : Change) (u v : World) → v q ≡ changed first u q → changed second v q ≡ changed (first ++ second) u q
  more_changed first second u v is = changed_at second v (changed first u) q is ∙ ap (λ (x : World). x q) (sym (changed-append first second u))

  pub set_then : (first second : Change) (u v w : World) → IsSet first u v → IsSet second v w → IsSet (first ++ second) u w
  set_then first second u v w (IsSet.stood is) (IsSet.stood then) = IsSet.stood (then ∙ more_changed first second u v is)
  set_then first second u v w (IsSet.left early late are mid has is) (IsSet.stood then) =
      IsSet.left early (late ++ second) (ap (λ (c : Change). c ++ second) are ∙ append_assoc early late second) mid has (then ∙ more_changed late second mid v is)
  set_then first second u v w before (IsSet.left early late are mid has is) =
      IsSet.left (first ++ early) late (ap (λ (c : Change). first ++ c) are ∙ sym (append_assoc first early late)) mid has is

  quiet_then : (second : Change) (u v w : World) → IsKeptOr u v → IsSet second v w → IsSet second u w
  quiet_then second u v w first then = set_then [] second u v w (kept_set u v first) then

  then_quiet : (first : Change) (u v w : World) → IsSet first u v → IsKeptOr v w → IsSet first u w
  then_quiet first u v w is then = subst (λ (c : Change). IsSet c u w) (append-nil first) (set_then first [] u v w is (kept_set v w then))

  -- the same, or of that a file lends no rights any more
  abbrev pub IsSetOrGoing : (Lo : Type 0) → Change → World → World → Type 0
  IsSetOrGoing Lo change old now = IsSet change old now ⊎ (Lo × ((mid : World) × IsSet change old mid × (now q ≡ lowered (mid q))))

  never_goes : (change : Change) (old now : World) → IsSetOrGoing ⊥ change old now → IsSet change old now
  never_goes change old now (inl is) = is
  never_goes change old now (inr going) = absurd going.0

  module _ (Lo : Type 0) (declined : Path → Type 0) where
    kept_set_going : (v w : World) → IsKeptOrGoing Lo v w → IsSetOrGoing Lo [] v w
    kept_set_going v w (inl kept) = inl (kept_set v w kept)
    kept_set_going v w (inr going) = inr (going.0, (going.1.0, kept_set v going.1.0 going.1.1, going.1.2))

    set_then_going : (first second : Change) (u v w : World) → IsSet first u v → IsSetOrGoing Lo second v w → IsSetOrGoing Lo (first ++ second) u w
    set_then_going first second u v w before (inl is) = inl (set_then first second u v w before is)
    set_then_going first second u v w before (inr going) = inr (going.0, (going.1.0, set_then first second u v going.1.0 before going.1.1, going.1.2))

    quiet_then_going : (second : Change) (u v w : World) → IsKeptOr u v → IsSetOrGoing Lo second v w → IsSetOrGoing Lo second u w
    quiet_then_going second u v w first then = set_then_going [] second u v w (kept_set u v first) then

    then_quiet_going : (first : Change) (u v w : World) → IsSet first u v → IsKeptOrGoing Lo v w → IsSetOrGoing Lo first u w
    then_quiet_going first u v w is (inl kept) = inl (then_quiet first u v w is kept)
    then_quiet_going first u v w is (inr going) = inr (going.0, (going.1.0, then_quiet first u v going.1.0 is going.1.1, going.1.2))

    before_set : (rs : List Record) (old : World) (change : Change) (now : World) → IsBefore name declined rs old change now → IsSetOrGoing Lo change old now
    before_set rs old change now is = inl (IsSet.stood (ap (λ (x : World). x q) is.same ∙ ap (λ c. changed c old q) (sym is.none)))

    calls_set : (restore : List Deed) (rs : List Record) (old : World) (change : Change) (now : World) → All (SetsOr Lo) restore → IsCalled name declined restore rs old change now → IsSetOrGoing Lo change old now
    calls_set restore rs old change now sets (IsCalled.on_calls same has) = inl (called_set change old now same)
    calls_set restore rs old change now sets (IsCalled.on_restore called same amid) = then_quiet_going change old called now (called_set change old called same) (amid_going Lo declined restore rs called now sets amid)

    pub inside_going : (p : Planned) (rs : List Record) (old : World) (change : Change) (now : World) → All (SetsOr Lo) p.parts → All (SetsOr Lo) p.restore → IsInside name declined p rs old change now → IsSetOrGoing Lo change old now
    inside_going p rs old change now parts restore (IsInside.in_parts none amid) =
        subst (λ (c : Change). IsSetOrGoing Lo c old now) (sym none) (kept_set_going old now (amid_going Lo declined p.parts rs old now parts amid))
    inside_going p rs old change now parts restore (IsInside.in_calls ready done called) =
        quiet_then_going change old ready now (all_keep Lo declined p.parts rs old ready parts done) (calls_set p.restore (deeds_records name p.parts rs) ready change now restore called)

    pub stages_going : (ps : List Planned) (rs : List Record) (old : World) (change : Change) (now : World) → AllIn (SetsOr Lo) ps → AmidStages name declined ps rs old change now → IsSetOrGoing Lo change old now
    stages_going [] rs old change now sets is = before_set rs old change now is
    stages_going (p ∷ ps) rs old change now sets (inl is) = before_set rs old change now is
    stages_going (p ∷ ps) rs old change now sets (inr (inl inside)) = inside_going p rs old change now sets.0.0 sets.0.1 inside
    stages_going (p ∷ ps) rs old change now sets (inr (inr passed)) =
        subst (λ (c : Change). IsSetOrGoing Lo c old now) (sym passed.changes)
        (set_then_going passed.early passed.late old (changed passed.early passed.ready) now
        (quiet_then passed.early old passed.ready (changed passed.early passed.ready) (all_keep Lo declined p.parts rs old passed.ready sets.0.0 passed.done) (called_set passed.early passed.ready (changed passed.early passed.ready) refl))
        (stages_going ps (deeds_records name p.parts rs) (changed passed.early passed.ready) passed.late now sets.1 passed.further))

  pub inside_set : (declined : Path → Type 0) (p : Planned) (rs : List Record) (old : World) (change : Change) (now : World) → All Sets p.parts → All Sets p.restore → IsInside name declined p rs old change now → IsSet change old now
  inside_set declined p rs old change now parts restore inside = never_goes change old now (inside_going ⊥ declined p rs old change now parts restore inside)

  pub stages_set : (declined : Path → Type 0) (ps : List Planned) (rs : List Record) (old : World) (change : Change) (now : World) → AllIn Sets ps → AmidStages name declined ps rs old change now → IsSet change old now
  stages_set declined ps rs old change now sets amid = never_goes change old now (stages_going ⊥ declined ps rs old change now sets amid)
