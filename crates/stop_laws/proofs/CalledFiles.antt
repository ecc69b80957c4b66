-- What stands at the files that the calls of a removal or of configuring name.
use Rattle.std.proofs.Common.{◌≡◌, ◌⊎◌, ◌&&◌, inl, inr, ℕ, Bool, true, false, cond, List, [], ◌∷◌, ◌++◌, codes, map, Option, None, refl, sym, ap, subst, ◌∙◌}
use Rattle.std.proofs.lemmas.Bool.{true≢false}
use Rattle.host_core.specs.Paths.{Path, is_own}
use Rattle.host_core.specs.World.{World, Change, changed}
use Rattle.host_core.specs.Events.{Event, IsDeniedIn, changes_of}
use Rattle.host_core.specs.Outcome.{script_name}
use Rattle.host_core.proofs.Scripts.{changed-append, changed_at, changed_kept}
use Rattle.host_core.specs.declared.call.Call.{Call}
use Rattle.host_core.specs.declared.call.Script.{Script}
use Rattle.host_core.specs.declared.call.Script.TheVariants as script
use Rattle.host_core.specs.declared.call.Side.TheVariants.{Old}
use Rattle.host_core.specs.declared.node.Node.{Node}
use Rattle.administration.specs.Places.{script_path}
use Rattle.control_members.specs.Stored.{goes, is_among}
use Rattle.control_members.proofs.MemberNames.{script_is_member}
use Rattle.diversions.specs.Ways.{Ways}
use Rattle.file_lists.specs.Owners.{paths_of}
use Rattle.file_lists.specs.declared.paths.PackageList.{PackageList}
use Rattle.list_changes.specs.Leaving.{leaving_of}
use Rattle.status_records.specs.declared.record.Record.{Record}
use Rattle.status_records.specs.declared.words.State.{State}
use Rattle.status_records.specs.declared.words.State.TheVariants as state
use Rattle.unit_stages.specs.Doing.{MayDrop}
use Rattle.unit_stages.specs.Holding.{Holding, after_stages}
use Rattle.unit_stages.specs.Running.{AreRunning, IsInNext, IsInStage}
use Rattle.unit_stages.specs.declared.stage.Stage.{Stage}
use Rattle.unpack_commit.proofs.Left.{member_within}
use Rattle.unpack_commit.proofs.Ready.{member_is_no_list}
use Rattle.unpack_commit.proofs.Stays.{no_leaving_place}
use Rattle.listed_files.specs.Areas.{is_leaving_place}
use Rattle.listed_files.specs.Concluding.{AreElsewhere}
use Rattle.configure_engine.specs.Units.{Given as Configuring, IsAmid as IsAmidConfiguring}
use Rattle.removal_engine.specs.Lists.{leaving_directories}
use Rattle.removal_engine.specs.Names.{cleared_names, purged_names, waiting_names}
use Rattle.removal_engine.specs.Records.{config_files, entry_paths, goes_at_once, half_configured, losing_files, purged, without_files}
use Rattle.removal_engine.specs.Scripts.{AreStored, postrm_row, prerm_row, purge_row, quiet_row}
use Rattle.removal_engine.specs.Stages.{Deed, Planned, files_stage, files_stages, gone_stage, left_stage, planned, prerm_stage, purge_stages, removal_stages, stage_of, stages_from}
use Rattle.removal_engine.specs.Units.{Given, IsAmid, IsPlanOf}
use Rattle.removal_engine.specs.declared.extent.Extent.{Extent}
use Rattle.removal_engine.specs.declared.extent.Extent.TheVariants.{Remove, Purge, InFavour}
use Rattle.removal_engine.specs.declared.scripts.Stored.{Stored}
use Rattle.removal_engine.proofs.Deeds.{deed_records, deeds_records}
use Rattle.removal_engine.proofs.Elsewhere.{cleared_elsewhere, purged_elsewhere, waiting_elsewhere}
use Rattle.removal_engine.proofs.Sparing.{leaving_spares}
use Rattle.removal_engine.proofs.Tables.{is_named}
use Rattle.stop_laws.specs.Called.{CallsStored, IsCallAmong, IsCallOf}
use Rattle.stop_laws.proofs.Avoiding.{own_avoided}
use Rattle.stop_laws.proofs.CalledStages.{configure_calls_stored, no_call, stored_call}
use Rattle.stop_laws.proofs.Configures.{configure_member}
use Rattle.stop_laws.proofs.Moments.{All, AllDone, AllIn, Amid, AmidStages, Done, IsBefore, IsAt, IsCalled, IsInside, May, stages_amid}
use Rattle.stop_laws.proofs.Taken.{IsKeptOr, Sets, all_done_keep, amid_keeps}

abbrev Never : Option Node → Type 0
Never there = ⊥

-- a call of one of these stages
abbrev IsCallIn : List Planned → Call → Type 0
IsCallIn [] call = ⊥
IsCallIn (p ∷ ps) call = IsCallOf p.row call ⊎ IsCallIn ps call

as_planned : (stages : List Stage) (call : Call) → IsCallAmong stages call → IsCallIn (map planned stages) call
as_planned [] call none = absurd none
as_planned (stage ∷ stages) call (inl here) = inl here
as_planned (stage ∷ stages) call (inr later) = inr (as_planned stages call later)

among_back : (front back : List Stage) (call : Call) → IsCallAmong back call → IsCallAmong (front ++ back) call
among_back [] back call is = is
among_back (stage ∷ front) back call is = inr (among_back front back call is)

-- the postrm stays where it is kept

none_goes : (among : Bool) (there : Option Node) → cond (among && false) None there ≡ there
none_goes true there = refl
none_goes false there = refl

kept_postrm : (s : Script) → s ≡ script.Postrm → (names : List Path) (there : Option Node) → cond (goes names true (script_name s)) None there ≡ there
kept_postrm s is names there =
    subst (λ (t : Script). cond (goes names true (script_name t)) None there ≡ there) (sym is) (none_goes (is_among names (script_name script.Postrm)) there)

module _ (name : List ℕ) (s : Script) where
  abbrev q : Path
  q = script_path name s

  -- a deed leaves the stored script alone
  abbrev pub Leaves : Deed → Type 0
  Leaves d = Sets name q Never d ⊎ ((d ≡ Deed.DropsMembers true) × (s ≡ script.Postrm))

  unchanged : (v w : World) → IsKeptOr name q Never v w → w q ≡ v q
  unchanged v w (inl same) = same
  unchanged v w (inr none) = absurd none

  same_done : (declined : Path → Type 0) (d : Deed) (rs : List Record) (v w : World) → Leaves d → Done name declined d rs v w → w q ≡ v q
  same_done declined d rs v w (inl sets) done = unchanged v w (all_done_keep name q Never declined (d ∷ []) rs v w (sets, tt) (w, done, refl))
  same_done declined d rs v w (inr keeps) done =
      let dropped = subst (λ (e : Deed). Done name declined e rs v w) keeps.0 done in
      dropped.taken.stands (script_name s) (script_is_member s) ∙ kept_postrm s keeps.1 dropped.names (v q)

  same_at : (declined : Path → Type 0) (d : Deed) (rs : List Record) (v w : World) → Leaves d → IsAt name declined d rs v w → w q ≡ v q
  same_at declined d rs v w (inl sets) at = unchanged v w (amid_keeps name q Never declined (d ∷ []) rs v w (sets, tt) (inl at))
  same_at declined d rs v w (inr keeps) at = by (subst (λ (e : Deed). May name declined e rs v w) keeps.0 at.may)
    where
      by : MayDrop name true v w → w q ≡ v q
      by (inl same) = ap (λ (x : World). x q) same
      by (inr taking) = elim (taking.2.own (script_name s) (script_is_member s)) [
        | inl same ↦ same
        | inr taken ↦ taken ∙ kept_postrm s keeps.1 taking.0 (v q)
      ]

  all_same : (declined : Path → Type 0) (ds : List Deed) (rs : List Record) (v w : World) → All Leaves ds → AllDone name declined ds rs v w → w q ≡ v q
  all_same declined [] rs v w leaves same = ap (λ (x : World). x q) same
  all_same declined (d ∷ ds) rs v w leaves done = all_same declined ds (deed_records name d rs) done.0 w leaves.1 done.2 ∙ same_done declined d rs v done.0 leaves.0 done.1

  amid_same : (declined : Path → Type 0) (ds : List Deed) (rs : List Record) (v w : World) → All Leaves ds → Amid name declined ds rs v w → w q ≡ v q
  amid_same declined [] rs v w leaves over = ap (λ (x : World). x q) over.same
  amid_same declined (d ∷ ds) rs v w leaves (inl at) = same_at declined d rs v w leaves.0 at
  amid_same declined (d ∷ ds) rs v w leaves (inr behind) =
      amid_same declined ds (deed_records name d rs) behind.mid w leaves.1 behind.further ∙ same_done declined d rs v behind.mid leaves.0 behind.done

  -- script calls alone change what stands there

  before_same : (declined : Path → Type 0) (rs : List Record) (old : World) (change : Change) (now : World) → IsBefore name declined rs old change now → now q ≡ changed change old q
  before_same declined rs old change now is = ap (λ (x : World). x q) is.same ∙ ap (λ c. changed c old q) (sym is.none)

  called_same : (declined : Path → Type 0) (restore : List Deed) (rs : List Record) (old : World) (change : Change) (now : World) → All Leaves restore → IsCalled name declined restore rs old change now → now q ≡ changed change old q
  called_same declined restore rs old change now leaves (IsCalled.on_calls same has) = ap (λ (x : World). x q) same
  called_same declined restore rs old change now leaves (IsCalled.on_restore called same amid) = amid_same declined restore rs called now leaves amid ∙ ap (λ (x : World). x q) same

  inside_same : (declined : Path → Type 0) (p : Planned) (rs : List Record) (old : World) (change : Change) (now : World) → All Leaves p.parts → All Leaves p.restore → IsInside name declined p rs old change now → now q ≡ changed change old q
  inside_same declined p rs old change now parts restore (IsInside.in_parts none amid) = amid_same declined p.parts rs old now parts amid ∙ ap (λ c. changed c old q) (sym none)
  inside_same declined p rs old change now parts restore (IsInside.in_calls ready done called) =
      called_same declined p.restore (deeds_records name p.parts rs) ready change now restore called
      ∙ changed_at change ready old q (all_same declined p.parts rs old ready parts done)

  stages_same : (declined : Path → Type 0) (ps : List Planned) (rs : List Record) (old : World) (change : Change) (now : World) → AllIn Leaves ps → AmidStages name declined ps rs old change now → now q ≡ changed change old q
  stages_same declined [] rs old change now leaves is = before_same declined rs old change now is
  stages_same declined (p ∷ ps) rs old change now leaves (inl is) = before_same declined rs old change now is
  stages_same declined (p ∷ ps) rs old change now leaves (inr (inl inside)) = inside_same declined p rs old change now leaves.0.0 leaves.0.1 inside
  stages_same declined (p ∷ ps) rs old change now leaves (inr (inr passed)) =
      stages_same declined ps (deeds_records name p.parts rs) (changed passed.early passed.ready) passed.late now leaves.1 passed.further
      ∙ ap (λ (x : World). x q) (sym (changed-append passed.early passed.late passed.ready))
      ∙ changed_at (passed.early ++ passed.late) passed.ready old q (all_same declined p.parts rs old passed.ready leaves.0.0 passed.done)
      ∙ ap (λ c. changed c old q) (sym passed.changes)

  -- as long as a call is still to come, the deeds up to it leave the script alone
  abbrev pub AreSafe : Call → List Planned → Type 0
  AreSafe call [] = Unit {0}
  AreSafe call (p ∷ ps) = (IsCallIn (p ∷ ps) call → All Leaves p.parts × All Leaves p.restore) × AreSafe call ps

  leaves_up_to : (call : Call) (front : List Stage) (b : Stage) (rest : List Stage) → IsCallAmong (b ∷ rest) call → AreSafe call (map planned (front ++ b ∷ rest)) → AllIn Leaves (map planned (front ++ b ∷ []))
  leaves_up_to call [] b rest is safe = (safe.0 (as_planned (b ∷ rest) call is), tt)
  leaves_up_to call (stage ∷ front) b rest is safe =
      (safe.0 (inr (as_planned (front ++ b ∷ rest) call (among_back front (b ∷ rest) call is))), leaves_up_to call front b rest is safe.1)

  module _ (ways : Ways) (h : Holding) (old now : World) (so_far : List Event) where
    first_alone : (b : Stage) (rest : List Stage) (at : Holding) (reached : World) (since : List Event) (table : List Record) → IsInNext name ways (b ∷ rest) at reached since now table
        → IsInNext name ways (b ∷ []) at reached since now table
    first_alone b rest at reached since table (IsInNext.between none same is) = IsInNext.between none same is
    first_alone b rest at reached since table (IsInNext.inside stage others are amid) =
        let same : b ≡ stage = cc are in
        IsInNext.inside b [] refl (subst (λ (x : Stage). IsInStage name ways x at reached since now table) (sym same) amid)

    -- a run up to the first stage that isn't past
    up_to : (stages : List Stage) (running : AreRunning name ways stages h old so_far now) (b : Stage) (rest : List Stage) → running.back ≡ b ∷ rest → AreRunning name ways (running.front ++ b ∷ []) h old so_far now
    up_to stages running b rest is = record {
      front = running.front;
      back = b ∷ [];
      are = refl;
      before = running.before;
      since = running.since;
      events = running.events;
      reached = running.reached;
      past = running.past;
      table = running.table;
      next = first_alone b rest (after_stages name running.front h) running.reached running.since running.table
          (subst (λ (l : List Stage). IsInNext name ways l (after_stages name running.front h) running.reached running.since now running.table) is running.next);
      opens = running.opens;
    }

    pub running_same : (call : Call) (stages : List Stage) (running : AreRunning name ways stages h old so_far now) → AreSafe call (map planned stages) → IsCallAmong running.back call → now q ≡ old q
    running_same call stages running safe is = by running.back refl is
      where
        by : (back : List Stage) → running.back ≡ back → IsCallAmong back call → now q ≡ old q
        by [] are none = absurd none
        by (b ∷ rest) are among =
            let here = up_to stages running b rest are in
            let whole = running.front ++ b ∷ [] in
            stages_same (IsDeniedIn so_far) (map planned whole) h.records old (changes_of so_far) now
            (leaves_up_to call running.front b rest among
            (subst (λ (l : List Stage). AreSafe call (map planned l)) (running.are ∙ ap (λ (l : List Stage). running.front ++ l) are) safe))
            (stages_amid name (IsDeniedIn so_far) ways whole h old so_far now (λ p is. is) here)
            ∙ changed_kept is_own (changes_of so_far) old (own_avoided name ways whole h old so_far now here) q refl

-- the stages of a removal

module _ (ways : Ways) (lists : List PackageList) (r : Record) (stored : Stored) (w : World) (seen : AreStored r.name w stored) (call : Call) where
  abbrev LeftAlone : Deed → Type 0
  LeftAlone = Leaves r.name call.script

  abbrev Stored_then : Type 0
  Stored_then = CallsStored r.name w call

  abbrev place : Path
  place = script_path r.name call.script

  -- the stages have stored calls alone, and are safe
  abbrev AreGood : List Planned → Type 0
  AreGood ps = (IsCallIn ps call → Stored_then) × AreSafe r.name call.script call ps

  good : (p : Planned) (ps : List Planned) → (IsCallOf p.row call → Stored_then) → (IsCallIn (p ∷ ps) call → All LeftAlone p.parts × All LeftAlone p.restore) → AreGood ps → AreGood (p ∷ ps)
  good p ps has leaves rest = ((λ is. elim is [ inl here ↦ has here | inr later ↦ rest.0 later ]), (leaves, rest.1))

  good_none : AreGood []
  good_none = ((λ none. absurd none), tt)

  -- deeds elsewhere

  noted : (x : Record) → LeftAlone (Deed.Notes x)
  noted x = inl refl

  off_list : Sets r.name place Never Deed.DropsList
  off_list e = (member_is_no_list r.name (script_name call.script) r.name (script_is_member call.script)).0 e

  listed_off : (paths : List Path) → LeftAlone (Deed.Lists paths)
  listed_off paths = inl ((member_is_no_list r.name (script_name call.script) r.name (script_is_member call.script)).1, off_list)

  no_leaving : (to_stay listed : List Path) (c : Record) → is_leaving_place (leaving_of ways lists c.name to_stay (entry_paths c.conffiles) listed) place ≡ true → ⊥
  no_leaving to_stay listed c is =
      true≢false (sym is ∙ no_leaving_place (leaving_of ways lists c.name to_stay (entry_paths c.conffiles) listed) place (leaving_spares ways lists c.name to_stay (entry_paths c.conffiles) listed) (member_within r.name (script_name call.script)))

  no_name : (names : List Path) → AreElsewhere names → LeftAlone (Deed.Clears names)
  no_name names elsewhere = inl (λ is. true≢false (sym is ∙ elsewhere place (member_within r.name (script_name call.script))))

  -- rows

  silent : {X : Type 0} → IsCallOf (quiet_row r.name) call → X
  silent (IsCallOf.forward is) = no_call call is
  silent (IsCallOf.fallback is) = no_call call is
  silent (IsCallOf.undo is) = no_call call is

  abbrev made : Script → List ℕ → Call
  made s word = record { side = Old; «package» = r.name; script = s; at = script_path r.name s; args = word ∷ [] }

  prerm_calls : IsCallOf (prerm_row r.name stored) call → Stored_then
  prerm_calls (IsCallOf.forward is) = (stored_call r.name script.Prerm stored.prerm w (made script.Prerm (codes "remove")) call refl refl refl refl seen.prerm is).0
  prerm_calls (IsCallOf.fallback is) = no_call call is
  prerm_calls (IsCallOf.undo is) = (stored_call r.name script.Postinst stored.postinst w (made script.Postinst (codes "abort-remove")) call refl refl refl refl seen.postinst is).0

  postrm_calls : IsCallOf (postrm_row r.name stored) call → Stored_then
  postrm_calls (IsCallOf.forward is) = (stored_call r.name script.Postrm stored.postrm w (made script.Postrm (codes "remove")) call refl refl refl refl seen.postrm is).0
  postrm_calls (IsCallOf.fallback is) = no_call call is
  postrm_calls (IsCallOf.undo is) = no_call call is

  purge_calls : IsCallOf (purge_row r.name stored) call → Stored_then × (call.script ≡ script.Postrm)
  purge_calls (IsCallOf.forward is) = stored_call r.name script.Postrm stored.postrm w (made script.Postrm (codes "purge")) call refl refl refl refl seen.postrm is
  purge_calls (IsCallOf.fallback is) = no_call call is
  purge_calls (IsCallOf.undo is) = no_call call is

  -- stages

  last_call : {X : Type 0} → IsCallOf (quiet_row r.name) call ⊎ ⊥ → X
  last_call (inl is) = silent is
  last_call (inr none) = absurd none

  module _ (c : Record) (listed : List Path) where
    -- the stages of a purge, of a package of this name
    abbrev first_of : List ℕ → Planned
    first_of n = stage_of (Deed.Notes (purged c) ∷ Deed.Clears (purged_names ways lists c) ∷ []) (purge_row n stored)

    abbrev last_of : List ℕ → Planned
    last_of n = stage_of (Deed.RemovesDirectories (leaving_directories ways lists c listed) ∷ Deed.Lists [] ∷ Deed.DropsList ∷ Deed.DropsMembers false ∷ Deed.Forgets ∷ []) (quiet_row n)

    purge_good : c.name ≡ r.name → AreGood (purge_stages ways lists c stored listed)
    purge_good named = subst (λ (n : List ℕ). AreGood (first_of n ∷ last_of n ∷ [])) (sym named)
        (good (first_of r.name) (last_of r.name ∷ []) (λ is. (purge_calls is).0)
        (λ is. ((noted (purged c), (no_name (purged_names ways lists c) (purged_elsewhere ways lists c), tt)), tt))
        (good (last_of r.name) [] silent last_call good_none))

  purge_only : (c : Record) (listed : List Path) → c.name ≡ r.name → IsCallIn (purge_stages ways lists c stored listed) call → call.script ≡ script.Postrm
  purge_only c listed named (inl is) = (purge_calls (subst (λ (n : List ℕ). IsCallOf (purge_row n stored) call) named is)).1
  purge_only c listed named (inr (inl is)) = silent (subst (λ (n : List ℕ). IsCallOf (quiet_row n) call) named is)
  purge_only c listed named (inr (inr none)) = absurd none

  module _ (to_come : List Path) where
    left_good : (rest : List Planned) → (IsCallIn rest call → call.script ≡ script.Postrm) → AreGood rest → AreGood (left_stage r ∷ rest)
    left_good rest postrm is = good (left_stage r) rest silent (λ among. ((inr (refl, later among), (noted (config_files r), tt)), tt)) is
      where
        later : IsCallIn (left_stage r ∷ rest) call → call.script ≡ script.Postrm
        later (inl here) = silent here
        later (inr among) = postrm among

    behind_good : (purge : Bool) → AreGood (left_stage r ∷ cond purge (purge_stages ways lists (config_files r) stored to_come) [])
    behind_good true = left_good (purge_stages ways lists (config_files r) stored to_come) (purge_only (config_files r) to_come refl) (purge_good (config_files r) to_come refl)
    behind_good false = left_good [] (λ none. absurd none) good_none

    ends_good : (at_once purge : Bool) → AreGood (cond at_once (gone_stage r ∷ []) (left_stage r ∷ cond purge (purge_stages ways lists (config_files r) stored to_come) []))
    ends_good true purge = good (gone_stage r) [] silent last_call good_none
    ends_good false purge = behind_good purge

    files_good : (purge : Bool) → AreGood (files_stages ways lists r stored purge to_come)
    files_good purge =
        good (files_stage ways lists r stored to_come) _ postrm_calls
        (λ is. (
          (
            noted (losing_files r),
            (
              no_name (waiting_names ways r.name r.pending) (waiting_elsewhere ways r.name r.pending),
              (
                inl (λ is. absurd (no_leaving to_come (paths_of lists r.name) r is)),
                (no_name (cleared_names ways lists r) (cleared_elsewhere ways lists r), (listed_off to_come, (noted (without_files r), tt))),
              ),
            ),
          ),
          tt,
        ))
        (ends_good (goes_at_once r stored) purge)

    prerm_good : (rest : List Planned) → AreGood rest → AreGood (prerm_stage r stored ∷ rest)
    prerm_good rest is = good (prerm_stage r stored) rest prerm_calls (λ among. ((noted (half_configured r), tt), (noted r, tt))) is

    from_good : (s : State) (purge : Bool) → AreGood (stages_from ways lists s r stored purge to_come)
    from_good state.NotInstalled purge = files_good purge
    from_good state.ConfigFiles purge = purge_good r (paths_of lists r.name) refl
    from_good state.HalfInstalled purge = files_good purge
    from_good state.Unpacked purge = files_good purge
    from_good state.HalfConfigured purge = prerm_good (files_stages ways lists r stored purge to_come) (files_good purge)
    from_good state.Installed purge = prerm_good (files_stages ways lists r stored purge to_come) (files_good purge)

    pub removal_good : (extent : Extent) → AreGood (removal_stages ways lists extent r stored to_come)
    removal_good Remove = from_good r.state false
    removal_good Purge = from_good r.state true
    removal_good InFavour = files_good false

-- units

good_plan : (g : Given) (w : World) (stages : List Stage) (plan : IsPlanOf g w true stages) (call : Call)
    → (IsCallIn (map planned stages) call → CallsStored plan.entry.name w call) × AreSafe plan.entry.name call.script call (map planned stages)
good_plan g w stages plan call =
    let r = plan.entry in
    subst (λ (ps : List Planned). (IsCallIn ps call → CallsStored r.name w call) × AreSafe r.name call.script call ps) (sym plan.plan.are)
    (removal_good g.ways g.before.lists r plan.plan.stored w (plan.plan.seen refl) call plan.plan.to_come g.extent)

pub removal_calls_stored : (g : Given) (w : World) (stages : List Stage) → IsPlanOf g w true stages → (call : Call) → IsCallAmong stages call → CallsStored g.name w call
removal_calls_stored g w stages plan call is =
    subst (λ (n : List ℕ). CallsStored n w call) (is_named g.before.records g.name plan.entry plan.found) ((good_plan g w stages plan call).0 (as_planned stages call is))

pub removal_files_same : (g : Given) (old now : World) (so_far : List Event) (amid : IsAmid g old so_far now) (call : Call) → IsCallAmong amid.running.back call → now call.at ≡ old call.at
removal_files_same g old now so_far amid call is =
    let named = is_named g.before.records g.name amid.plan.entry amid.plan.found in
    let among = subst (λ (l : List Stage). IsCallAmong l call) (sym amid.running.are) (among_back amid.running.front amid.running.back call is) in
    subst (λ (p : Path). now p ≡ old p) (sym (removal_calls_stored g old amid.stages amid.plan call among).at)
    (running_same g.name call.script g.ways g.before old now so_far call amid.stages amid.running
    (subst (λ (n : List ℕ). AreSafe n call.script call (map planned amid.stages)) named (good_plan g old amid.stages amid.plan call).1) is)

pub configure_files_same : (g : Configuring) (old now : World) (so_far : List Event) (amid : IsAmidConfiguring g old so_far now) (call : Call) → IsCallAmong amid.stages call → now call.at ≡ old call.at
configure_files_same g old now so_far amid call is =
    subst (λ (p : Path). now p ≡ old p) (sym (configure_calls_stored g old amid.stages amid.plan call is).at)
    (configure_member g old now so_far g.name (script_name call.script) (script_is_member call.script) (inr amid))
