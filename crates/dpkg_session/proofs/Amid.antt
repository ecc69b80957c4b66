-- What holds at each moment of a run.
use Rattle.std.proofs.Common.{◌≡◌, inl, inr, Bool, IsTrue, List, [], ◌∷◌, ◌++◌, None, Result, Ok, Err, refl, sym, ap, subst, ◌∙◌, append_assoc}
use Rattle.std.proofs.lemmas.List.{append-nil, append_cancel_left}
use Rattle.displaced_packages.specs.Displacing.{IsAmidDisplacing}
use Rattle.displaced_packages.specs.Losing.{losing_beside}
use Rattle.diversions.specs.Ways.{Ways}
use Rattle.file_lists.specs.declared.paths.PackageList.{PackageList}
use Rattle.host_core.specs.Paths.{Path}
use Rattle.host_core.specs.World.{World}
use Rattle.host_core.specs.Events.{Event}
use Rattle.host_core.specs.Host.{State, Since}
use Rattle.host_core.proofs.Moments.{grown, since_start, since_then, since_weaker, since_weaker_if}
use Rattle.package_tree.specs.declared.package.Package.{Package}
use Rattle.package_tree.specs.declared.fault.TreeFault.{TreeFault}
use Rattle.removal_run.specs.Units.{holding_of}
use Rattle.status_db.specs.Recorded.{Recorded}
use Rattle.undo_rows.specs.declared.rows.Called.{Called}
use Rattle.unit_reports.specs.Held.{Held, places_of}
use Rattle.unpack_relations.specs.declared.beside.Beside.{Beside}
use Rattle.unpack_relations.specs.declared.checking.Checked.{Checked}
use Rattle.unpack_relations.specs.declared.checking.Checked.TheVariants.{Planned}
use Rattle.unpack_relations.specs.declared.options.UnpackOptions.{UnpackOptions}
use Rattle.dpkg_session.specs.declared.report.Candidate.{Candidate}
use Rattle.unit_reports.specs.declared.report.Unit.{Unit as AUnit}
use Rattle.dpkg_session.specs.Refusals.{IsDecisionFor}
use Rattle.dpkg_session.specs.Units.{HasUnpackedBeside, held_with}
use Rattle.dpkg_session.proofs.Runs.{falls_run}
use Rattle.dpkg_session.specs.Run.{IsAmidBeside, IsAmidBy, IsAmidDecided, IsAmidNext, IsAmidPackage, IsAmidRun, IsAmidUnitOf, IsAmidUnpack, IsRun}

-- nothing is done yet

package_start : (auto : UnpackOptions) (p : Package) (before : Held) (w : World) → IsAmidPackage auto p before w [] w
package_start auto p before w = inl (refl, refl)

pub since_decided_start : (auto : UnpackOptions) (p : Package) (before : Held) (s : State) → Since (IsAmidDecided auto p before s.world) s s
since_decided_start auto p before s = since_start (IsAmidDecided auto p before s.world) s (inl (refl, refl))

unit_start : (auto : UnpackOptions) (tree : Result Package TreeFault) (before : Held) (w : World) → IsAmidUnitOf auto tree before w [] w
unit_start auto (Err fault) before w = refl
unit_start auto (Ok p) before w = package_start auto p before w

pub since_package_start : (auto : UnpackOptions) (p : Package) (before : Held) (s : State) → Since (IsAmidPackage auto p before s.world) s s
since_package_start auto p before s = since_start (IsAmidPackage auto p before s.world) s (package_start auto p before s.world)

pub since_unit_start : (auto : UnpackOptions) (tree : Result Package TreeFault) (before : Held) (s : State) → Since (IsAmidUnitOf auto tree before s.world) s s
since_unit_start auto tree before s = since_start (IsAmidUnitOf auto tree before s.world) s (unit_start auto tree before s.world)

run_start : (auto : UnpackOptions) (cs : List Candidate) (before : Held) (s : State) → IsAmidRun auto cs before s [] s.world
run_start auto [] before s = refl
run_start auto (c ∷ cs) before s = inl (unit_start auto c.tree before s.world)

pub since_run_start : (auto : UnpackOptions) (cs : List Candidate) (before : Held) (s : State) → Since (IsAmidRun auto cs before s) s s
since_run_start auto cs before s = since_start (IsAmidRun auto cs before s) s (run_start auto cs before s)

next_start : (auto : UnpackOptions) (cs : List Candidate) (before : Held) (w : World) → IsAmidNext auto cs before w [] w
next_start auto [] before w = refl
next_start auto (c ∷ cs) before w = unit_start auto c.tree before w

pub since_next_start : (auto : UnpackOptions) (cs : List Candidate) (before : Held) (s : State) → Since (IsAmidNext auto cs before s.world) s s
since_next_start auto cs before s = since_start (IsAmidNext auto cs before s.world) s (next_start auto cs before s.world)

-- what the units of a run have done

abbrev run_added : (auto : UnpackOptions) (cs : List Candidate) (us : List AUnit) (before after : Held) (s t : State) → IsRun auto cs us before after s t → List Event
run_added auto [] [] before after s t run = []
run_added auto [] (u ∷ us) before after s t run = []
run_added auto (c ∷ cs) [] before after s t run = []
run_added auto (c ∷ cs) (u ∷ us) before after s t run = run.2.moments.added ++ run_added auto cs us run.1 after run.0 t run.3

run_events : (auto : UnpackOptions) (cs : List Candidate) (us : List AUnit) (before after : Held) (s t : State) → (run : IsRun auto cs us before after s t) → t.events ≡ s.events ++ run_added auto cs us before after s t run
run_events auto [] [] before after s t run = ap (λ (x : State). x.events) run.0 ∙ sym (append-nil s.events)
run_events auto [] (u ∷ us) before after s t run = absurd run
run_events auto (c ∷ cs) [] before after s t run = absurd run
run_events auto (c ∷ cs) (u ∷ us) before after s t run =
    grown s.events run.0.events t.events run.2.moments.added (run_added auto cs us run.1 after run.0 t run.3) run.2.moments.events (run_events auto cs us run.1 after run.0 t run.3)

-- the next unit of a run

amid_next : (auto : UnpackOptions) (done : List Candidate) (us : List AUnit) (c : Candidate) (rest : List Candidate) (before mid : Held) (s m : State) (now : World) (y : List Event) → (run : IsRun auto done us before mid s m)
    → IsTrue m.honest → IsAmidUnitOf auto c.tree mid m.world y now → IsAmidRun auto (done ++ c ∷ rest) before s (run_added auto done us before mid s m run ++ y) now
amid_next auto [] [] c rest before mid s m now y run h amid =
    inl (subst (λ x. IsAmidUnitOf auto c.tree x s.world y now) run.1 (subst (λ (x : State). IsAmidUnitOf auto c.tree mid x.world y now) run.0 amid))
amid_next auto [] (u ∷ us) c rest before mid s m now y run h amid = absurd run
amid_next auto (d ∷ done) [] c rest before mid s m now y run h amid = absurd run
amid_next auto (d ∷ done) (u ∷ us) c rest before mid s m now y run h amid =
    let more = run_added auto done us run.1 mid run.0 m run.3 in
    inr (u, run.0, run.1, run.2.is, (run.2.moments.added, more ++ y, append_assoc run.2.moments.added more y, run.2.moments.events, falls_run auto done us run.1 mid run.0 m run.3 h, amid_next auto done us c rest run.1 mid run.0 m now y run.3 h amid))

pub since_next : (auto : UnpackOptions) (cs done : List Candidate) (us : List AUnit) (c : Candidate) (rest : List Candidate) (before mid : Held) (s m t : State) → cs ≡ done ++ c ∷ rest → IsRun auto done us before mid s m → Since (IsAmidRun auto cs before s) s m → Since (IsAmidUnitOf auto c.tree mid m.world) m t → Since (IsAmidRun auto cs before s) s t
since_next auto cs done us c rest before mid s m t split run first second =
    let same = append_cancel_left s.events (run_added auto done us before mid s m run) first.added (sym (run_events auto done us before mid s m run) ∙ first.events) in
    since_then (IsAmidRun auto cs before s) s m t first
    (since_weaker_if (IsAmidUnitOf auto c.tree mid m.world) (λ so_far. IsAmidRun auto cs before s (first.added ++ so_far)) m t
    (λ h so_far w amid. subst (λ l. IsAmidRun auto l before s (first.added ++ so_far) w) (sym split)
    (subst (λ x. IsAmidRun auto (done ++ c ∷ rest) before s (x ++ so_far) w) same (amid_next auto done us c rest before mid s m w so_far run (second.honest h) amid))) second)

-- a package that isn't refused

pub since_under_way : (p : Package) (beside : Beside) (before : Held) (places : List Path) (s t : State) → places ≡ places_of before → Since (IsAmidBeside p beside before places s.world) s t → Since (IsAmidUnpack p beside before s.world) s t
since_under_way p beside before places s t are since =
    since_weaker (IsAmidBeside p beside before (places_of before) s.world) (IsAmidUnpack p beside before s.world) s t (λ so_far w is. inl is)
    (subst (λ ps. Since (IsAmidBeside p beside before ps s.world) s t) are since)

-- the unpack is committed, and packages are displaced behind it
pub since_behind : (p : Package) (beside : Beside) (before : Held) (late : Ways) (records : Recorded) (lists : List PackageList) (places : List Path) (told between : List Called) (s m t : State) → places ≡ places_of before → told ≡ []
    → HasUnpackedBeside p beside before late places None records lists s m told between → Since (IsAmidBeside p beside before places s.world) s m
    → Since (IsAmidDisplacing p.name p.version late (losing_beside before.lists beside) beside.conflicting (holding_of (held_with late records lists)) m) m t → Since (IsAmidUnpack p beside before s.world) s t
since_behind p beside before late records lists places told between s m t are none unpacked since behind =
    let first = since_under_way p beside before places s m are since in
    let done : HasUnpackedBeside p beside before late (places_of before) None records lists s m [] between =
    subst (λ l. HasUnpackedBeside p beside before late (places_of before) None records lists s m l between) none (subst (λ ps. HasUnpackedBeside p beside before late ps None records lists s m told between) are unpacked) in
    since_then (IsAmidUnpack p beside before s.world) s m t first
    (since_weaker_if (IsAmidDisplacing p.name p.version late (losing_beside before.lists beside) beside.conflicting (holding_of (held_with late records lists)) m) (λ so_far w. IsAmidUnpack p beside before s.world (first.added ++ so_far) w) m t
    (λ honest so_far w is. inr (record {
      s = s;
      from = refl;
      late = late;
      records = records;
      lists = lists;
      m = m;
      honest = behind.honest honest;
      between = between;
      unpacked = done;
      front = first.added;
      rest = so_far;
      split = refl;
      events = first.events;
      displacing = is;
    })) behind)

pub since_unpack_start : (p : Package) (beside : Beside) (before : Held) (s : State) → Since (IsAmidUnpack p beside before s.world) s s
since_unpack_start p beside before s = since_start (IsAmidUnpack p beside before s.world) s (inl (inl (refl, refl)))

pub since_decided : (auto : UnpackOptions) (p : Package) (beside : Beside) (decision : Checked) (before : Held) (s t : State) → IsDecisionFor p auto before decision → decision ≡ Planned beside
    → Since (IsAmidUnpack p beside before s.world) s t → Since (IsAmidDecided auto p before s.world) s t
since_decided auto p beside decision before s t decided is since =
    since_weaker (IsAmidUnpack p beside before s.world) (IsAmidDecided auto p before s.world) s t
    (λ so_far w amid. inr (decision, decided, subst (λ d. IsAmidBy p d before s.world so_far w) (sym is) amid)) since

-- a tree that was read

pub since_read : (auto : UnpackOptions) (p : Package) (tree : Result Package TreeFault) (before : Held) (s t : State) → tree ≡ Ok p → Since (IsAmidPackage auto p before s.world) s t → Since (IsAmidUnitOf auto tree before s.world) s t
since_read auto p tree before s t is since = subst (λ r. Since (IsAmidUnitOf auto r before s.world) s t) (sym is) since
