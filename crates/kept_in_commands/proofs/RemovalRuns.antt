-- A file of a package that a removal doesn't name, through the whole command.
use Rattle.std.proofs.Common.{◌≡◌, ◌≢◌, ◌||◌, inl, inr, ℕ, zero, suc, Bool, true, false, cond, List, [], ◌∷◌, ◌++◌, Option, Some, None, IsTrue, Contains, filter, refl, sym, ap, subst, ◌∙◌, arith}
use Rattle.std.specs.Str.{bytes_eq}
use Rattle.std.proofs.lemmas.Bool.{true≢false}
use Rattle.std.proofs.lemmas.List.Elements.{Contains-append_right}
use Rattle.std.proofs.lemmas.Slice.Eq.{bytes_eq-Decides}
use Rattle.host_core.specs.Paths.{Path}
use Rattle.host_core.specs.World.{World}
use Rattle.host_core.specs.Events.{Event}
use Rattle.host_core.specs.Host.{State}
use Rattle.host_core.proofs.Moments.{since_now}
use Rattle.diversions.specs.Ways.{Ways}
use Rattle.file_lists.specs.declared.paths.Listed.{Listed}
use Rattle.relation_index.specs.declared.package.Package.{Package}
use Rattle.removal_run.specs.Extents.{purges}
use Rattle.name_sets.specs.Names.{each_once, is_among, without}
use Rattle.removal_run.specs.Refusals.{accepted}
use Rattle.removal_run.specs.Run.{HasRun, IsAmidRun, IsRemovalRun, waiting_for}
use Rattle.removal_run.specs.Turns.{AreAccepted, IsAmidNext, IsTurn, RemovesTo}
use Rattle.removal_run.specs.Units.{IsAmidRemoval, extent_of, given_by, holding_of}
use Rattle.removal_run.specs.Waiting.{IsRemovedNext}
use Rattle.removal_run.specs.declared.options.RemovalOptions.{RemovalOptions}
use Rattle.stop_laws.proofs.OtherPlaces.{removal_keeps}
use Rattle.unit_reports.specs.Held.{Held}
use Rattle.unit_reports.specs.declared.report.Unit.{Unit as AUnit}
use Rattle.unit_runs.specs.Turns.{TurnsTo}
use Rattle.kept_files.specs.Kept.{IsPackagePlace}
use Rattle.kept_files.proofs.Aside.{other_owner}
use Rattle.kept_in_commands.specs.Commands.{Has, IsUnnamedPlace}
use Rattle.kept_in_commands.proofs.Owners.{Owns}
use Rattle.kept_in_commands.proofs.Lists.{removed_owns}
use Rattle.kept_in_commands.proofs.Waiting.{accepted_first, accepted_next, is_removable, next_among, waited}

module _ (options : RemovalOptions) (packages : List Package) (q : Path) (packaged : IsPackagePlace q) (x : Listed) where
  -- what holds before each removal: the package has the place, and none that waits is it
  record Stands (waiting : List (List ℕ)) (h : Held) : Type 0 where
    has : Has h q x
    others : (name : List ℕ) → IsTrue (is_among waiting name) → x.name ≢ name
    accepts : AreAccepted options.extents h.records.records waiting

  -- at each moment of the next removal
  amid_keeps : (waiting : List (List ℕ)) (before : Held) → Stands waiting before → (name : List ℕ) → IsRemovedNext options.ignore_depends packages before.records.records waiting name → (old : World) (so_far : List Event) (now : World)
      → IsAmidRemoval (purges options.extents before.records.records name) name before old so_far now → now q ≡ old q
  amid_keeps waiting before stands name next old so_far now amid =
      let purge = purges options.extents before.records.records name in
      let among = next_among options.ignore_depends packages before.records.records waiting name next in
      removal_keeps (given_by purge name before) (is_removable purge before.records.records name (stands.accepts name among)) q
      (other_owner before.ways before.lists name q (record { owner = x; lies = stands.has; other = stands.others name among }))
      packaged.plain packaged.outside old now amid.front amid.amid

  next_keeps : (waiting : List (List ℕ)) (before : Held) → Stands waiting before → (old : World) (so_far : List Event) (now : World) → IsAmidNext options packages waiting before old so_far now → now q ≡ old q
  next_keeps waiting before stands old so_far now (inl still) = ap (λ (w : World). w q) still.same
  next_keeps waiting before stands old so_far now (inr turn) = amid_keeps waiting before stands turn.0 turn.1 old so_far now turn.2

  module _ (waiting : List (List ℕ)) (before : Held) (u : AUnit) (left : List (List ℕ)) (after : Held) (s t : State) (turn : IsTurn options packages waiting before u left after s t) (stands : Stands waiting before) where
    among : IsTrue (is_among waiting turn.name)
    among = next_among options.ignore_depends packages before.records.records waiting turn.name turn.next

    turn_keeps : IsTrue t.honest → t.world q ≡ s.world q
    turn_keeps honest =
        amid_keeps waiting before stands turn.name turn.next s.world turn.is.moments.added t.world (since_now (IsAmidRemoval (purges options.extents before.records.records turn.name) turn.name before s.world) s t turn.is.moments honest)

    turn_honest : IsTrue t.honest → IsTrue s.honest
    turn_honest honest = turn.is.moments.honest honest

    turn_stands : Stands left after
    turn_stands = record {
      has = subst (λ (v : Ways). Owns v q x after.lists) (sym turn.is.is.ways)
          (removed_owns q packaged.outside before.ways x turn.name (stands.others turn.name among) (given_by (purges options.extents before.records.records turn.name) turn.name before) refl refl _ (holding_of after) s turn.is.is.removed.m [] u.calls.items turn.is.is.removed.removed stands.has);
      others = λ name there. stands.others name (waited turn.name name waiting (subst (λ (l : List (List ℕ)). IsTrue (is_among l name)) turn.left_is there));
      accepts = subst (AreAccepted options.extents after.records.records) (sym turn.left_is) (accepted_next options.extents before.records.records after.records.records waiting turn.name turn.others stands.accepts);
    }

  record Kept (s : State) (left : List (List ℕ)) (after : Held) (t : State) : Type 0 where
    stands : Stands left after
    honest : IsTrue t.honest → IsTrue s.honest
    keeps : IsTrue t.honest → t.world q ≡ s.world q

  turns_keep : (waiting : List (List ℕ)) (before : Held) (s : State) (us : List AUnit) (left : List (List ℕ)) (after : Held) (t : State) → Stands waiting before → TurnsTo (IsTurn options packages) waiting before s us left after t → Kept s left after t
  turns_keep waiting before s [] left after t stands TurnsTo.begun = record { stands = stands; honest = λ is. is; keeps = λ is. refl }
  turns_keep waiting before s us left after t stands (TurnsTo.turned front u mid_left left_then mid after_then m t_then first turn) =
      let so_far = turns_keep waiting before s front mid_left mid m stands first in
      record {
        stands = turn_stands mid_left mid u left after m t turn so_far.stands;
        honest = λ is. so_far.honest (turn_honest mid_left mid u left after m t turn so_far.stands is);
        keeps = λ is. turn_keeps mid_left mid u left after m t turn so_far.stands is ∙ so_far.keeps (turn_honest mid_left mid u left after m t turn so_far.stands is);
      }

-- the names that wait are among those that are given

later : (n : List ℕ) (names : List (List ℕ)) (m : List ℕ) → Contains names m → Contains (n ∷ names) m
later n names m there = Contains-append_right (n ∷ []) names m there

among_has : (names : List (List ℕ)) (n : List ℕ) → is_among names n ≡ true → Contains names n
among_has [] n any = absurd (true≢false (sym any))
among_has (m ∷ names) n any = by (bytes_eq n m) refl any (among_has names n)
  where
    by : (b : Bool) → bytes_eq n m ≡ b → b || is_among names n ≡ true → (is_among names n ≡ true → Contains names n) → Contains (m ∷ names) n
    by true is some rest = (zero, omega arith, sym ((bytes_eq-Decides n m).0 is))
    by false is some rest = later m names n (rest some)

in_filter : (keep : List ℕ → Bool) (names : List (List ℕ)) (n : List ℕ) → Contains (filter keep names) n → Contains names n
in_filter keep [] n there = there
in_filter keep (m ∷ names) n there = by (keep m) (in_filter keep names n) there
  where
    by : (b : Bool) → (Contains (filter keep names) n → Contains names n) → Contains (cond b (m ∷ filter keep names) (filter keep names)) n → Contains (m ∷ names) n
    by false rest has = later m names n (rest has)
    by true rest (zero, lt, at) = (zero, omega arith, at)
    by true rest (suc k, lt, at) = later m names n (rest (k, omega (arith, lt), at))

in_once : (names : List (List ℕ)) (n : List ℕ) → Contains (each_once names) n → Contains names n
in_once [] n there = there
in_once (m ∷ names) n (zero, lt, at) = (zero, omega arith, at)
in_once (m ∷ names) n (suc k, lt, at) = later m names n (in_once names n (in_filter _ (each_once names) n (k, omega (arith, lt), at)))

module _ (names : List (List ℕ)) (options : RemovalOptions) (before : Held) (q : Path) (place : IsUnnamedPlace before names q) where
  stands_first : (packages : List Package) → Stands options packages q place.packaged place.owner (waiting_for options.extents names before) before
  stands_first packages = record {
    has = place.has;
    others = λ name there e. place.unnamed (in_once names place.owner.name (in_filter _ (each_once names) place.owner.name (subst (λ (n : List ℕ). Contains (waiting_for options.extents names before) n) (sym e) (among_has (waiting_for options.extents names before) name there))));
    accepts = accepted_first options.extents before.records.records (each_once names);
  }

  turned : (packages : List Package) (s : State) (us : List AUnit) (left : List (List ℕ)) (after : Held) (t : State) → RemovesTo options packages (waiting_for options.extents names before) before s us left after t
      → Kept options packages q place.packaged place.owner s left after t
  turned packages s us left after t turns = turns_keep options packages q place.packaged place.owner (waiting_for options.extents names before) before s us left after t (stands_first packages) turns

  pub run_keeps : (us : List AUnit) (after : Held) (s t : State) → IsRemovalRun names options us before after s t → IsTrue t.honest → t.world q ≡ s.world q
  run_keeps us after s t run honest = (turned run.runs.packages s run.runs.removed run.runs.waiting after t run.runs.turns).keeps honest

  pub part_keeps : (us : List AUnit) (last : Option AUnit) (s t : State) → HasRun names options us last before s t → IsTrue t.honest → t.world q ≡ s.world q
  part_keeps us last s t (inl none) honest = ap (λ (u : State). u.world q) none.here
  part_keeps us last s t (inr begun) honest =
      let runs = begun.runs in
      let kept = turned runs.packages s runs.removed runs.waiting runs.after runs.end runs.turns in
      next_keeps options runs.packages q place.packaged place.owner runs.waiting runs.after kept.stands runs.end.world runs.since.added t.world
      (since_now (IsAmidNext options runs.packages runs.waiting runs.after runs.end.world) runs.end t runs.since honest)
      ∙ kept.keeps (runs.since.honest honest)

  pub moment_keeps : (s : State) (so_far : List Event) (now : World) → IsAmidRun names options before s so_far now → now q ≡ s.world q
  moment_keeps s so_far now (inl still) = ap (λ (w : World). w q) still.same
  moment_keeps s so_far now (inr amid) =
      let turns = amid.turns in
      let kept = turned amid.packages s turns.us turns.q turns.after turns.m turns.come in
      next_keeps options amid.packages q place.packaged place.owner turns.q turns.after kept.stands turns.m.world turns.rest now turns.next ∙ kept.keeps turns.honest
