-- Turns over trees are a run of them.
use Rattle.std.proofs.Common.{◌≡◌, ℕ, Bool, IsTrue, List, [], ◌∷◌, ◌++◌, Some, None, map, ap, refl, subst, sym, ◌∙◌}
use Rattle.std.specs.Prelude.{IsNone}
use Rattle.host_core.specs.Host.{State}
use Rattle.host_core.specs.Unsynced.{IsSettled}
use Rattle.unit_reports.specs.Held.{Held}
use Rattle.unit_reports.specs.declared.report.Report.{Report}
use Rattle.unit_reports.specs.declared.report.Unit.{Unit as AUnit}
use Rattle.unit_runs.specs.Turns.{GoesTo, TurnsTo}
use Rattle.dpkg_session.specs.Growth.{StaysWritable}
use Rattle.unpack_relations.specs.declared.options.UnpackOptions.{UnpackOptions}
use Rattle.dpkg_session.specs.Installs.{label_of}
use Rattle.dpkg_session.specs.Run.{HasRunThrough}
use Rattle.dpkg_session.specs.Trees.{AreRead}
use Rattle.dpkg_session.specs.Turns.{AreAllRead, BreaksTree, StaysLent, Unread, UnpacksTree}
use Rattle.dpkg_session.specs.declared.report.Candidate.{Candidate}
use Rattle.dpkg_session.proofs.Reading.{HasReadTo, all_read, broken_read, read_more, read_start}

pub lent_stays : {T : Type 0} (start later : Unread T) → GoesTo StaysLent start later → later.lent ≡ start.lent
lent_stays start later GoesTo.here = refl
lent_stays start later (GoesTo.then q more come goes) = goes.lent ∙ lent_stays start q come

pub writable_stays : {T : Type 0} (start later : Unread T) → GoesTo StaysLent start later → StaysWritable start.diverted later.diverted
writable_stays start later GoesTo.here was = was
writable_stays start later (GoesTo.then q more come goes) was = goes.writable (writable_stays start q come was)

module _ {T : Type 0} (reads : T → Candidate → T → Type 0) (words : T → List (List ℕ)) (auto : UnpackOptions) (start : Unread T) (before : Held) (s : State) (none : start.labels ≡ []) where
  read_turns : (us : List AUnit) (left : Unread T) (after : Held) (t : State) → TurnsTo (UnpacksTree words reads auto) start before s us left after t
      → HasReadTo reads auto start.trees left.trees us left.labels before after s t
  read_turns us left after t TurnsTo.begun = read_start reads auto start.trees [] start.labels before s refl none
  read_turns us left after t (TurnsTo.turned done u mid_left last mid ends m end come turn) =
      read_more reads auto start.trees mid_left.trees last.trees done mid_left.labels before mid ends s m end (read_turns done mid_left mid m come) turn.c u (done ++ u ∷ []) last.labels turn.read.read turn.runs refl turn.labelled

  -- what a report says of the trees that were read
  abbrev IsReported : Unread T → Report → Held → State → Type 0
  IsReported left report after t = (cs : List Candidate) × AreRead reads start.trees cs left.trees × HasRunThrough auto cs (words left.trees) report before after s t × (IsNone report.last → left.labels ≡ map label_of cs)

  -- no tree is left
  pub all_taken : (us : List AUnit) (left later : Unread T) (after : Held) (t : State) (report : Report) → TurnsTo (UnpacksTree words reads auto) start before s us left after t → AreAllRead words later left → (IsTrue t.honest → IsSettled t.events)
      → report.units.items ≡ us → report.last ≡ None → IsReported later report after t
  all_taken us left later after t report come over settled units last =
      subst (λ (x : Unread T). IsReported x report after t) (sym over.1)
      (all_read reads auto start.trees left.trees left.trees us left.labels before after after s t t (read_turns us left after t come) (words left.trees) report over.0 refl settled units last)

  -- the unit of the next tree was broken off
  pub broken_taken : (us : List AUnit) (left later : Unread T) (mid after : Held) (m t : State) (u : AUnit) (report : Report) → TurnsTo (UnpacksTree words reads auto) start before s us left mid m → BreaksTree words reads auto left later mid m t u
      → (IsTrue t.honest → IsSettled t.events) → report.units.items ≡ us → report.last ≡ Some u → IsReported later report after t
  broken_taken us left later mid after m t u report come stops settled units last =
      broken_read reads auto start.trees left.trees later.trees us left.labels before mid after s m t (read_turns us left mid m come) stops.c u (words later.trees) later.labels report stops.read.read stops.moments stops.broken settled units last
