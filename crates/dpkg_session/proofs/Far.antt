-- What an unpack leaves as it is, to its end and at each moment of it: paths of the program's own beside `info`, `tmp.ci` and the records.
use Rattle.std.proofs.Common.{◌≡◌, ◌≢◌, inl, inr, ℕ, Bool, true, false, cond, List, [], ◌∷◌, ◌++◌, IsTrue, Contains, codes, get_or, length, nat_le, arith, refl, ap, sym, ◌∙◌}
use Rattle.administration.specs.Places.{diversions_path, home_path, info_path, list_name, list_path, tmp_path, temporary, is_within}
use Rattle.undo_rows.specs.Transcripts.{Ended, Committed, Unwound}
use Rattle.undo_rows.specs.Place.{Place}
use Rattle.control_members.specs.Stored.{stored_member_path}
use Rattle.file_lists.specs.declared.paths.PackageList.{PackageList}
use Rattle.file_removal.specs.Clearing.{cleared}
use Rattle.host_core.specs.Events.{Event}
use Rattle.host_core.specs.Paths.{Path, is_below_administration, is_own}
use Rattle.host_core.specs.World.{World}
use Rattle.host_core.specs.Host.{State}
use Rattle.status_db.specs.Held.{is_record_place}
use Rattle.status_db.specs.Recorded.{Recorded}
use Rattle.status_records.specs.Records.{record_in}
use Rattle.status_records.specs.declared.record.Record.{Record}
use Rattle.unpack_commit.specs.Areas.{IsUntouched}
use Rattle.unpack_commit.specs.Commit.{Changes, HasCommitted}
use Rattle.unpack_commit.proofs.Left.{committing_keeps}
use Rattle.unpack_commit.proofs.Stays.{no_leaving_place}
use Rattle.unpack_engine.proofs.Frames.{IsBeside, amid_same, come_same}
use Rattle.unpack_engine.proofs.Begun.{dropped_same, may_drop_same, may_same}
use Rattle.unpack_engine.proofs.Cleared.{begun_at, begun_beside, works_on}
use Rattle.unpack_engine.specs.Units.{Given, Ground, HasFollowed, HasLeft, HasUnpacked, IsAmid, IsAmidUnit, IsRunning, IsStage, MayFollow, MayLeave, MayLeaveBy, changes, commit_records, ground_of, last_place, lists_after, package_name, table_after, task_from}
use Rattle.unpack_plan.specs.Planned.{IsPlanned, Job, Planned}
use Rattle.unpack_rows.specs.Kinds.{kinds_of}
use Rattle.unpack_rows.specs.Stages.{stage_of}
use Rattle.listed_files.specs.Closing.{SparesAdministration}
use Rattle.listed_files.specs.Concluding.{AreElsewhere}
use Rattle.file_removal.specs.Removal.{any_path}
use Rattle.listed_files.proofs.Closings.{below_within, removed_stays}
use Rattle.unpack_steps.specs.Clearing.{IsBesideOwn}
use Rattle.unpack_steps.specs.Task.{based_on, name, state_on}
use Rattle.undo_rows.specs.declared.rows.Called.{Called}
use Rattle.diversions.specs.Ways.{Ways}

-- a path of the program's own that is neither in `info` nor in `tmp.ci`, and at which no record is written
pub record IsFar (q : Path) : Type 0 where
  pub own : is_own q ≡ true
  pub below : is_below_administration q ≡ true
  pub unnoted : is_record_place q ≡ false
  pub tmp : is_within tmp_path q ≡ false
  pub info : (rest : Path) → q ≢ info_path ++ 47 ∷ rest

pub diversions_far : IsFar diversions_path
diversions_far = record { own = refl; below = refl; unnoted = refl; tmp = refl; info = λ rest e. absurd (omega (arith, ap (λ (l : Path). get_or l 14 0) e)) }

pub diversions_spare_far : IsFar (temporary diversions_path)
diversions_spare_far = record { own = refl; below = refl; unnoted = refl; tmp = refl; info = λ rest e. absurd (omega (arith, ap (λ (l : Path). get_or l 14 0) e)) }

module _ (q : Path) (far : IsFar q) where
  no_list : (name : List ℕ) → (q ≢ list_path name) × (q ≢ temporary (list_path name))
  no_list name = (far.info (list_name name), far.info (list_name name ++ codes ".dpkg-inst"))

  no_member : (owner name : Path) → (q ≢ stored_member_path owner name) × (q ≢ temporary (stored_member_path owner name))
  no_member owner name = (far.info (owner ++ 46 ∷ name), far.info ((owner ++ 46 ∷ name) ++ codes ".dpkg-inst"))

  beside_list : (name : List ℕ) → IsBeside (list_path name) q
  beside_list name = record { own = far.own; below = far.below; unnoted = far.unnoted; unlisted = (no_list name).0; unspared = (no_list name).1 }

  own_apart : (name : List ℕ) → IsBesideOwn name q
  own_apart name = record { list = (no_list name).0; members = λ member named. (no_member name member).0 }

  committed_stays : (c : Changes) (ways : Ways) (lists : List PackageList) (after : List Record) (old new : World) → SparesAdministration c.leaving → AreElsewhere c.names → HasCommitted c ways lists after old new → new q ≡ old q
  committed_stays c ways lists after old new spares elsewhere is =
      is.noted.rest q far.unnoted
      ∙ is.release.cleared.each q ∙ ap (λ b. cond b (cleared (is.release.mid q)) (is.release.mid q)) (elsewhere q (below_within q far.below))
      ∙ is.release.taken.rest q (λ name has. no_list name)
      ∙ is.replaced.rest q (λ name named. no_member c.name name)
      ∙ is.renewal.replaced.rest q (no_list c.name).0 (no_list c.name).1
      ∙ removed_stays any_path c.leaving old is.renewal.mid q spares is.renewal.removed far.below

  followed_stays : (c : Changes) (records : List Record) (ways : Ways) (lists : List PackageList) (table : List Record) (others : ℕ) (ended : Ended) (old new : World) → SparesAdministration c.leaving → AreElsewhere c.names → HasFollowed c records ways lists table others ended old new → new q ≡ old q
  followed_stays c records ways lists table others Committed old new spares elsewhere is = committed_stays c ways lists _ old new spares elsewhere is
  followed_stays c records ways lists table others (Unwound fall failed) old new spares elsewhere is = dropped_same (nat_le others fall.row) (record_in table c.name) c.name old new q is (no_list c.name).0

  pub unpacked_stays : (g : Given) (places : List Path) (ended : Ended) (after : Recorded) (lists : List PackageList) (s t : State) (told now : List Called) → HasUnpacked g places ended after lists s t told now → IsTrue t.honest → t.world q ≡ s.world q
  unpacked_stays g places ended after lists s t told now is h =
      let out = is.carried_out in
      let p = is.plan in
      let planned = is.plan_for.planned in
      let left = out.leaves h in
      let ground = ground_of g places in
      let base = out.ran.rows_end.base in
      let place = last_place ground p ended in
      let task = task_from ground p (state_on out.ran.begun base) in
      let honest = out.since.honest h in
      left.removed.rest q far.tmp
      ∙ followed_stays (changes ground p out.mid.works out.mid.lists) (commit_records ground p out.mid.works out.mid.lists out.mid.database.records) g.ways out.mid.lists out.mid.database.records (length p.others) ended out.last.world left.followed planned.lists_are.spares planned.names_are.elsewhere left.has_followed
      ∙ come_same task q (beside_list (name task)) planned.works_are.named place _ out.mid.works (works_on ground p place out.ran.begun base out.mid.works out.ran.rows_end.works) _ out.last.world (out.ran.rows_end.world honest).came
      ∙ begun_beside ground p place s.world base (begun_at ground p place s.world out.ran.begun out.mid out.last (out.ran.begins_so honest) out.ran.rows_end honest) q far.tmp (own_apart (package_name ground p))

  -- at each moment

  untouched : (c : Changes) → SparesAdministration c.leaving → AreElsewhere c.names → IsUntouched c q
  untouched c spares elsewhere = record {
    stays = no_leaving_place c.leaving q spares (below_within q far.below);
    uncleared = elsewhere q (below_within q far.below);
    unlisted = λ name has. no_list name;
    no_member = λ name named. no_member c.name name;
    unnoted = far.unnoted;
  }

  following_stays : (c : Changes) (records : List Record) (ways : Ways) (lists : List PackageList) (table : List Record) (others : ℕ) (ended : Ended) (old now : World) → SparesAdministration c.leaving → AreElsewhere c.names → MayFollow c records ways lists table others ended old now → now q ≡ old q
  following_stays c records ways lists table others Committed old now spares elsewhere may = committing_keeps c ways lists old records table now q may (untouched c spares elsewhere)
  following_stays c records ways lists table others (Unwound fall failed) old now spares elsewhere may = may_drop_same (nat_le others fall.row) (record_in table c.name) c.name old now q may (no_list c.name).0

  leaving_stays : (c : Changes) (records : List Record) (ways : Ways) (lists : List PackageList) (table : List Record) (others : ℕ) (ended : Ended) (old now : World) → SparesAdministration c.leaving → AreElsewhere c.names → MayLeave c records ways lists table others ended old now → now q ≡ old q
  leaving_stays c records ways lists table others ended old now spares elsewhere (MayLeaveBy.following may) = following_stays c records ways lists table others ended old now spares elsewhere may
  leaving_stays c records ways lists table others ended old now spares elsewhere (MayLeaveBy.clearing_away followed has opens lays) =
      lays.rest q far.tmp ∙ followed_stays c records ways lists table others ended old followed spares elsewhere has

  stage_stays : (j : Job) (g : Given) (places : List Path) (plan : Planned) (old : World) (so_far : List Event) (now : World) → IsPlanned j plan → IsStage (ground_of g places) plan old so_far now → now q ≡ old q
  stage_stays j g places plan old so_far now planned (IsStage.running (IsRunning.beginning none may)) = may.rest q far.tmp
  stage_stays j g places plan old so_far now planned (IsStage.running (IsRunning.running begun before more is none begins stops)) =
      let task = task_from (ground_of g places) plan begun in
      amid_same (based_on task stops.base) q (beside_list (name task)) planned.works_are.named _ _ now stops.files
      ∙ may_same _ _ (name task) begun.world stops.base q stops.cleared (own_apart (name task))
      ∙ begins.lays q far.tmp
  stage_stays j g places plan old so_far now planned (IsStage.leaving ended works begun last begins are come may) =
      let ground = ground_of g places in
      let place = last_place ground plan ended in
      let task = task_from ground plan begun in
      leaving_stays (changes ground plan works (lists_after ground plan ended begun)) (commit_records ground plan works (lists_after ground plan ended begun) (table_after ground plan place)) g.ways (lists_after ground plan ended begun) (table_after ground plan place) (length plan.others) ended last now
      planned.lists_are.spares planned.names_are.elsewhere may
      ∙ come_same task q (beside_list (name task)) planned.works_are.named place (stage_of (kinds_of plan.found plan.others) place) works are _ last come
      ∙ begun_beside ground plan place old begun.world begins q far.tmp (own_apart (package_name ground plan))

  pub amid_stays : (g : Given) (places : List Path) (old : World) (so_far : List Event) (now : World) → IsAmidUnit g places old so_far now → now q ≡ old q
  amid_stays g places old so_far now (inl still) = ap (λ w. w q) still.0
  amid_stays g places old so_far now (inr amid) = stage_stays _ g places amid.plan old so_far now amid.plan_for.planned amid.under_way.stage
