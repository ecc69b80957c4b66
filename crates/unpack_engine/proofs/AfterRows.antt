-- A unit after its rows, at each moment.
use Rattle.std.proofs.Common.{◌≡◌, IsTrue, true, List, length, sym, subst}
use Rattle.texts.specs.PackageNames.{is_package_name}
use Rattle.host_core.specs.Paths.{Path}
use Rattle.host_core.specs.World.{World}
use Rattle.host_core.specs.Events.{Event, changes_of}
use Rattle.host_core.specs.Host.{State}
use Rattle.administration.specs.Places.{list_path}
use Rattle.undo_rows.specs.Transcripts.{Ended, Committed, Unwound}
use Rattle.control_members.specs.LaidOut.{AreLaidOut, IsIncoming}
use Rattle.control_members.specs.Stored.{IsMembersReady}
use Rattle.file_lists.specs.Info.{AreLoose}
use Rattle.file_lists.specs.Writing.{IsListReady}
use Rattle.file_lists.specs.declared.paths.PackageList.{PackageList}
use Rattle.package_files.specs.Files.{Each}
use Rattle.package_files.specs.Names.{IsNamed}
use Rattle.status_db.specs.Held.{HasRecords}
use Rattle.status_records.specs.declared.record.Record.{Record}
use Rattle.unpack_commit.specs.Takeover.{put_records}
use Rattle.listed_files.specs.Closing.{SparesAdministration}
use Rattle.listed_files.specs.Concluding.{AreElsewhere}
use Rattle.unpack_plan.specs.Planned.{Planned}
use Rattle.unpack_rows.specs.Kinds.{kinds_of}
use Rattle.unpack_rows.specs.Stages.{stage_of}
use Rattle.unpack_steps.specs.At.{At, Holding}
use Rattle.unpack_steps.specs.Task.{state_on}
use Rattle.unpack_steps.specs.Trail.{HasCome}
use Rattle.unpack_engine.specs.Units.{Begins, BeginsAt, Ground, IsStage, IsUnderWay, MayLeave, changes, commit_records, last_place, noted_so_far, package_name, table_after, task_from}
use Rattle.unpack_engine.proofs.Cleared.{begun_at, works_on}
use Rattle.unpack_engine.proofs.Frames.{IsBeside, come_same}
use Rattle.unpack_engine.proofs.Leaving.{committed_incoming, committed_open, unwound_incoming, unwound_open}
use Rattle.unpack_engine.proofs.EndLoose.{committed_leaving_loose, unwound_leaving_loose}
use Rattle.unpack_engine.proofs.UnderWay.{IsStaged, still_laid, still_loose}

module _ (g : Ground) (p : Planned) (named : is_package_name (package_name g p) ≡ true) (works_named : Each IsNamed p.works) (old : World)
    (list : IsListReady (package_name g p) old) (members : IsMembersReady (package_name g p) old) (loose : AreLoose old) (incoming : IsIncoming old)
    (mid : Holding) (begun last : State) (begins : Begins g p old begun.world) (h : IsTrue last.honest) where
  module _ (ended : Ended) (at : At (task_from g p begun) mid last (last_place g p ended)) where
    last_same : (q : Path) → IsBeside (list_path (package_name g p)) q → last.world q ≡ at.base q
    last_same q beside = come_same (task_from g p (state_on begun at.base)) q beside works_named (last_place g p ended) (stage_of (kinds_of p.found p.others) (last_place g p ended)) mid.works (works_on g p (last_place g p ended) begun at.base mid.works at.works) (changes_of at.since) last.world (at.world h).came

    then : BeginsAt g p (last_place g p ended) old at.base
    then = begun_at g p (last_place g p ended) old begun mid last begins at h

    pub last_laid : AreLaidOut p.members last.world
    last_laid = still_laid g p named works_named old list members loose incoming (last_place g p ended) at.base then last.world last_same

    pub last_loose : AreLoose last.world
    last_loose = still_loose g p named works_named old list members loose incoming (last_place g p ended) at.base then last.world last_same (at.world h).ready

    -- what is under way, and the records then
    abbrev Leads : List PackageList → List Record → World → Type 0
    Leads lists table now =
        (may : MayLeave (changes g p mid.works lists) (commit_records g p mid.works lists table) g.ways lists table (length p.others) ended last.world now)
        × HasRecords now (put_records (noted_so_far (changes g p mid.works lists) (commit_records g p mid.works lists table) g.ways lists table (length p.others) ended last.world now may) table)

    leaving_stage : (so_far : List Event) (now : World) → changes_of so_far ≡ changes_of at.since → Leads mid.lists mid.database.records now → IsStaged g p old so_far now
    leaving_stage so_far now same leads =
        let led = subst (λ l. Leads l (table_after g p (last_place g p ended)) now) at.lists (subst (λ r. Leads mid.lists r now) at.records leads) in (
          IsStage.leaving ended mid.works (state_on begun at.base) last.world then (works_on g p (last_place g p ended) begun at.base mid.works at.works)
              (subst (λ c. HasCome (task_from g p (state_on begun at.base)) (stage_of (kinds_of p.found p.others) (last_place g p ended)) mid.works c last.world) (sym same) (at.world h).came) led.0,
          led.1,
        )

  pub leaving_under_way : (ended : Ended) (at : At (task_from g p begun) mid last (last_place g p ended)) → SparesAdministration p.leaving → AreElsewhere p.names
      → (so_far : List Event) (now : World) → changes_of so_far ≡ changes_of at.since
      → MayLeave (changes g p mid.works mid.lists) (commit_records g p mid.works mid.lists mid.database.records) g.ways mid.lists mid.database.records (length p.others) ended last.world now → IsUnderWay g p old so_far now
  leaving_under_way Committed at spares elsewhere so_far now same may =
      let c = changes g p mid.works mid.lists in
      let records = commit_records g p mid.works mid.lists mid.database.records in
      let open' = committed_open c records g.ways mid.lists mid.database.records (length p.others) last.world now may in
      let staged = leaving_stage Committed at so_far now same (may, open'.has) in
      record {
        stage = staged.0;
        records = staged.1;
        opens = open'.opens;
        incoming = committed_incoming c records g.ways mid.lists mid.database.records (length p.others) last.world now p.members spares elsewhere (last_laid Committed at) may;
        loose = committed_leaving_loose c records g.ways mid.lists mid.database.records (length p.others) last.world now may (last_loose Committed at);
      }
  leaving_under_way (Unwound fall failed) at spares elsewhere so_far now same may =
      let c = changes g p mid.works mid.lists in
      let records = commit_records g p mid.works mid.lists mid.database.records in
      let open' = unwound_open c records g.ways mid.lists mid.database (length p.others) last.world now (Unwound fall failed) fall failed (at.world h).kept may in
      let staged = leaving_stage (Unwound fall failed) at so_far now same (may, open'.has) in
      record {
        stage = staged.0;
        records = staged.1;
        opens = open'.opens;
        incoming = unwound_incoming c records g.ways mid.lists mid.database (length p.others) last.world now (Unwound fall failed) fall failed p.members (last_laid (Unwound fall failed) at) may;
        loose = unwound_leaving_loose c records g.ways mid.lists mid.database.records (length p.others) last.world now fall failed may (last_loose (Unwound fall failed) at);
      }
