-- What the commit of a plan does, and what is there in the end, by how the rows ended.
use Rattle.std.specs.Prelude.{◌++◌, ◌∷◌, [], ℕ, List}
use Rattle.diversions.specs.Ways.{Ways}
use Rattle.file_lists.specs.declared.paths.PackageList.{PackageList}
use Rattle.status_records.specs.declared.record.Record.{Record}
use Rattle.package_files.specs.declared.work.Work.{Work}
use Rattle.unpack_commit.specs.Commit.{Changes, committed_lists}
use Rattle.unpack_commit.specs.Takeover.{losers, losing_records, put_records, taken_places}
use Rattle.undo_rows.specs.Transcripts.{Ended, Committed, Unwound}
use Rattle.unpack_plan.specs.declared.plan.PlannedCommit.{PlannedCommit}
use Rattle.unpack_engine.specs.Others.{yields_beside}

-- what a planned commit does behind these works
abbrev pub changes_from : List ℕ → List (List ℕ) → Ways → List PackageList → List Work → PlannedCommit → Changes
changes_from name yields ways lists works commit = record {
  name = name;
  leaving = commit.leaving.items;
  listed = commit.new_list;
  members = commit.members;
  places = taken_places works;
  losers = losers ways (taken_places works) lists (yields_beside name yields);
  names = commit.names.items;
}

-- and the records that it notes
abbrev pub records_from : List ℕ → List (List ℕ) → Ways → List PackageList → List Work → PlannedCommit → List Record → List Record
records_from name yields ways lists works commit table =
    losing_records ways (taken_places works) (changes_from name yields ways lists works commit).losers table ++ commit.fresh ∷ []

-- the records and the lists in the end, by how the rows ended
abbrev pub ended_table : Ended → (records table : List Record) → List Record
ended_table Committed records table = put_records records table
ended_table (Unwound fall failed) records table = table

abbrev pub ended_lists : Ended → Changes → Ways → List PackageList → List PackageList
ended_lists Committed c ways lists = committed_lists c ways lists
ended_lists (Unwound fall failed) c ways lists = lists

-- the records that were noted then
abbrev pub ended_records : Ended → List Record → List Record
ended_records Committed records = records
ended_records (Unwound fall failed) records = []
