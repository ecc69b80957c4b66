use Rattle.std.proofs.Common.{◌≡◌, map, string_bytes}
use Rattle.host_files.specs.SystemCalls.{changes_in}
use Rattle.host_files.specs.Walked.{Includes}
use Rattle.host_files.proofs.Meeting.{AreSynced}
use Rattle.host_files.proofs.walking.sync_backwards.Given as goal

-- those behind were synced
abbrev pub invariant-loop-at : goal.invariant-loop-at
invariant-loop-at l = record {
  synced : AreSynced (string_bytes l.root.front) l.system.trace.calls (map string_bytes l.walked) l.at;
  calls : Includes l.initial.system.trace.calls l.system.trace.calls;
  same : changes_in l.system.trace.calls ≡ changes_in l.initial.system.trace.calls;
}
