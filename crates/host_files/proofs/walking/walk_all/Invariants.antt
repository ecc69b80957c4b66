use Rattle.std.proofs.Common.{◌≡◌, ◌≤◌, ℕ, List, Contains, length, map, string_bytes, take}
use Rattle.host_files.specs.SystemCalls.{changes_in}
use Rattle.host_files.specs.Walked.{GoesOn, HasListed, Includes}
use Rattle.host_files.proofs.walking.walk_all.Given as goal

-- the directories so far were listed
abbrev pub invariant-loop-at : goal.invariant-loop-at
invariant-loop-at l = record {
  listed : (path : List ℕ) → Contains (take l.at (map string_bytes l.walked.items)) path → HasListed (string_bytes l.root.front) l.system.trace.calls (map string_bytes l.walked.items) path;
  calls : Includes l.initial.system.trace.calls l.system.trace.calls;
  more : GoesOn (map string_bytes l.initial.walked.items) (map string_bytes l.walked.items);
  same : changes_in l.system.trace.calls ≡ changes_in l.initial.system.trace.calls;
}
