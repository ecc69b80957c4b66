use Rattle.std.proofs.Common.{◌≡◌, ◌++◌, ◌∷◌, ℕ, List, Contains, map, string_bytes, take}
use Rattle.host_files.specs.SystemCalls.{changes_in}
use Rattle.host_files.specs.Walked.{GoesOn, HasMet, Includes}
use Rattle.host_files.proofs.walking.meet_all.Given as goal

-- what stands at the names so far was met
abbrev pub invariant-loop-name : goal.invariant-loop-name
invariant-loop-name l = record {
  met : (name : List ℕ) → Contains (map string_bytes (take l.name-index l.names)) name → HasMet (string_bytes l.root.front) l.system.trace.calls (map string_bytes l.walked.items) (l.directory ++ 47 ∷ name);
  calls : Includes l.initial.system.trace.calls l.system.trace.calls;
  more : GoesOn (map string_bytes l.initial.walked.items) (map string_bytes l.walked.items);
  same : changes_in l.system.trace.calls ≡ changes_in l.initial.system.trace.calls;
}
