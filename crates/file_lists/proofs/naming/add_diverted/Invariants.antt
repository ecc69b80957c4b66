use Rattle.std.proofs.Common.{◌≡◌, ◌++◌, map}
use Rattle.file_lists.specs.Followed.{diverted_paths}
use Rattle.file_lists.proofs.naming.add_diverted.Given as goal

abbrev pub invariant-loop-entry : goal.invariant-loop-entry
invariant-loop-entry l = l.paths.items ≡ l.fn.paths.items ++ diverted_paths (map (λ b. b.now) l.yielded)
