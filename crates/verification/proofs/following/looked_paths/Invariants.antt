use Rattle.std.proofs.Common.{◌≡◌, take}
use Rattle.verification.specs.Shipped.{looked_paths}
use Rattle.verification.proofs.following.looked_paths.Given as goal

abbrev pub invariant-loop-file : goal.invariant-loop-file
invariant-loop-file l = l.paths.items ≡ looked_paths (take l.file-index l.files)
