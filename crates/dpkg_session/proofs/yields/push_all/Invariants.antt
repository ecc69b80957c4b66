use Rattle.std.proofs.Common.{◌≡◌, ◌++◌, take}
use Rattle.dpkg_session.proofs.yields.push_all.Given as goal

abbrev pub invariant-loop-name : goal.invariant-loop-name
invariant-loop-name l = l.names ≡ l.fn.names ++ take l.name-index l.more
