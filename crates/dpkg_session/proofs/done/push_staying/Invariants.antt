use Rattle.std.proofs.Common.{◌≡◌, ◌++◌, filter, take}
use Rattle.dpkg_session.specs.Installs.{stays}
use Rattle.dpkg_session.proofs.done.push_staying.Given as goal

abbrev pub invariant-loop-name : goal.invariant-loop-name
invariant-loop-name l = l.names.items ≡ l.fn.names.items ++ filter (stays l.labels l.units) (take l.name-index l.more)
