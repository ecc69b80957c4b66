use Rattle.std.proofs.Common.{◌≡◌, ◌++◌, map}
use Rattle.dpkg_session.specs.Activated.{change_by}
use Rattle.dpkg_session.proofs.watching.changes_by.Given as goal

abbrev pub invariant-loop-one : goal.invariant-loop-one
invariant-loop-one l = (l.changes.items ≡ map change_by l.yielded) × (l.fn.found.items ≡ l.yielded ++ l.one-iterator.rest.items)
