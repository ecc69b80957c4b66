-- What a session knows still holds where it only looked.
use Rattle.std.proofs.Common.{IsTrue, sym, subst}
use Rattle.host_core.specs.Host.{State, Reads}
use Rattle.unit_reports.specs.Held.{Held}
use Rattle.dpkg_session.specs.Standing.{IsStanding}

pub standing_looked : (h : Held) (s t : State) → Reads s t → (IsTrue s.honest → IsStanding h s.world) → IsTrue t.honest → IsStanding h t.world
standing_looked h s t reads standing honest = subst (IsStanding h) (sym reads.world) (standing (reads.honest honest))
