-- What is known of a declined step's path: it stays, whatever comes before and behind.
use Rattle.std.specs.Prelude.{◌≡◌, List, [], ◌∷◌, ◌++◌}
use Rattle.std.proofs.Common.{refl, inl, inr}
use Rattle.host_core.specs.Paths.{Path}
use Rattle.host_core.specs.World.{World, Step, undo_of, place_of}
use Rattle.host_core.specs.Events.{Event, Did, Finished, Cut, Failed, Denied, IsDeniedIn}
use Rattle.host_core.specs.Host.{State, WasDenied, Declines, Since, Reads}
use Rattle.host_core.specs.Loss.{IsLater}
use Rattle.host_core.proofs.Moments.{grown}

-- declined among the first events
pub denied_front : (a b : List Event) (p : Path) → IsDeniedIn a p → IsDeniedIn (a ++ b) p
denied_front [] b p is = absurd is
denied_front (Did s ∷ a) b p is = denied_front a b p is
denied_front (Finished ran ∷ a) b p is = denied_front a b p is
denied_front (Cut call change ∷ a) b p is = denied_front a b p is
denied_front (Failed ∷ a) b p is = denied_front a b p is
denied_front (Denied other ∷ a) b p (inl same) = inl same
denied_front (Denied other ∷ a) b p (inr is) = inr (denied_front a b p is)

-- declined among the last events
pub denied_behind : (a b : List Event) (p : Path) → IsDeniedIn b p → IsDeniedIn (a ++ b) p
denied_behind [] b p is = is
denied_behind (Did s ∷ a) b p is = denied_behind a b p is
denied_behind (Finished ran ∷ a) b p is = denied_behind a b p is
denied_behind (Cut call change ∷ a) b p is = denied_behind a b p is
denied_behind (Failed ∷ a) b p is = denied_behind a b p is
denied_behind (Denied other ∷ a) b p is = inr (denied_behind a b p is)

-- a step that was declined is told by its path
pub declined_is_denied : (s : Step) (a b : State) → Declines s a b → WasDenied a b (place_of s)
declined_is_denied s a b (Declines.nothing goes) = (Denied (place_of s) ∷ [], goes.events, inl refl)
declined_is_denied s a b (Declines.undone t is goes) = (Did t ∷ Did (undo_of s) ∷ Denied (place_of s) ∷ [], goes.events, inl refl)

-- whatever was done behind it
pub denied_then_added : (a b c : State) (p : Path) (more : List Event) → WasDenied a b p → c.events ≡ b.events ++ more → WasDenied a c p
denied_then_added a b c p more first events = (first.0 ++ more, grown a.events b.events c.events first.0 more first.1 events, denied_front first.0 more p first.2)

-- whatever was done before it
pub added_then_denied : (a b c : State) (p : Path) (more : List Event) → b.events ≡ a.events ++ more → WasDenied b c p → WasDenied a c p
added_then_denied a b c p more events second = (more ++ second.0, grown a.events b.events c.events more second.0 events second.1, denied_behind more second.0 p second.2)

pub denied_first : (a b c : State) (p : Path) → WasDenied a b p → IsLater b c → WasDenied a c p
denied_first a b c p first later = denied_then_added a b c p later.added first later.events

pub denied_later : (a b c : State) (p : Path) → IsLater a b → WasDenied b c p → WasDenied a c p
denied_later a b c p later second = added_then_denied a b c p later.added later.events second

-- the same, where P was at each moment
pub denied_first_since : (P : List Event → World → Type 0) (a b c : State) (p : Path) → WasDenied a b p → Since P b c → WasDenied a c p
denied_first_since P a b c p first since = denied_then_added a b c p since.added first since.events

pub denied_later_since : (P : List Event → World → Type 0) (a b c : State) (p : Path) → Since P a b → WasDenied b c p → WasDenied a c p
denied_later_since P a b c p since second = added_then_denied a b c p since.added since.events second

-- the same, where it was only looked at
pub denied_first_reads : (a b c : State) (p : Path) → WasDenied a b p → Reads b c → WasDenied a c p
denied_first_reads a b c p first reads = denied_then_added a b c p reads.added first reads.events

pub denied_later_reads : (a b c : State) (p : Path) → Reads a b → WasDenied b c p → WasDenied a c p
denied_later_reads a b c p reads second = added_then_denied a b c p reads.added reads.events second
