-- Hosts of a rehearsal: they are put over others, of which nothing is changed.
use Rattle.std.specs.Prelude.{◌≡◌, List, [], Option, Some, None}
use Rattle.host_core.specs.Events.{Event, follow_all}
use Rattle.host_core.specs.Host.{State, Reads, Silent}
use Rattle.host_overlay.specs.Failing.{GoAsForetold, foretold}
use Rattle.host_overlay.specs.declared.failing.Plan.{Plan}
use Rattle.command_line.specs.Roots.{Around, Behind, Given}

-- what a plan foretells; nothing where none is left
abbrev pub foretold_by : Option Plan → List Event
foretold_by None = []
foretold_by (Some plan) = foretold plan.failing.items

-- the states behind words, with nothing done over them yet but that this is foretold
abbrev pub dry_root : List Event → Behind → Behind
dry_root first behind word state = (below : State) × behind word below × (state ≡ record below { events = first })

-- What was given back of a host with this state: one that it was put over, which was only looked at since, and no script of which
-- was called. The state's world is what was done over that one makes of its world, and each call ended as the first events foretell
-- (`calls_as_assumed`, host_overlay).
pub record IsDryOver (left : Given) (state : State) : Type 0 where
  pub begun : State
  pub below : State
  pub given : left below
  pub untouched : Reads begun below
  pub silent : Silent begun below
  pub honest : state.honest ≡ below.honest
  pub world : state.world ≡ follow_all state.events begun.world
  pub foretold : GoAsForetold state.events

abbrev pub dry_left : Given → Given
dry_left left state = IsDryOver left state

-- What is known of hosts over others, by what is known of these, where this is foretold on that of the root. No lock is taken, so that no
-- other program's is found held.
abbrev pub dry : List Event → Around → Around
dry first a = record {
  root = dry_root first a.root;
  tree = dry_root [] a.tree;
  left = dry_left a.left;
  seen = dry_left a.seen;
  failed = a.failed;
  unopened = a.unopened;
  locked = λ word lock. ⊥;
  full = a.full;
  beside = a.beside;
}
