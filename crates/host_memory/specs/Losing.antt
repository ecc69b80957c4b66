-- What a loss of power leaves of the steps since all was on the disk.
use Rattle.std.specs.Prelude.{◌≡◌, ◌<◌, ◌≤◌, ◌⊎◌, ◌+◌, ℕ, Bool, true, false, List, take, length, cond, Option, Some, None, slice_get, count_by, replicate}
use Rattle.std.specs.BTreeMap.{get_by_text}
use Rattle.host_core.specs.World.{World, Step, Write, Move, Take, MakeDir, RemoveDir, HardLink, MakeLink, Sync, Barrier, SyncAll, SyncRoot, Lower}
use Rattle.host_core.specs.Events.{Event, Did, Finished, Cut, Failed, Denied, follow_all}
use Rattle.host_core.specs.Loss.{is_barrier}
use Rattle.host_core.specs.declared.node.Node.{Node}
use Rattle.host_core.specs.declared.node.Node.TheVariants.{File, Dir, Link}
use Rattle.host_memory.specs.declared.past.Past.{Past}

-- a step on names: what it does to them a loss may undo
abbrev pub names : Step → Bool
names (Write p n) = true
names (Move a b) = true
names (Take p) = true
names (MakeDir p m) = true
names (RemoveDir p) = true
names (HardLink a b) = true
names (MakeLink p t) = true
names (Sync p) = false
names Barrier = false
names SyncAll = false
names SyncRoot = false
names (Lower p) = true

abbrev pub is_naming : Event → Bool
is_naming (Did s) = names s
is_naming (Finished ran) = false
is_naming (Cut call change) = false
is_naming Failed = false
is_naming (Denied path) = false

-- how many steps on names these are
abbrev pub naming_steps : List Event → ℕ
naming_steps es = count_by is_naming es

-- no barrier is among these
abbrev pub IsUnflushed : List Event → Type 0
IsUnflushed es = count_by is_barrier es ≡ 0

-- so many of these events are all before the step on names behind k others, and this stood then
abbrev pub IsBefore : World → List Event → ℕ → Past → Type 0
IsBefore disk since k past = (past.count < length since) × (get_by_text past.files.nodes ≡ follow_all (take past.count since) disk) × (naming_steps (take past.count since) ≡ k) × (naming_steps (take (past.count + 1) since) ≡ k + 1)

abbrev pub ArePasts : World → List Event → List Past → Type 0
ArePasts disk since pasts = (k : ℕ) (past : Past) → slice_get pasts k ≡ Some past → IsBefore disk since k past

-- of these events so many survive, with at most `keep` steps on names: all of them, or those before the next such step
abbrev pub Survives : ℕ → List Event → ℕ → Type 0
Survives keep since count = ((count ≡ length since) × (naming_steps since ≤ keep)) ⊎ ((count < length since) × (naming_steps (take count since) ≡ keep) × (naming_steps (take (count + 1) since) ≡ keep + 1))

-- a file with one byte throughout
abbrev pub filled : ℕ → Option Node → Option Node
filled fill None = None
filled fill (Some (File bytes access)) = Some (File (replicate (length bytes) fill) access)
filled fill (Some (Dir access)) = Some (Dir access)
filled fill (Some (Link target)) = Some (Link target)

-- an unsynced file loses its bytes
abbrev pub left_of : ℕ → Bool → Option Node → Option Node
left_of fill lost node = cond lost (filled fill node) node
