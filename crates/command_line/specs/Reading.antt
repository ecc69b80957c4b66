-- How the trees behind words are read, one after another.
use Rattle.std.specs.Prelude.{◌≡◌, ◌≤◌, ◌⊎◌, ◌++◌, ◌∷◌, [], ◌-◌, ◌&&◌, ⊤, ℕ, Bool, List, length, map, take, nat_eq, nat_lt, slice_index, IsTrue, MatchBool, Result, Ok, Err, if◌then◌else◌}
use Rattle.std.specs.List.{list_any}
use Rattle.std.specs.Str.{bytes_eq}
use Rattle.host_core.specs.Host.{Reads, Silent, State}
use Rattle.host_core.specs.Paths.{Path}
use Rattle.host_core.specs.World.{World}
use Rattle.command_words.specs.declared.owners.TreeOwners.{TreeOwners}
use Rattle.command_words.specs.declared.owners.TreeOwners.TheVariants.{Kept, Root}
use Rattle.package_tree.specs.Fault.{CountsTree}
use Rattle.package_tree.specs.OwnedByRoot.{owned_by_root}
use Rattle.package_tree.specs.Tree.{IsReadingFault, IsTreeOf}
use Rattle.package_tree.specs.declared.fault.TreeFault.{TreeFault}
use Rattle.package_tree.specs.declared.fault.TreeFault.TheVariants as tree_faults
use Rattle.package_tree.specs.declared.package.Package.{Package}
use Rattle.dpkg_session.specs.declared.report.Candidate.{Candidate}
use Rattle.command_line.specs.declared.hosts.Hosts.{Ghosts}
use Rattle.command_line.specs.Roots.{Around}

-- a tree's package, whose shipped paths keep their owners or become root's
abbrev pub owned_as : TreeOwners → Package → Package
owned_as Kept p = p
owned_as Root p = owned_by_root p

-- what a tree reads as: its package with the owners that are asked for, its first fault, or one of the host
abbrev pub IsReadAs : TreeOwners → World → Result Package TreeFault → Type 0
IsReadAs owners w (Ok read) = (found : Package) × IsTreeOf w found × (read ≡ owned_as owners found)
IsReadAs owners w (Err fault) = IsReadingFault w fault

-- the tree behind a word reads so, on a host on which no script was called and nothing changed, and which was given back; a
-- fault of the device is told exactly where this host counts one
pub record IsReading (a : Around) (owners : TreeOwners) (word : List ℕ) (read : Result Package TreeFault) : Type 0 where
  pub state : State
  pub behind : a.tree word state
  pub end : State
  pub read_as : IsTrue end.honest → IsReadAs owners state.world read
  pub silent : Silent state end
  pub reads : Reads state end
  pub given : a.seen end
  pub counts : CountsTree state end read

-- an archive was behind a word, and is refused for the path at which there was no room for it
abbrev pub IsWithoutRoom : {T : Type 0} → Around → List ℕ → Result T TreeFault → Type 0
IsWithoutRoom a word read = (path : Path) × (read ≡ Err (tree_faults.NoRoom path)) × a.full word path

-- what is read for a word, unless no host could be opened for it: the device failed, memory was wanting, or room for an archive
abbrev pub IsReadFor : Around → TreeOwners → List ℕ → Result Package TreeFault → Type 0
IsReadFor a owners word read = IsReading a owners word read ⊎ (((read ≡ Err tree_faults.Device) × a.failed) ⊎ ((read ≡ Err tree_faults.NoMemory) ⊎ IsWithoutRoom a word read))

-- a slash at the end of a word says nothing
abbrev pub ends_in_slash : List ℕ → Bool
ends_in_slash word = nat_lt 0 (length word) && nat_eq (slice_index word (length word - 1)) 47

abbrev pub without_slash : List ℕ → List ℕ
without_slash word = if ends_in_slash word then take (length word - 1) word else word

-- two words are the same, but for that
abbrev pub is_same_tree : List ℕ → List ℕ → Bool
is_same_tree a b = bytes_eq (without_slash a) (without_slash b)

abbrev pub is_among : List (List ℕ) → List ℕ → Bool
is_among earlier word = list_any (λ other. is_same_tree other word) earlier

-- a word that stood there before is refused, and its tree isn't read again
abbrev pub IsReadOnce : Around → TreeOwners → List (List ℕ) → List ℕ → Result Package TreeFault → Type 0
IsReadOnce a owners earlier word read = MatchBool (is_among earlier word) (read ≡ Err tree_faults.Twice) (IsReadFor a owners word read)

-- the same of candidates, behind earlier words
abbrev pub AreReadOnce : Around → TreeOwners → List (List ℕ) → List Candidate → Type 0
AreReadOnce a owners earlier [] = ⊤
AreReadOnce a owners earlier (c ∷ cs) = IsReadOnce a owners earlier c.label c.tree × AreReadOnce a owners (earlier ++ c.label ∷ []) cs

-- the words before as many that are left
abbrev pub words_before : List (List ℕ) → ℕ → List (List ℕ)
words_before all left = take (length all - left) all

-- Hosts between two moments: what stands behind words for trees later stood there before, hosts that were given back stay so,
-- no fault and no want of room is forgotten, and they are over the same hosts, if over any.
pub record HaveGoneOn {Hosts Opened : Type 0} (of : Ghosts Hosts Opened) (old new : Hosts) : Type 0 where
  pub trees : (word : List ℕ) (s : State) → of.tree new word s → of.tree old word s
  pub seen : (s : State) → of.seen old s → of.seen new s
  pub full : (word : List ℕ) (path : Path) → of.full old word path → of.full new word path
  pub faults : of.faults old ≤ of.faults new
  pub below : of.below new ≡ of.below old

-- behind earlier words these trees were read for the first of some words, each word once, and the others are left
pub record AreReadFor (a : Around) (owners : TreeOwners) (earlier words : List (List ℕ)) (cs : List Candidate) (left : List (List ℕ)) : Type 0 where
  pub labels : words ≡ map (λ (c : Candidate). c.label) cs ++ left
  pub read : AreReadOnce a owners earlier cs

-- the next of these rounds has these words, which are behind those of earlier rounds then
abbrev pub IsRoundBefore : {V : Type 0} → (V → List (List ℕ)) → List V → List V → List (List ℕ) → List (List ℕ) → (List (List ℕ) → Type 0) → Type 0
IsRoundBefore {V} items rounds rest earlier later P = (round : V) × (rounds ≡ round ∷ rest) × (later ≡ earlier ++ items round) × P (items round)
