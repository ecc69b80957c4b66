-- The control files that are stored in `info/` with a package.
use Rattle.std.specs.Prelude.{◌≡◌, ◌≢◌, ◌⊎◌, ◌↔◌, ◌&&◌, not, Bool, true, List, ◌∷◌, ◌++◌, cond, Option, Some, None, is_some, IsSome, Contains}
use Rattle.std.specs.List.{list_any, AllByRecursion}
use Rattle.std.specs.Str.{bytes_eq}
use Rattle.host_core.specs.Paths.{Path}
use Rattle.host_core.specs.World.{World, IsDirectory}
use Rattle.host_core.specs.Outcome.{script_name}
use Rattle.host_core.specs.declared.node.Node.{Node}
use Rattle.host_core.specs.declared.call.Script.TheVariants.{Postrm}
use Rattle.administration.specs.Places.{info_path, info_file, temporary}
use Rattle.administration.specs.Files.{NoDirectory}
use Rattle.control_members.specs.Names.{is_member_name}
use Rattle.control_members.specs.Members.{AreInOrder, member_node}
use Rattle.control_members.specs.declared.member.Member.{Member}

-- where a control file of a package is stored; for a script this is the script's path
abbrev pub stored_member_path : Path → Path → Path
stored_member_path owner name = info_file (owner ++ 46 ∷ name)

-- each of these is a name under which a control file is kept
abbrev pub AreMemberNames : List Path → Type 0
AreMemberNames names = AllByRecursion (λ name. is_member_name name ≡ true) names

-- the names under which something is stored with a package, in the order of their bytes
pub record AreStoredNames (w : World) (owner : Path) (names : List Path) : Type 0 where
  pub order : AreInOrder names
  pub exact : (name : Path) → Contains names name ↔ ((is_member_name name ≡ true) × IsSome (w (stored_member_path owner name)))

-- no directory is in the way
pub record IsMembersReady (owner : Path) (w : World) : Type 0 where
  pub info : IsDirectory (w info_path)
  pub own : (name : Path) → is_member_name name ≡ true → NoDirectory (w (stored_member_path owner name))
  pub spares : (name : Path) → is_member_name name ≡ true → NoDirectory (w (temporary (stored_member_path owner name)))

-- all but a package's stored control files is as before
abbrev pub KeepsBesideMembers : Path → World → World → Type 0
KeepsBesideMembers owner old new = (q : Path) → ((name : Path) → is_member_name name ≡ true → q ≢ stored_member_path owner name) → new q ≡ old q

-- all but these and their temporary names
abbrev pub KeepsBesideWritten : Path → World → World → Type 0
KeepsBesideWritten owner old new =
    (q : Path) → ((name : Path) → is_member_name name ≡ true → (q ≢ stored_member_path owner name) × (q ≢ temporary (stored_member_path owner name))) → new q ≡ old q

-- the first where there is one, else the second
abbrev pub over : Option Node → Option Node → Option Node
over None before = before
over (Some node) before = Some node

-- whether a name is among these
abbrev pub is_among : List Path → Path → Bool
is_among names name = list_any (bytes_eq name) names

-- what stands under a name once new control files took the place of the old ones: the new one; nothing where only an old one
-- has the name; what stood there, where neither has
abbrev pub replaced_node : List Member → List Path → Path → Option Node → Option Node
replaced_node new old name before = over (member_node new name) (cond (is_among old name) None before)

-- what stands at its temporary name: nothing, where a file was written
abbrev pub replaced_spare : List Member → Path → Option Node → Option Node
replaced_spare new name before = cond (is_some (member_node new name)) None before

-- the new control files took the place of the old ones
pub record AreReplaced (owner : Path) (new : List Member) (old : List Path) (before now : World) : Type 0 where
  pub stands : (name : Path) → is_member_name name ≡ true → now (stored_member_path owner name) ≡ replaced_node new old name (before (stored_member_path owner name))
  pub spares : (name : Path) → is_member_name name ≡ true → now (temporary (stored_member_path owner name)) ≡ replaced_spare new name (before (temporary (stored_member_path owner name)))
  pub rest : KeepsBesideWritten owner before now

-- at a temporary name, while files are written: what was there, where none is written; else no directory
abbrev pub IsSpare : Option Node → Option Node → Option Node → Type 0
IsSpare None before now = now ≡ before
IsSpare (Some node) before now = NoDirectory now

-- at each moment: what stood there, or whole what is to stand there
pub record AreReplacing (owner : Path) (new : List Member) (old : List Path) (before now : World) : Type 0 where
  pub own : (name : Path) → is_member_name name ≡ true
      → (now (stored_member_path owner name) ≡ before (stored_member_path owner name))
      ⊎ (now (stored_member_path owner name) ≡ replaced_node new old name (before (stored_member_path owner name)))
  pub spares : (name : Path) → is_member_name name ≡ true → IsSpare (member_node new name) (before (temporary (stored_member_path owner name))) (now (temporary (stored_member_path owner name)))
  pub rest : KeepsBesideWritten owner before now

-- whether a name goes with these: each of them, but the postrm where that is to stay
abbrev pub goes : List Path → Bool → Path → Bool
goes names keep_postrm name = is_among names name && not (keep_postrm && bytes_eq name (script_name Postrm))

-- the control files of the names that go are gone
pub record AreTaken (owner : Path) (gone : Path → Bool) (before now : World) : Type 0 where
  pub stands : (name : Path) → is_member_name name ≡ true → now (stored_member_path owner name) ≡ cond (gone name) None (before (stored_member_path owner name))
  pub rest : KeepsBesideMembers owner before now

-- at each moment: what stood there; nothing, where it goes
pub record AreTaking (owner : Path) (gone : Path → Bool) (before now : World) : Type 0 where
  pub own : (name : Path) → is_member_name name ≡ true
      → (now (stored_member_path owner name) ≡ before (stored_member_path owner name))
      ⊎ (now (stored_member_path owner name) ≡ cond (gone name) None (before (stored_member_path owner name)))
  pub rest : KeepsBesideMembers owner before now

-- these control files are stored with a package, and no others
abbrev pub AreStored : Path → List Member → World → Type 0
AreStored owner members w = (name : Path) → is_member_name name ≡ true → w (stored_member_path owner name) ≡ member_node members name
