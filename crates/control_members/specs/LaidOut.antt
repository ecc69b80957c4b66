-- The control files of the incoming tree in `tmp.ci` while its unit runs.
use Rattle.std.specs.Prelude.{◌≡◌, ◌⊎◌, true, false, List, ◌∷◌, ◌++◌, IsSome}
use Rattle.host_core.specs.Paths.{Path}
use Rattle.host_core.specs.World.{World, IsDirectory, IsLoose, KeepsBut}
use Rattle.host_core.specs.Tree.{has_slash}
use Rattle.administration.specs.Places.{tmp_path, temporary, is_within}
use Rattle.administration.specs.Files.{NoDirectory}
use Rattle.control_members.specs.Names.{is_member_name}
use Rattle.control_members.specs.Members.{member_node}
use Rattle.control_members.specs.declared.member.Member.{Member}

-- where a control file lies there; for a script this is the script's path
abbrev pub laid_path : Path → Path
laid_path name = tmp_path ++ 47 ∷ name

-- in `tmp.ci` stand these control files and nothing else
pub record AreLaidOut (members : List Member) (w : World) : Type 0 where
  pub there : IsDirectory (w tmp_path)
  pub files : (name : Path) → has_slash name ≡ false → w (laid_path name) ≡ member_node members name

-- the name of a control file, or the one under which it is written
abbrev pub IsIncomingName : Path → Type 0
IsIncomingName name = (member : Path) × (is_member_name member ≡ true) × ((name ≡ member) ⊎ (name ≡ temporary member))

-- At each moment of a unit: `tmp.ci` is a directory or isn't there, and what stands in it has the name of a control file and
-- is no directory. So the next opening can take it away.
pub record IsIncoming (w : World) : Type 0 where
  pub place : IsLoose (w tmp_path) → ⊥
  pub named : (name : Path) → has_slash name ≡ false → IsSome (w (laid_path name)) → IsIncomingName name
  pub loose : (name : Path) → has_slash name ≡ false → NoDirectory (w (laid_path name))

-- at each moment of laying them out and taking them away
pub record IsLaying (old now : World) : Type 0 where
  pub incoming : IsIncoming now
  pub rest : KeepsBut (is_within tmp_path) old now
