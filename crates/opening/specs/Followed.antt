-- Which paths are followed to where they lead once an administration is open.
use Rattle.std.specs.Prelude.{List, [], ◌∷◌, ◌++◌, codes}
use Rattle.diversions.specs.Ways.{Ways}
use Rattle.diversions.specs.declared.entry.Diversion.{Diversion}
use Rattle.file_lists.specs.Followed.{AreFollowed, AreWhole, diverted_paths}
use Rattle.file_lists.specs.declared.paths.PackageList.{PackageList}
use Rattle.host_core.specs.Paths.{Path}
use Rattle.host_core.specs.World.{World}

-- a path in each of the directories that roots have as links
abbrev pub usual_paths : List Path
usual_paths =
    codes "/bin/x"
    ∷ codes "/sbin/x"
    ∷ codes "/lib/x"
    ∷ codes "/lib32/x"
    ∷ codes "/lib64/x"
    ∷ codes "/libx32/x"
    ∷ codes "/usr/bin/x"
    ∷ codes "/usr/sbin/x"
    ∷ codes "/usr/lib/x"
    ∷ []

-- the paths that are looked at beside the listed ones
abbrev pub named_paths : List Diversion → List Path
named_paths entries = usual_paths ++ diverted_paths entries

-- The aliases are ones of this world; each listed path is followed to where it leads, and so are those in the usual directories and the
-- paths of diversions.
pub record IsFollowed (lists : List PackageList) (ways : Ways) (w : World) : Type 0 where
  pub listed : AreFollowed lists ways w
  pub named : AreWhole w (named_paths ways.entries) ways.aliases
