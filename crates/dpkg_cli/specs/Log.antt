-- The lines of a log (`--log FILE`), as those of dpkg.log(5).
use Rattle.std.specs.Prelude.{ℕ, List, [], ◌∷◌, ◌++◌, Option, Some, None, codes, if◌then◌else◌}
use Rattle.std.specs.Str.{bytes_eq}
use Rattle.dpkg_cli.specs.Stages.{stage_name}
use Rattle.dpkg_cli.specs.declared.stages.Stage.{Stage}

-- date and time stand before each
abbrev pub log_line : List ℕ → List ℕ → List ℕ
log_line time text = time ++ (codes " " ++ (text ++ codes "\n"))

-- a package with its architecture, where its record has one
abbrev pub qualified : List ℕ → List ℕ → List ℕ
qualified package_name [] = package_name
qualified package_name (c ∷ cs) = package_name ++ (codes ":" ++ (c ∷ cs))

-- a version, where there is one
abbrev pub version_text : List ℕ → List ℕ
version_text [] = codes "<none>"
version_text (c ∷ cs) = c ∷ cs

-- what is begun with a package, of which this version is there, and this one comes
abbrev pub stage_text : Stage → List ℕ → List ℕ → List ℕ → List ℕ
stage_text stage named old coming = stage_name stage ++ (codes " " ++ (named ++ (codes " " ++ (version_text old ++ (codes " " ++ version_text coming)))))

-- the state that was noted; one that is gone has no version
abbrev pub status_text : List ℕ → List ℕ → List ℕ → List ℕ
status_text state named version = codes "status " ++ (state ++ (codes " " ++ (named ++ (codes " " ++ version_text version))))
