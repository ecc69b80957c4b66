-- The program's own words for what dpkg's ask for.
use Rattle.std.specs.Prelude.{◌&&◌, ◌||◌, Bool, not, List, [], ◌∷◌, ◌++◌, Option, Some, None, codes, cond, if◌then◌else◌, map}
use Rattle.std.specs.Str.{bytes_eq}
use Rattle.dpkg_words.specs.Cutting.{cut_at}
use Rattle.dpkg_words.specs.Options.{Text}
use Rattle.dpkg_words.specs.declared.forces.Forced.{Forced}
use Rattle.dpkg_words.specs.declared.reading.Options.{Options}

abbrev pub root_of : Text → Text
root_of [] = codes "/"
root_of (c ∷ cs) = c ∷ cs

-- a subcommand under the root
abbrev pub own_words : Text → Options → List Text
own_words name o = codes "coizkerra" ∷ name ∷ codes "--root" ∷ root_of o.instdir ∷ []

-- who is told beside the lines: those who read a descriptor, and a log
abbrev pub log_words : Option Text → List Text
log_words None = []
log_words (Some file) = (codes "--log=" ++ file) ∷ []

abbrev pub told_words : Options → List Text
told_words o = map (λ number. codes "--status-fd=" ++ number) o.status_fds ++ log_words o.log

-- one that changes what is there, unless it is only rehearsed
abbrev pub changing_words : Text → Options → List Text
changing_words name o = (own_words name o ++ cond o.no_act (codes "--dry-run" ∷ []) []) ++ told_words o

-- how many units may fail
abbrev pub limit_words : Options → List Text
limit_words o = (codes "--abort-after=" ++ o.limit) ∷ []

-- one that calls scripts: the triggers that are pending then are processed, or let be
abbrev pub calling_words : Text → Options → List Text
calling_words name o = (changing_words name o ++ cond (not o.triggers) (codes "--no-triggers" ∷ []) []) ++ limit_words o

-- an edited conffile stays: by confdef, whatever else is forced, or by confold without confnew
abbrev pub keeps : Forced → Bool
keeps f = f.confdef || (f.confold && not f.confnew)

-- the package's takes its place
abbrev pub takes : Forced → Bool
takes f = not f.confdef && f.confnew

abbrev pub conffile_words : Forced → List Text → List Text
conffile_words f words = ((words ++ cond (keeps f) (codes "--force-confold" ∷ []) []) ++ cond (takes f) (codes "--force-confnew" ∷ []) [])
    ++ cond f.confmiss (codes "--force-confmiss" ∷ []) []

-- and Depends and Pre-Depends are ignored
abbrev pub depends_words : Forced → List Text → List Text
depends_words f words = words ++ cond f.depends (codes "--force-depends" ∷ []) []

abbrev pub forced_words : Forced → List Text → List Text
forced_words f words = depends_words f (conffile_words f words)

-- none of these is a flag
abbrev pub behind_dashes : List Text → List Text → List Text
behind_dashes words names = (words ++ codes "--" ∷ []) ++ names

-- all packages are of one architecture here
abbrev pub is_plain : Text → Bool
is_plain architecture = bytes_eq architecture (codes "amd64") || bytes_eq architecture (codes "all")

abbrev pub plain_from : Text → Option (Text × Text) → Text
plain_from name (Some parts) = if is_plain parts.1 then parts.0 else name
plain_from name None = name

-- `PKG:amd64` and `PKG:all` are PKG
abbrev pub plain_name : Text → Text
plain_name name = plain_from name (cut_at 58 name)

abbrev pub plain_names : List Text → List Text
plain_names names = map plain_name names

-- `install` or `unpack`, with the filters for paths, before the files; an install takes them as given
abbrev pub tree_front : Text → Bool → Options → List Text
tree_front name as_given o =
    forced_words o.forced ((calling_words name o ++ cond o.auto_deconfigure (codes "--auto-deconfigure" ∷ []) []) ++ o.filters) ++ cond as_given (codes "--as-given" ∷ []) []

-- `configure`, of all packages that wait for it where none is named
abbrev pub configuring_words : Options → List Text → List Text
configuring_words o names = behind_dashes (forced_words o.forced (calling_words (codes "configure") o)) (plain_names names)

-- `remove` or `purge`, or `remove-selected` without names
abbrev pub removing_words : Text → Options → List Text → List Text
removing_words name o names = behind_dashes (depends_words o.forced (calling_words name o)) (plain_names names)

-- `configure --triggers-only`, of all triggers that are pending
abbrev pub triggering_words : Options → List Text
triggering_words o = (changing_words (codes "configure") o ++ codes "--triggers-only" ∷ []) ++ limit_words o

-- the packages as dpkg's table
abbrev pub listing_words : Options → List Text → List Text
listing_words o patterns = behind_dashes (own_words (codes "list") o ++ codes "--table" ∷ []) patterns

-- a question
abbrev pub asking_words : Text → Options → List Text → List Text
asking_words name o asked = behind_dashes (own_words name o) asked
