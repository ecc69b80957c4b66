-- The overrides of a root.
use Rattle.std.specs.Prelude.{ℕ, Bool, true, false, if◌then◌else◌, List, [], Option, Some, None, option_and_then, Result, Ok, Err, codes}
use Rattle.std.specs.List.{list_any}
use Rattle.host_core.specs.Paths.{Path}
use Rattle.host_core.specs.World.{World}
use Rattle.host_core.specs.declared.node.Access.{Access}
use Rattle.host_core.specs.declared.node.Node.{Node}
use Rattle.host_core.specs.declared.node.Node.TheVariants.{File, Dir, Link}
use Rattle.name_tables.specs.Tables.{value_in}
use Rattle.stat_overrides.specs.Owners.{id_of}
use Rattle.stat_overrides.specs.Reading.{path_of, table_in}
use Rattle.stat_overrides.specs.declared.lines.Override.{Override}
use Rattle.stat_overrides.specs.declared.lines.Owner.{Owner}
use Rattle.stat_overrides.specs.declared.lines.Owner.TheVariants.{Number, Name}
use Rattle.stat_overrides.specs.declared.table.Overrides.{Overrides}

abbrev pub overrides_path : Path
overrides_path = codes "/var/lib/dpkg/statoverride"

abbrev pub users_path : Path
users_path = codes "/etc/passwd"

abbrev pub groups_path : Path
groups_path = codes "/etc/group"

-- whether it is given by name
abbrev pub is_name : Owner → Bool
is_name (Number number) = false
is_name (Name name) = true

abbrev pub names_user : List Override → Bool
names_user table = list_any (λ o. is_name o.user) table

abbrev pub names_group : List Override → Bool
names_group table = list_any (λ o. is_name o.group) table

-- the text of a file; else none
abbrev pub text_at : Option Node → List ℕ
text_at None = []
text_at (Some (File bytes access)) = bytes
text_at (Some (Dir access)) = []
text_at (Some (Link target)) = []

-- only where it is wanted
abbrev pub text_if : Bool → Option Node → List ℕ
text_if wanted node = if wanted then text_at node else []

-- what stands at the file's place says this: where nothing stands there are none, and what isn't a file is faulty as a whole
abbrev pub table_at : Option Node → Result (List Override) ℕ
table_at None = Ok []
table_at (Some (File bytes access)) = table_in bytes
table_at (Some (Dir access)) = Err 0
table_at (Some (Link target)) = Err 0

-- with the texts that give names their numbers, each where a name of its kind stands in them
abbrev pub with_owners : World → List Override → Overrides
with_owners w table = record { table = table; users = text_if (names_user table) (w users_path); groups = text_if (names_group table) (w groups_path) }

abbrev pub overrides_by : World → Result (List Override) ℕ → Result Overrides ℕ
overrides_by w (Ok table) = Ok (with_owners w table)
overrides_by w (Err line) = Err line

-- the overrides of a root, or the first faulty line
abbrev pub overrides_of : World → Result Overrides ℕ
overrides_of w = overrides_by w (table_at (w overrides_path))

abbrev pub access_with : ℕ → Option ℕ → Option ℕ → Option Access
access_with mode None group = None
access_with mode (Some user) None = None
access_with mode (Some user) (Some group) = Some (record { mode = mode; user = user; group = group })

-- the access of an override: of users and groups the numbers that these texts give
abbrev pub access_by : Overrides → Override → Option Access
access_by overrides o = access_with o.mode (id_of overrides.users o.user) (id_of overrides.groups o.group)

-- that of a path as it is listed
abbrev pub access_at : Overrides → Path → Option Access
access_at overrides path = option_and_then (access_by overrides) (value_in path_of overrides.table path)
