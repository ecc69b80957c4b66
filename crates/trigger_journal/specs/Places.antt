-- Where activations stand that aren't taken in yet, in dpkg's places.
use Rattle.std.specs.Prelude.{ℕ, List, codes}
use Rattle.host_core.specs.Paths.{Path}

abbrev pub triggers_directory : Path
triggers_directory = codes "/var/lib/dpkg/triggers"

abbrev pub journal_path : Path
journal_path = codes "/var/lib/dpkg/triggers/Unincorp"
