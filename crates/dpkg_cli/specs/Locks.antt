-- Which locks of a root are held.
use Rattle.std.specs.Prelude.{Bool, true, false}
use Rattle.dpkg_cli.specs.declared.locks.Held.{Held}
use Rattle.dpkg_cli.specs.declared.locks.Held.TheVariants.{Both, Administration, Table, Nothing}

-- the frontend's is held by this program
abbrev pub has_frontend : Held → Bool
has_frontend (Both frontend administration) = true
has_frontend (Administration administration) = false
has_frontend (Table table) = false
has_frontend Nothing = false

-- that of the administration is
abbrev pub has_administration : Held → Bool
has_administration (Both frontend administration) = true
has_administration (Administration administration) = true
has_administration (Table table) = false
has_administration Nothing = false
