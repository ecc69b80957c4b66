-- What shipped paths need to be checked, and what the check leaves of them.
use Rattle.std.specs.Prelude.{◌≡◌, Bool, false, None, List, map}
use Rattle.std.specs.Str.{bytes_eq}
use Rattle.host_core.specs.World.{is_file}
use Rattle.package_files.specs.declared.work.Work.{Work}

-- what isn't a file is no conffile
abbrev pub IsFitting : Work → Type 0
IsFitting x = is_file x.node ≡ false → x.target ≡ x.place

-- a work without what was seen
abbrev pub unseen : Work → Work
unseen x = record x { had = None }

-- the same works, whatever was seen of them
abbrev pub IsSameBut : List Work → List Work → Type 0
IsSameBut old new = map unseen new ≡ map unseen old

-- two works of one place
abbrev pub is_one_place : Work → Work → Bool
is_one_place x y = bytes_eq x.place y.place
