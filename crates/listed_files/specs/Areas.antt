-- Where moves leave all as it was: the places that a move may change.
use Rattle.std.specs.Prelude.{◌||◌, ◌&&◌, Bool, List}
use Rattle.std.specs.List.{list_any}
use Rattle.std.specs.Str.{bytes_eq}
use Rattle.host_core.specs.Paths.{Path}
use Rattle.administration.specs.Places.{temporary}
use Rattle.package_files.specs.declared.work.Work.{Work}
use Rattle.file_removal.specs.declared.leaving.Leaving.{Leaving}

-- a list, or its temporary name
abbrev pub is_list_place : Path → Path → Bool
is_list_place list q = bytes_eq q list || bytes_eq q (temporary list)

-- a name of one of the works
abbrev pub is_work_name : List Work → Path → Bool
is_work_name works q = list_any (λ x. bytes_eq q x.target || (bytes_eq q x.backup || bytes_eq q x.fresh)) works

-- what a list and the files of works change
abbrev pub is_listing_place : Path → List Work → Path → Bool
is_listing_place list works q = is_list_place list q || is_work_name works q

-- the place of a path that may go
abbrev pub is_leaving_place : List Leaving → Path → Bool
is_leaving_place leaving q = list_any (λ x. x.goes && bytes_eq q x.place) leaving

-- what old paths and a new list change
abbrev pub is_renewed_place : List Leaving → Path → Path → Bool
is_renewed_place leaving list q = is_leaving_place leaving q || is_list_place list q
