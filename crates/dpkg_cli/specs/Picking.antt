-- Which of the archives that are given are passed over, as dpkg does (dpkg(1), `-E`, `-G` and `-O`).
use Rattle.std.specs.Prelude.{◌&&◌, ◌||◌, ◌++◌, ℕ, Bool, not, List, Option, Some, None, codes, if◌then◌else◌}
use Rattle.std.specs.declared.cmp.Ordering.{Ordering}
use Rattle.std.specs.declared.cmp.Ordering.TheVariants.{Less, Equal, Greater}
use Rattle.std.specs.Str.{bytes_eq}
use Rattle.dpkg_words.specs.declared.picking.Picking.{Picking}
use Rattle.dpkg_cli.specs.declared.picking.Pick.{Pick}
use Rattle.dpkg_cli.specs.declared.picking.Pick.TheVariants.{Taken, Unselected, Same, Older}

-- somebody wants the package to be there
abbrev pub is_selected : List ℕ → Bool
is_selected want = bytes_eq want (codes "install") || bytes_eq want (codes "hold")

-- its files are there, all of one version
abbrev pub is_unpacked : List ℕ → List ℕ → Bool
is_unpacked flag state =
    not (bytes_eq flag (codes "reinstreq"))
    && not (bytes_eq state (codes "not-installed") || bytes_eq state (codes "config-files") || bytes_eq state (codes "half-installed"))

-- by how the version that comes stands to the one that is there; of versions that can't be read nothing is said
abbrev pub pick_by : Picking → Option Ordering → Pick
pick_by p None = Taken
pick_by p (Some Greater) = Taken
pick_by p (Some Equal) = if p.skip_same then Same else Taken
pick_by p (Some Less) = if p.refuse_downgrade then Older else Taken

-- what comes of an archive, by what is passed over, and what the record of its package says
abbrev pub pick_of : Picking → List ℕ → List ℕ → List ℕ → Option Ordering → Pick
pick_of p want flag state order =
    if p.selected_only && not (is_selected want) then Unselected
    else if is_unpacked flag state then pick_by p order
    else Taken

-- what dpkg tells of one that is passed over
abbrev pub unselected_line : List ℕ → List ℕ
unselected_line named = codes "Skipping unselected package " ++ (named ++ codes ".\n")

abbrev pub same_line : List ℕ → List ℕ → List ℕ
same_line named version = codes "dpkg: version " ++ (version ++ (codes " of " ++ (named ++ codes " already installed, skipping\n")))

abbrev pub older_line : List ℕ → List ℕ → List ℕ → List ℕ
older_line named there coming =
    codes "dpkg: will not downgrade " ++ (named ++ (codes " from " ++ (there ++ (codes " to " ++ (coming ++ codes ", skipping\n")))))
