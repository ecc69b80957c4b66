-- Which package is told of a path that would be changed.
use Rattle.std.specs.Prelude.{ℕ, Bool, not, List, Option, Some, None, codes, find, slice_get}
use Rattle.std.specs.List.{list_any}
use Rattle.std.specs.Str.{bytes_eq}
use Rattle.host_core.specs.Paths.{Path}
use Rattle.file_lists.specs.Owners.{owners_of}
use Rattle.file_lists.specs.declared.paths.Listed.{Listed}
use Rattle.inquiries.specs.declared.reading.SeenAll.{SeenAll}
use Rattle.foretold_changes.specs.declared.change.Change.{Change}
use Rattle.foretold_changes.specs.declared.change.Change.TheVariants.{Write, Replace, Remove, Unread}

abbrev pub is_among : List Listed → List ℕ → Bool
is_among owners name = list_any (λ o. bytes_eq o.name name) owners

-- of those whose list has a path in one world the first, by their names, whose list hasn't got it in the other
abbrev pub other_owner : List Listed → List Listed → Option Listed
other_owner owners others = find (λ o. not (is_among others o.name)) owners

abbrev pub or_first : Option Listed → List Listed → Option Listed
or_first (Some owner) owners = Some owner
or_first None owners = slice_get owners 0

-- that one; where each has it in the other world too, the first
abbrev pub owner_beside : List Listed → List Listed → Option Listed
owner_beside owners others = or_first (other_owner owners others) owners

abbrev pub or_other : Option Listed → Option Listed → Option Listed
or_other (Some owner) other = Some owner
or_other None other = other

-- of a path that goes by the lists that stand, of any other by those that would; by both, where there is no knowing
abbrev pub owner_for : Change → List Listed → List Listed → Option Listed
owner_for Write before now = owner_beside now before
owner_for Replace before now = owner_beside now before
owner_for Remove before now = owner_beside before now
owner_for Unread before now = or_other (owner_beside now before) (owner_beside before now)

-- the package, or `-` where no list has the path
abbrev pub owner_text : Option Listed → List ℕ
owner_text None = codes "-"
owner_text (Some owner) = owner.name

-- the listed paths that lie at a place, by what was read
abbrev pub owners_at : SeenAll → Path → List Listed
owners_at seen at = owners_of seen.opened.diversions.ways seen.opened.lists.lists at
