-- Links above the paths in hand, looked at again: where none has moved the places are those of before.
use Rattle.std.proofs.Common.{◌≡◌, Bool, true, false, not, ◌||◌, IsTrue, List, [], ◌∷◌, Result, Ok, Err, refl, sym, ap, subst, ◌∙◌}
use Rattle.std.specs.Prelude.{IfOk}
use Rattle.std.specs.List.{AllByRecursion, list_any}
use Rattle.std.specs.Str.{bytes_eq}
use Rattle.std.proofs.lemmas.Bool.{false≢true}
use Rattle.std.proofs.lemmas.Slice.Eq.{bytes_eq-Decides}
use Rattle.aliases.specs.Aliases.{Alias, resolved}
use Rattle.aliases.specs.Reading.{AreAliasesIn}
use Rattle.diversions.specs.Diverted.{Diverted}
use Rattle.file_lists.specs.Followed.{AreFollowed, AreWhole, HasMoreAliases}
use Rattle.file_lists.proofs.Growing.{aliases_grown, each_grown}
use Rattle.host_core.specs.Paths.{Path}
use Rattle.host_core.specs.World.{World}
use Rattle.unpack_engine.specs.Followed.{LieAsLinked, lies_elsewhere, with_aliases_of}

-- aliases alone, without diversions
abbrev pub bare : List Alias → Diverted
bare aliases = record { ways = record { entries = []; aliases = aliases }; closed = false }

module _ (aliases found : List Alias) where
  -- where none lies elsewhere each lies there
  pub same_places : (paths : List Path) → list_any (lies_elsewhere aliases found) paths ≡ false → AllByRecursion (λ path. resolved aliases path ≡ resolved found path) paths
  same_places [] none = tt
  same_places (path ∷ paths) none = at (bytes_eq (resolved aliases path) (resolved found path)) refl none (same_places paths)
    where
      at : (b : Bool) → bytes_eq (resolved aliases path) (resolved found path) ≡ b → not b || list_any (lies_elsewhere aliases found) paths ≡ false
          → (list_any (lies_elsewhere aliases found) paths ≡ false → AllByRecursion (λ p. resolved aliases p ≡ resolved found p) paths) → AllByRecursion (λ p. resolved aliases p ≡ resolved found p) (path ∷ paths)
      at true same rest later = ((bytes_eq-Decides (resolved aliases path) (resolved found path)).0 same, later rest)
      at false other rest later = absurd (false≢true (sym rest))

-- by the same aliases each lies there
here : (aliases : List Alias) (paths : List Path) → AllByRecursion (λ path. resolved aliases path ≡ resolved aliases path) paths
here aliases [] = tt
here aliases (path ∷ paths) = (refl, here aliases paths)

-- by the aliases of a world the paths lie as linked, if they are followed
pub linked_by : (w : World) (paths : List Path) (aliases : List Alias) → AreAliasesIn w aliases → AreWhole w paths aliases → LieAsLinked w paths aliases
linked_by w paths aliases sound whole = record { found = aliases; sound = sound; whole = whole; same = here aliases paths }

-- as others are added the entries stay
pub keeps_entries : (honest : Bool) (w : World) (old forgotten new : Diverted) → forgotten ≡ record old { ways = record old.ways { aliases = [] } } → HasMoreAliases honest w forgotten new → new ≡ with_aliases_of new old
keeps_entries honest w old forgotten new bare_ more =
    let same : record forgotten { ways = record forgotten.ways { aliases = new.ways.aliases } } ≡ record old { ways = record old.ways { aliases = new.ways.aliases } } = ap (λ (d : Diverted). record d { ways = record d.ways { aliases = new.ways.aliases } }) bare_ in
    more.kept ∙ ap (λ (l : List Alias). record forgotten { ways = record forgotten.ways { aliases = l } }) (sym (ap (λ (d : Diverted). d.ways.aliases) more.kept)) ∙ same
