-- A shipped link's names, one after another.
use Rattle.std.proofs.Common.{◌≡◌, ◌||◌, Bool, true, false, cond, codes, List, [], ◌∷◌, ◌++◌, refl, sym, ap, ◌∙◌}
use Rattle.std.specs.Str.{bytes_eq}
use Rattle.host_core.specs.Paths.{Path}
use Rattle.aliases.specs.Aliases.{Alias, led}
use Rattle.aliases.specs.Links.{above, names_of, with_name}
use Rattle.aliases.specs.Shipped.{entered, walked}

-- a name before others
walked_name : (aliases : List Alias) (at name : Path) (names : List Path) → walked aliases at (with_name name names) ≡ walked aliases (entered aliases at name) names
walked_name aliases at name names = by (bytes_eq name []) refl
  where
    by : (b : Bool) → bytes_eq name [] ≡ b → walked aliases at (cond b names (name ∷ names)) ≡ walked aliases (entered aliases at name) names
    by true is = sym (ap (λ c. walked aliases (cond (c || bytes_eq name (codes ".")) at (cond (bytes_eq name (codes "..")) (above at) (led aliases (at ++ 47 ∷ name)))) names) is)
    by false is = refl

-- the first of some names is entered
pub walked_on : (aliases : List Alias) (at next rest name behind : Path) → names_of rest ≡ with_name name (names_of behind) → next ≡ entered aliases at name → walked aliases next (names_of behind) ≡ walked aliases at (names_of rest)
walked_on aliases at next rest name behind cut is =
    ap (λ (p : Path). walked aliases p (names_of behind)) is ∙ sym (walked_name aliases at name (names_of behind)) ∙ sym (ap (walked aliases at) cut)
