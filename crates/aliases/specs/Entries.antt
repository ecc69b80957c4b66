-- A table of aliases as it is kept, targets under the texts of their places, and the texts of a set.
use Rattle.std.specs.Prelude.{ℕ, List, map}
use Rattle.host_core.specs.Paths.{Path}
use Rattle.aliases.specs.Aliases.{Alias}

abbrev pub aliases_of : {K : Type 0} → (K → List ℕ) → List (K × Path) → List Alias
aliases_of key pairs = map (λ e. record { place = key e.0; target = e.1 }) pairs

abbrev pub texts_of : {K : Type 0} → (K → List ℕ) → List K → List Path
texts_of text keys = map text keys
