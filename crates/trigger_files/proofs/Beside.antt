-- What a session keeps stands beside the files of interests.
use Rattle.std.proofs.Common.{◌≡◌, true, false, List, ℕ, refl, sym, ap, ◌∙◌}
use Rattle.std.proofs.lemmas.Bool.{true≢false}
use Rattle.administration.specs.Places.{temporary}
use Rattle.host_core.specs.Paths.{Path, is_own}
use Rattle.host_core.specs.World.{World, SameOn}
use Rattle.trigger_files.specs.Places.{place}
use Rattle.trigger_files.specs.Registered.{IsBesideRegisters, KeepsBesideRegisters}

place_other : (name : List ℕ) → is_own (place name) ≡ false
place_other name = refl

spare_other : (name : List ℕ) → is_own (temporary (place name)) ≡ false
spare_other name = refl

own_beside : (q : Path) → is_own q ≡ true → IsBesideRegisters q
own_beside q own name register = (
  (λ e. true≢false (sym own ∙ ap is_own e ∙ place_other name)),
  (λ e. true≢false (sym own ∙ ap is_own e ∙ spare_other name)),
)

pub keeps_own : (old new : World) → KeepsBesideRegisters old new → SameOn is_own old new
keeps_own old new keeps q own = keeps q (own_beside q own)
