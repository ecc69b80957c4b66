-- Whatever is done changes nothing in an area without names.
use Rattle.std.specs.Prelude.{Result}
use Rattle.std.proofs.lemmas.Bool.{false≢true}
use Rattle.host_core.specs.Host.{State}
use Rattle.host_core.specs.Loss.{IsLater}
use Rattle.scattered_losses.specs.Apart.{WorksApart}
use Rattle.scattered_losses.proofs.GoingApart.{beside_apart}
use Rattle.tests_steps.specs.Nowhere.{nowhere}

pub nowhere_apart : {T E : Type 0} (result : Result T E) (a b : State) → IsLater a b → WorksApart result nowhere a b
nowhere_apart result a b later = beside_apart nowhere (λ old now. Unit {0}) a b (λ h now is q there. absurd (false≢true there)) later result
