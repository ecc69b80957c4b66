-- What is answered where nothing is told.
use Rattle.std.proofs.Common.{◌≡◌, ℕ, Option, Some, None, Result, Ok, Err, subst}
use Rattle.std.specs.Prelude.{IfNone, IfOk, MatchOption}

pub whichever : {T : Type 0} (told : Option T) (P : Type 0) → P → IfNone told P
whichever None P is = is
whichever (Some x) P is = tt

-- where nothing is told, no work was declined
pub none_then : {T : Type 0} (told : Option T) (declined : Option ℕ) (P Q : Type 0) → IfNone told (declined ≡ None) → IfNone declined P → (P → Q) → IfNone told Q
none_then None declined P Q none is so = so (subst (λ (o : Option ℕ). IfNone o P) none is)
none_then (Some x) declined P Q none is so = tt

-- what is said of both answers holds of the one
pub none_of : {E : Type 0} (result : Result (Option ℕ) E) (P : Type 0) (Q : ℕ → Type 0) → IfOk result (λ declined. MatchOption declined P Q) → IfOk result (λ declined. IfNone declined P)
none_of (Ok None) P Q is = is
none_of (Ok (Some k)) P Q is = tt
none_of (Err e) P Q is = tt
