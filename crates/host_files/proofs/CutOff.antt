-- Where a path ends before it comes to its name.
use Rattle.std.proofs.Common.{◌≡◌, ℕ, Bool, false, List, [], ◌∷◌, ◌++◌, Result, Ok, Err, IfOk, ap, ◌∙◌, append_assoc}
use Rattle.host_core.specs.Paths.{Path}
use Rattle.host_core.specs.Tree.{IsBelow}
use Rattle.host_files.specs.Places.{place_of}
use Rattle.host_files.specs.Shown.{IsCutOff, LooksAtNoDirectory}
use Rattle.host_files.specs.SystemCalls.{changes_in}
use Rattle.host_files.specs.declared.trace.SystemCall.{SystemCall}

-- what is above a path's directory is above the path
pub above_too : (top above path : Path) → IsBelow top above → IsBelow above path → IsBelow top path
above_too top above path first second =
    (first.0 ++ 47 ∷ second.0, second.1 ∙ ap (λ (l : List ℕ). l ++ 47 ∷ second.0) first.1 ∙ append_assoc top (47 ∷ first.0) (47 ∷ second.0))

pub cut_above : (front : List ℕ) (above path : Path) (made : List SystemCall) → IsBelow above path → IsCutOff front above made → IsCutOff front path made
cut_above front above path made below (top, higher, rest) = (top, above_too top above path higher below, rest)

pub cut_here : {E : Type 0} (front : List ℕ) (above path : Path) (old new : List SystemCall) (result : Result Bool E) → IsBelow above path → changes_in old ≡ []
    → IfOk result (λ is. is ≡ false → LooksAtNoDirectory (place_of front above) old new) → IfOk result (λ reached. reached ≡ false → IsCutOff front path new)
cut_here front above path old new (Ok x) below none looks = λ no. (above, below, (old, none, looks no))
cut_here front above path old new (Err e) below none looks = tt
