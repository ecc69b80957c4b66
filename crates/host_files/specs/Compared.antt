-- What two readers gave that were compared, of the bytes that they had left, where those are known.
use Rattle.std.specs.Prelude.{◌≡◌, ◌≢◌, ℕ, Bool, true, false, List, Option, length}
use Rattle.std.specs.Io.KnownBytes.{Consumes}

-- each gave the same bytes, so many; or as many as the other, and others
abbrev pub HaveGiven : (same : Bool) → (count : ℕ) → (one one_left other other_left : Option (List ℕ)) → Type 0
HaveGiven true count one one_left other other_left = (bytes : List ℕ) × (length bytes ≡ count) × Consumes one one_left bytes × Consumes other other_left bytes
HaveGiven false count one one_left other other_left = (p q : List ℕ) × (length p ≡ length q) × (p ≢ q) × Consumes one one_left p × Consumes other other_left q
