-- Rows by their parts.
use Rattle.std.proofs.Common.{◌≡◌, Option}
use Rattle.host_core.specs.declared.call.Call.{Call}
use Rattle.undo_rows.specs.declared.rows.Row.{Row}
use Rattle.undo_rows.specs.declared.rows.Owner.{Owner}

pub row_is : (o p : Owner) (f g h k l m : Option Call) → o ≡ p → f ≡ k → g ≡ l → h ≡ m
    → ◌≡◌ {A = Row} (record { owner = o; forward = f; fallback = g; undo = h }) (record { owner = p; forward = k; fallback = l; undo = m })
row_is o p f g h k l m a b c d = λ i. record { owner = a i; forward = b i; fallback = c i; undo = d i }
