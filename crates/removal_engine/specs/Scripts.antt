-- The stored scripts that a removal calls (Policy 6.8).
use Rattle.std.specs.Prelude.{◌≡◌, ℕ, Bool, cond, List, [], ◌∷◌, Option, Some, None, is_some, codes}
use Rattle.host_core.specs.World.{World}
use Rattle.host_core.specs.declared.call.Call.{Call}
use Rattle.host_core.specs.declared.call.Side.TheVariants.{Old}
use Rattle.host_core.specs.declared.call.Script.{Script}
use Rattle.host_core.specs.declared.call.Script.TheVariants as script
use Rattle.administration.specs.Places.{script_path}
use Rattle.undo_rows.specs.declared.rows.Row.{Row}
use Rattle.undo_rows.specs.declared.rows.Owner.TheVariants.{Package as OfPackage}
use Rattle.removal_engine.specs.declared.scripts.Stored.{Stored}

-- which of them are stored with a package in this world
pub record AreStored (name : List ℕ) (w : World) (stored : Stored) : Type 0 where
  pub prerm : stored.prerm ≡ is_some (w (script_path name script.Prerm))
  pub postinst : stored.postinst ≡ is_some (w (script_path name script.Postinst))
  pub postrm : stored.postrm ≡ is_some (w (script_path name script.Postrm))

-- those of this world
abbrev pub stored_in : List ℕ → World → Stored
stored_in name w = record {
  prerm = is_some (w (script_path name script.Prerm));
  postinst = is_some (w (script_path name script.Postinst));
  postrm = is_some (w (script_path name script.Postrm));
}

-- a call of a stored script with one argument; where the script isn't there it isn't called
abbrev pub call_of : List ℕ → Script → Bool → (word : List ℕ) → Option Call
call_of name s there word =
    cond there
    (Some (record { side = Old; «package» = name; script = s; at = script_path name s; args = word ∷ [] }))
    None

-- a call of the package's, and the one that undoes it
abbrev pub row_of : List ℕ → (forward undo : Option Call) → Row
row_of name forward undo = record { owner = OfPackage name; forward = forward; fallback = None; undo = undo }

-- nothing is called
abbrev pub quiet_row : List ℕ → Row
quiet_row name = row_of name None None

-- prerm `remove`, undone by postinst `abort-remove`
abbrev pub prerm_row : List ℕ → Stored → Row
prerm_row name stored = row_of name (call_of name script.Prerm stored.prerm (codes "remove")) (call_of name script.Postinst stored.postinst (codes "abort-remove"))

-- postrm `remove`, which nothing undoes
abbrev pub postrm_row : List ℕ → Stored → Row
postrm_row name stored = row_of name (call_of name script.Postrm stored.postrm (codes "remove")) None

-- postrm `purge`, which nothing undoes
abbrev pub purge_row : List ℕ → Stored → Row
purge_row name stored = row_of name (call_of name script.Postrm stored.postrm (codes "purge")) None
