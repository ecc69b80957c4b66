use Rattle.std.proofs.Common.{[], ◌∷◌, sym, subst}
use Rattle.host_core.specs.Paths.{Path}
use Rattle.listed_files.specs.Concluding.{AreElsewhere}
use Rattle.unpack_plan.proofs.Elsewhere.{new_elsewhere}
use Rattle.unpack_plan.proofs.names.waiting_name.Goals as goal

pub returns-clause-elsewhere : goal.returns-clause-elsewhere
returns-clause-elsewhere c = subst (λ (q : Path). AreElsewhere (q ∷ [])) (sym c.in_ok-beside.ensures) (new_elsewhere c.in_ok-place.place c.law.ensures)
