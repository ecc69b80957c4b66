use Rattle.std.proofs.Common.{◌≡◌, ℕ, ◌<◌, ◌++◌, List, [], ◌∷◌, Option, Some, None, is_some, false, length, sym, subst, ap, ◌∙◌, rules}
use Rattle.std.specs.List.{All}
use Rattle.std.proofs.lemmas.List.Elements.{All-nil, All-cons}
use Rattle.host_core.specs.Paths.{Path}
use Rattle.host_core.specs.World.{World}
use Rattle.conffiles.specs.declared.entries.Settled.{Settled}
use Rattle.conffiles.specs.Settling.{CanSettle}
use Rattle.tests_conffiles.proofs.table_rows.settle.Goals as goal

none_found : (o : Option Path) → is_some o ≡ false → o ≡ None
none_found None is = cc
none_found (Some p) is = absurd cc

all_one : (w : World) (x : Path) (e : Settled) (list : List Settled) → list ≡ e ∷ [] → e.path ≡ x → CanSettle x w → All (λ f. CanSettle f.path w) list
all_one w x e list is same can =
    subst (λ l. All (λ f. CanSettle f.path w) l) (sym is) (All-cons (λ (f : Settled). CanSettle f.path w) e [] (subst (λ p. CanSettle p w) (sym same) can) (All-nil (λ (f : Settled). CanSettle f.path w)))

pub apply-requires-clause-can : goal.apply-requires-clause-can
apply-requires-clause-can c = λ h.
    let items : c.as_slice.result.now ≡ c.new.result ∷ [] = search rules in
    let none : c.in_ok-obstacle.obstacle ≡ None = none_found c.in_ok-obstacle.obstacle (search rules) in
    all_one _ c.args.path c.new.result _ items c.new.ensures.path (subst (CanSettle c.args.path) (sym c.find_obstacle.ensures.looks.reads.world) (c.in_ok-obstacle.ensures.clear h none))
