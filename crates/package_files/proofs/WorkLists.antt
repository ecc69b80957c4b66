-- Lists of works, and worlds that agree at their names.
use Rattle.std.proofs.Common.{◌≡◌, List, [], ◌∷◌, ◌++◌, sym, ap, subst, ◌∙◌}
use Rattle.host_core.specs.Paths.{Path}
use Rattle.host_core.specs.World.{World}
use Rattle.package_files.specs.declared.work.Work.{Work}
use Rattle.package_files.specs.Files.{is_written, cleared, shown, saved, Each, Misses, HasWritten}
use Rattle.package_files.specs.Free.{IsFree, IsFreeIn}
use Rattle.package_files.specs.Names.{IsNamed, IsBefore, AllInOrder}
use Rattle.package_files.specs.Apart.{Differ}
use Rattle.package_files.proofs.WorkNames.{IsNotBelow, named_differ, before_differ, before_above}

pub each_map : (R P Q : Work → Type 0) → ((x : Work) → R x → P x → Q x) → (xs : List Work) → Each R xs → Each P xs → Each Q xs
each_map R P Q so [] rs ps = tt
each_map R P Q so (x ∷ xs) rs ps = (so x rs.0 ps.0, each_map R P Q so xs rs.1 ps.1)

pub each_of : (P Q : Work → Type 0) → ((x : Work) → P x → Q x) → (xs : List Work) → Each P xs → Each Q xs
each_of P Q so [] ps = tt
each_of P Q so (x ∷ xs) ps = (so x ps.0, each_of P Q so xs ps.1)

pub each_front : (P : Work → Type 0) (a b : List Work) → Each P (a ++ b) → Each P a
each_front P [] b all = tt
each_front P (y ∷ a) b all = (all.0, each_front P a b all.1)

pub each_later : (P : Work → Type 0) (a b : List Work) → Each P (a ++ b) → Each P b
each_later P [] b all = all
each_later P (y ∷ a) b all = each_later P a b all.1

pub each_join : (P : Work → Type 0) (a b : List Work) → Each P a → Each P b → Each P (a ++ b)
each_join P [] b first second = second
each_join P (y ∷ a) b first second = (first.0, each_join P a b first.1 second)

-- the order of a list

pub order_later : (a b : List Work) → AllInOrder (a ++ b) → AllInOrder b
order_later [] b all = all
order_later (y ∷ a) b all = order_later a b all.1

-- each of the first list comes before each of the second
pub order_across : (a b : List Work) → AllInOrder (a ++ b) → Each (λ z. Each (λ y. IsBefore y z) a) b
order_across [] b all = nothing b
  where
    nothing : (b : List Work) → Each (λ z. Each (λ y. IsBefore y z) []) b
    nothing [] = tt
    nothing (z ∷ b) = (tt, nothing b)
order_across (y ∷ a) b all =
    each_map (IsBefore y) (λ z. Each (λ u. IsBefore u z) a) (λ z. Each (λ u. IsBefore u z) (y ∷ a)) (λ z less more. (less, more)) b (each_later (IsBefore y) a b all.0) (order_across a b all.1)

-- and each of the second after each of the first
pub order_down : (a b : List Work) → AllInOrder (a ++ b) → Each (λ y. Each (IsBefore y) b) a
order_down [] b all = tt
order_down (y ∷ a) b all = (each_later (IsBefore y) a b all.0, order_down a b all.1)

pub differ_of : (x y : Work) → IsNamed x → IsNamed y → IsBefore x y → Differ x y
differ_of x y named other less = named_differ x y named other (before_differ x y less)

-- a work shares no name with those that come after it, nor has one below their targets
pub differ_later : (x : Work) (b : List Work) → IsNamed x → Each IsNamed b → Each (IsBefore x) b → Each (λ y. Differ x y × IsNotBelow x y) b
differ_later x b named others less = each_map IsNamed (IsBefore x) (λ y. Differ x y × IsNotBelow x y) (λ y other before. (differ_of x y named other before, before_above x y named other before)) b others less

pub differ_earlier : (a : List Work) (x : Work) → Each IsNamed a → IsNamed x → Each (λ y. IsBefore y x) a → Each (λ y. Differ y x) a
differ_earlier a x others named less = each_map IsNamed (λ y. IsBefore y x) (λ y. Differ y x) (λ y other before. differ_of y x other named before) a others less

pub differ_back : (x y : Work) → Differ x y → Differ y x
differ_back x y differ = record {
  target = record { target = λ e. differ.target.target (sym e); backup = λ e. differ.backup.target (sym e); fresh = λ e. differ.fresh.target (sym e) };
  backup = record { target = λ e. differ.target.backup (sym e); backup = λ e. differ.backup.backup (sym e); fresh = λ e. differ.fresh.backup (sym e) };
  fresh = record { target = λ e. differ.target.fresh (sym e); backup = λ e. differ.backup.fresh (sym e); fresh = λ e. differ.fresh.fresh (sym e) };
}

-- two worlds agree at the names of a work
pub record Agree (v w : World) (x : Work) : Type 0 where
  pub target : v x.target ≡ w x.target
  pub backup : v x.backup ≡ w x.backup
  pub fresh : v x.fresh ≡ w x.fresh

pub old_agree : (old was new : World) (x : Work) → Agree old was x → HasWritten old new x → HasWritten was new x
old_agree old was new x same has = record {
  target = has.target ∙ ap (λ o. shown (is_written x.node o) x.node o) same.target;
  backup = has.backup ∙ (λ i. saved (is_written x.node (same.target i)) (same.target i) (same.backup i));
  fresh = has.fresh ∙ ap cleared same.fresh;
}

pub new_agree : (old new later : World) (x : Work) → Agree later new x → HasWritten old new x → HasWritten old later x
new_agree old new later x same has = record { target = same.target ∙ has.target; backup = same.backup ∙ has.backup; fresh = same.fresh ∙ has.fresh }

pub free_agree : (v w : World) (x : Work) → Agree v w x → IsFreeIn w x → IsFreeIn v x
free_agree v w x same free = subst (λ t. IsFree x.node t (v x.backup) (v x.fresh)) (sym same.target)
    (subst (λ b. IsFree x.node (w x.target) b (v x.fresh)) (sym same.backup) (subst (λ f. IsFree x.node (w x.target) (w x.backup) f) (sym same.fresh) free))

-- a change that leaves what misses x leaves the names of y
pub agree_by : (v w : World) (x y : Work) → ((q : Path) → Misses x q → v q ≡ w q) → Differ x y → Agree v w y
agree_by v w x y same differ = record { target = same y.target differ.target; backup = same y.backup differ.backup; fresh = same y.fresh differ.fresh }

-- a change that leaves what the works of a list miss leaves the names of x
pub agree_all : (v w : World) (x : Work) (ys : List Work) → ((q : Path) → Each (λ y. Misses y q) ys → v q ≡ w q) → Each (λ y. Differ y x) ys → Agree v w x
agree_all v w x ys same differ = record {
  target = same x.target (each_of (λ y. Differ y x) (λ y. Misses y x.target) (λ y d. d.target) ys differ);
  backup = same x.backup (each_of (λ y. Differ y x) (λ y. Misses y x.backup) (λ y d. d.backup) ys differ);
  fresh = same x.fresh (each_of (λ y. Differ y x) (λ y. Misses y x.fresh) (λ y d. d.fresh) ys differ);
}
