-- Whose the entry of a path is.
use Rattle.std.proofs.Common.{◌≡◌, Bool, true, false, not, cond, List, [], ◌∷◌, Some, None, is_some, refl, sym, ap, subst, ◌∙◌}
use Rattle.std.proofs.lemmas.Bool.{false≢true, false_from_ne_true}
use Rattle.std.proofs.lemmas.Slice.Eq.{bytes_eq-Decides}
use Rattle.host_core.specs.Paths.{Path}
use Rattle.diversions.specs.Entries.{entry_of}
use Rattle.aliases.specs.Aliases.{resolved}
use Rattle.diversions.specs.Places.{target_of}
use Rattle.diversions.specs.Ways.{Ways, entry_at, or_else, truename}
use Rattle.diversions.specs.Refusals.{same_owner, is_owned, owner_conditions, first_holding}
use Rattle.diversions.specs.declared.entry.Owner.{Owner}
use Rattle.diversions.specs.declared.entry.Owner.TheVariants.{Local, Package}
use Rattle.diversions.specs.declared.entry.Diversion.{Diversion}
use Rattle.diversions.specs.declared.refusal.Refusal.TheVariants.{NotDiverted, OtherOwner}
use Rattle.diversions.proofs.Indexed.{some_entry}

pub same_owner_from : (o p : Owner) → o ≡ p → same_owner o p ≡ true
same_owner_from o p e = subst (λ q. same_owner o q ≡ true) e (itself o)
  where
    itself : (q : Owner) → same_owner q q ≡ true
    itself Local = refl
    itself (Package name) = (bytes_eq-Decides name name).1 refl

pub same_owner_to : (o p : Owner) → same_owner o p ≡ true → o ≡ p
same_owner_to Local Local is = refl
same_owner_to Local (Package other) is = absurd (false≢true is)
same_owner_to (Package name) Local is = absurd (false≢true is)
same_owner_to (Package name) (Package other) is = ap Package ((bytes_eq-Decides name other).0 is)

module _ (entries : List Diversion) (p q : Path) (owner : Owner) (same : p ≡ q) where
  pub owner_none : None ≡ entry_of entries p → first_holding (owner_conditions entries q owner) ≡ Some NotDiverted
  owner_none found =
      ap (λ b. cond (not b) (Some NotDiverted) (first_holding ((OtherOwner, not (is_owned (entry_of entries q) owner)) ∷ []))) (sym (some_entry entries q) ∙ ap is_some (sym (found ∙ ap (entry_of entries) same)))

  module _ (d : Diversion) (found : Some d ≡ entry_of entries p) where
    here : Some d ≡ entry_of entries q
    here = found ∙ ap (entry_of entries) same

    judged : (b : Bool) → same_owner d.owner owner ≡ b → first_holding (owner_conditions entries q owner) ≡ cond (not b) (Some OtherOwner) None
    judged b is =
        ap (λ t. cond (not t) (Some NotDiverted) (first_holding ((OtherOwner, not (is_owned (entry_of entries q) owner)) ∷ []))) (sym (some_entry entries q) ∙ ap is_some (sym here))
        ∙ ap (λ o. cond (not (is_owned o owner)) (Some OtherOwner) None) (sym here)
        ∙ ap (λ t. cond (not t) (Some OtherOwner) None) is

    pub owner_other : (d.owner ≡ owner → ⊥) → first_holding (owner_conditions entries q owner) ≡ Some OtherOwner
    owner_other differs = judged false (false_from_ne_true (same_owner d.owner owner) (λ t. differs (same_owner_to d.owner owner t)))

    pub owner_own : d.owner ≡ owner → first_holding (owner_conditions entries q owner) ≡ None
    owner_own is = judged true (same_owner_from d.owner owner is)

-- the entry of the listed name is the one that counts
pub own_target : (ways : Ways) (p q : Path) (d : Diversion) → p ≡ q → Some d ≡ entry_of ways.entries p → resolved ways.aliases d.target ≡ truename ways q
own_target ways p q d same found = ap (λ o. resolved ways.aliases (target_of (or_else o (entry_at ways.aliases ways.entries (resolved ways.aliases q))) q)) (found ∙ ap (entry_of ways.entries) same)
