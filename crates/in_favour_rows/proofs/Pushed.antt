-- One more package with its row.
use Rattle.std.proofs.Common.{◌≡◌, ◌<◌, ◌+◌, ℕ, List, [], ◌∷◌, ◌++◌, get_or, length, map, take, refl, sym, ap, subst, ◌∙◌}
use Rattle.std.proofs.lemmas.List.{map-append, take_more}
use Rattle.undo_rows.specs.declared.rows.Owner.TheVariants.{Package as OfPackage}
use Rattle.unpack_rows.specs.ForwardRows.{AreOwn}
use Rattle.unpack_rows.specs.declared.rows.OtherPackage.{OtherPackage}
use Rattle.in_favour_rows.specs.Rows.{AreRowsOf, package_with}
use Rattle.in_favour_rows.specs.declared.entries.Entry.{Entry}
use Rattle.in_favour_rows.specs.declared.stored.Stored.{Stored}

-- its row is its own
pub own_more : (os : List OtherPackage) (o : OtherPackage) → AreOwn os → o.row.owner ≡ OfPackage o.«record».name → AreOwn (os ++ o ∷ [])
own_more [] o each own = (own, tt)
own_more (x ∷ os) o each own = (each.0, own_more os o each.1 own)

-- what is made of each item, so far
pub mapped_more : {X Y : Type 0} (f : X → Y) (xs : List X) (i : ℕ) (x : X) (made : List Y) (y : Y) → i < length xs → x ≡ get_or xs i x → y ≡ f x → made ≡ map f (take i xs) → made ++ y ∷ [] ≡ map f (take (i + 1) xs)
mapped_more f xs i x made y lt at is so_far =
    ap (λ l. l ++ y ∷ []) so_far ∙ ap (λ z. map f (take i xs) ++ z ∷ []) (is ∙ ap f at)
    ∙ sym (ap (map f) (take_more xs i x lt) ∙ map-append f (take i xs) (get_or xs i x ∷ []))

-- one more has the row of its role
module _ (name version : List ℕ) where
  shaped_behind : (es : List Entry) (os : List OtherPackage) (e : Entry) (o : OtherPackage) → AreRowsOf name version es os → ((stored : Stored) × (o ≡ package_with name version stored e))
      → AreRowsOf name version (es ++ e ∷ []) (os ++ o ∷ [])
  shaped_behind [] [] e o each is = (is, tt)
  shaped_behind [] (p ∷ os) e o each is = absurd each
  shaped_behind (f ∷ es) [] e o each is = absurd each
  shaped_behind (f ∷ es) (p ∷ os) e o each is = (each.0, shaped_behind es os e o each.1 is)

  pub shaped_more : (es : List Entry) (i : ℕ) (e : Entry) (made : List OtherPackage) (o : OtherPackage) → i < length es → e ≡ get_or es i e → ((stored : Stored) × (o ≡ package_with name version stored e))
      → AreRowsOf name version (take i es) made → AreRowsOf name version (take (i + 1) es) (made ++ o ∷ [])
  shaped_more es i e made o lt at is so_far =
      subst (λ (l : List Entry). AreRowsOf name version l (made ++ o ∷ [])) (ap (λ (z : Entry). take i es ++ z ∷ []) at ∙ sym (take_more es i e lt)) (shaped_behind (take i es) made e o so_far is)
