-- What is decided of some conffiles, one after another.
use Rattle.std.proofs.Common.{List, [], ◌∷◌, ◌++◌}
use Rattle.std.specs.List.{AllZip}

-- one more of both lists
pub zip_more : {A B : Type 0} (R : A → B → Type 0) (xs : List A) (ys : List B) (x : A) (y : B) → AllZip R xs ys → R x y → AllZip R (xs ++ x ∷ []) (ys ++ y ∷ [])
zip_more R [] [] x y each last = (last, tt)
zip_more R [] (b ∷ ys) x y each last = absurd each
zip_more R (a ∷ xs) [] x y each last = absurd each
zip_more R (a ∷ xs) (b ∷ ys) x y each last = (each.0, zip_more R xs ys x y each.1 last)
