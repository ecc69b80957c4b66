-- What a text is on both sides of a slash.
use Rattle.std.proofs.Common.{◌≡◌, ℕ, [], ◌∷◌, ◌++◌, ◌∙◌, sym}
use Rattle.std.proofs.lemmas.List.{append_cancel_left}
use Rattle.host_core.specs.Paths.{Path}

pub same_name : (path a b : Path) → path ++ 47 ∷ a ≡ path ++ 47 ∷ b → a ≡ b
same_name path a b e = let t : 47 ∷ a ≡ 47 ∷ b = append_cancel_left path (47 ∷ a) (47 ∷ b) e in cc t

-- what is left of a text
pub lacks_prefix : (path key rest name : Path) (n : ℕ) → key ≡ path ++ rest → ((more : Path) → rest ≡ 47 ∷ more → ⊥) → key ≡ path ++ 47 ∷ name → ⊥
lacks_prefix [] key rest name n is absent e = absent name (sym is ∙ e)
lacks_prefix (x ∷ path) [] rest name n is absent e = absurd (let h : [] ≡ x ∷ (path ++ rest) = is in cc)
lacks_prefix (x ∷ path) (k ∷ key) rest name n is absent e =
    let p : key ≡ path ++ rest = cc is in
    let q : key ≡ path ++ 47 ∷ name = cc e in
    lacks_prefix path key rest name n p absent q
