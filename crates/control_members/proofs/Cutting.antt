-- What is left of an entry's name behind its package's.
use Rattle.std.proofs.Common.{◌≡◌, ℕ, [], ◌∷◌, ◌++◌, sym, ◌∙◌}
use Rattle.host_core.specs.Paths.{Path}

pub lacks_prefix : (owner key rest name : Path) (n : ℕ) → key ≡ owner ++ rest → ((more : Path) → rest ≡ 46 ∷ more → ⊥) → key ≡ owner ++ 46 ∷ name → ⊥
lacks_prefix [] key rest name n is absent e = absent name (sym is ∙ e)
lacks_prefix (x ∷ owner) [] rest name n is absent e = absurd (let h : [] ≡ x ∷ (owner ++ rest) = is in cc)
lacks_prefix (x ∷ owner) (k ∷ key) rest name n is absent e =
    let p : key ≡ owner ++ rest = cc is in
    let q : key ≡ owner ++ 46 ∷ name = cc e in
    lacks_prefix owner key rest name n p absent q
