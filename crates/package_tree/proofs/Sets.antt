-- Sets of texts as sets of paths.
use Rattle.std.proofs.Common.{◌≡◌, ◌<◌, true, false, List, [], ◌∷◌, String, length, refl, sym, ap, subst, ◌∙◌, arith}
use Rattle.std.specs.Prelude.{All}
use Rattle.std.specs.List.{list_any}
use Rattle.std.specs.String.{string_cmp, string_bytes}
use Rattle.std.specs.BTreeSet.{BTreeSet, btree_set_len, contains_text}
use Rattle.std.specs.BTreeMap.{is_at}
use Rattle.std.specs.BTreeMap.Range.{IsLtBy}
use Rattle.std.specs.declared.alloc.Global.{Global}
use Rattle.std.specs.Cmp.Lexicographic.{slice_cmp}
use Rattle.std.specs.Ordering.{nat_cmp}
use Rattle.std.proofs.lemmas.Map.Text.{is_eq-slice_cmp}
use Rattle.std.proofs.lemmas.Slice.Eq.{bytes_eq-Decides}
use Rattle.std.proofs.lemmas.List.Folds.{Any-from_list_any}
use Rattle.host_core.specs.Paths.{Path}
use Rattle.package_tree.specs.Shipped.{IsBefore}

-- what is left of a set of texts is above the one that was the least
pub above_text : (k : String Global) (s : BTreeSet (String Global)) → All (IsLtBy string_cmp k) s.keys → (b : Path) → contains_text s b ≡ true → IsBefore (string_bytes k) b
above_text k s all b e =
    let any = Any-from_list_any (is_at (λ (x : String Global). slice_cmp nat_cmp b (string_bytes x))) s.keys e in
    let is : b ≡ string_bytes any.1 = (bytes_eq-Decides b (string_bytes any.1)).0 (sym (is_eq-slice_cmp b (string_bytes any.1)) ∙ any.4) in
    subst (IsBefore (string_bytes k)) (sym is) (subst (IsLtBy string_cmp k) any.3 (all any.0 any.1 any.2))

pub no_keys : (s : BTreeSet (String Global)) → s.keys ≡ [] → (q : Path) → contains_text s q ≡ false
no_keys s e q = ap (list_any (is_at (λ (k : String Global). slice_cmp nat_cmp q (string_bytes k)))) e

nothing_of : {X : Type 0} (l : List X) → (0 < length l → ⊥) → l ≡ []
nothing_of [] none = refl
nothing_of (x ∷ l) none = absurd (none (omega arith))

-- a set of which nothing can be taken has no text
pub nothing_left : (s : BTreeSet (String Global)) → (0 < btree_set_len s → ⊥) → (q : Path) → contains_text s q ≡ false
nothing_left s none q = no_keys s (nothing_of s.keys none) q
