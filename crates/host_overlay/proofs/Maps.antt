-- Maps by text, as what paths were changed to.
use Rattle.std.proofs.Common.{◌≡◌, Bool, true, false, Some, None, String, [], refl, sym, subst}
use Rattle.std.specs.Prelude.{IsSome, Result, Ok, Err, OnOk, OnErr, cond}
use Rattle.std.specs.BTreeMap.{BTreeMap, UpdatesBy, get_by_text, is_at}
use Rattle.std.specs.Map.{lookup}
use Rattle.std.specs.String.{string_cmp, string_bytes}
use Rattle.std.specs.Cmp.Lexicographic.{slice_cmp}
use Rattle.std.specs.Ordering.{nat_cmp}
use Rattle.std.specs.Str.{bytes_eq}
use Rattle.std.specs.declared.alloc.Global.{Global}
use Rattle.std.proofs.lemmas.Map.Text.{btree_map_updates_text}
use Rattle.std.proofs.lemmas.Slice.Eq.{bytes_eq-Decides}
use Rattle.host_core.specs.Paths.{Path, is_path}
use Rattle.host_overlay.specs.Standings.{Changed, changed, ArePaths}
use Rattle.host_overlay.specs.declared.standing.Standing.{Standing}

abbrev pub Map : Type 0
Map = BTreeMap (String Global) Standing

pub updated : (bs : Path) (m n : Map) (s : Standing) → UpdatesBy string_cmp (λ k. slice_cmp nat_cmp bs (string_bytes k)) m n (Some s) → get_by_text n ≡ changed (get_by_text m) bs s
updated bs m n s h = λ i q. btree_map_updates_text bs m n (Some s) h q i

pub inserted : (key : String Global) (path : Path) (m n : Map) (s : Standing) → string_bytes key ≡ path → UpdatesBy string_cmp (string_cmp key) m n (Some s) → get_by_text n ≡ changed (get_by_text m) path s
inserted key path m n s is h = subst (λ p. get_by_text n ≡ changed (get_by_text m) p s) is (updated (string_bytes key) m n s h)

pub same_entries : (m n : Map) → n.entries ≡ m.entries → get_by_text n ≡ get_by_text m
same_entries m n is = λ i q. lookup (is_at (λ (k : String Global). slice_cmp nat_cmp q (string_bytes k))) (is i)

pub none_in : (m : Map) → m.entries ≡ [] → get_by_text m ≡ λ _. None
none_in m is = λ i q. lookup (is_at (λ (k : String Global). slice_cmp nat_cmp q (string_bytes k))) (is i)

-- paths alone are changed

pub paths_changed : (m : Changed) (p : Path) (s : Standing) → ArePaths m → is_path p ≡ true → ArePaths (changed m p s)
paths_changed m p s all here q some = at (bytes_eq p q) refl some
  where
    at : (b : Bool) → bytes_eq p q ≡ b → IsSome (cond b (Some s) (m q)) → is_path q ≡ true
    at true same there = subst (λ x. is_path x ≡ true) ((bytes_eq-Decides p q).0 same) here
    at false other there = all q there

pub paths_same : (m n : Changed) → n ≡ m → ArePaths m → ArePaths n
paths_same m n is all = subst (λ (x : Changed). ArePaths x) (sym is) all

pub paths_none : ArePaths (λ _. None)
paths_none q some = absurd (cc)

pub paths_inserted : {A B : Type 0} (r : Result A B) (key : String Global) (path : Path) (m n : Map) (s : Standing) → string_bytes key ≡ path
    → OnOk r (UpdatesBy string_cmp (string_cmp key) m n (Some s)) → OnErr r (n.entries ≡ m.entries) → ArePaths (get_by_text m) → is_path path ≡ true → ArePaths (get_by_text n)
paths_inserted (Ok x) key path m n s is updates same all here =
    paths_same (changed (get_by_text m) path s) (get_by_text n) (inserted key path m n s is updates) (paths_changed (get_by_text m) path s all here)
paths_inserted (Err e) key path m n s is updates same all here = paths_same (get_by_text m) (get_by_text n) (same_entries m n same) all
