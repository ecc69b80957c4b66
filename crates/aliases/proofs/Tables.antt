-- Tables that are gone over.
use Rattle.std.proofs.Common.{◌≡◌, ◌≢◌, ◌||◌, ℕ, Bool, true, false, List, [], ◌∷◌, ◌++◌, nat_eq, refl, sym, ap, subst, ◌∙◌, append_assoc}
use Rattle.std.specs.List.{list_any}
use Rattle.std.specs.Str.{bytes_eq}
use Rattle.std.proofs.lemmas.Bool.{or_from, or_parts, true≢false, false_from_ne_true}
use Rattle.std.proofs.lemmas.List.{append-nil}
use Rattle.std.proofs.lemmas.Slice.Eq.{bytes_eq-Decides}
use Rattle.host_core.specs.Paths.{Path, is_path}
use Rattle.aliases.specs.Aliases.{Alias, is_alias, is_target, IsOn, IsFree}
use Rattle.aliases.specs.Entries.{aliases_of, texts_of}
use Rattle.aliases.specs.Table.{is_place, IsTable}
use Rattle.aliases.proofs.Kept.{turned}

-- on which paths no alias stands

pub free_cons : (a : Alias) (aliases : List Alias) (path : Path) → (IsOn a.place path → ⊥) → IsFree aliases path → IsFree (a ∷ aliases) path
free_cons a aliases path away free q on =
    or_from (bytes_eq q a.place) (is_alias aliases q) (false_from_ne_true (bytes_eq q a.place) (λ is. away (subst (λ (p : Path). IsOn p path) ((bytes_eq-Decides q a.place).0 is) on))) (free q on)

pub free_rest : (a : Alias) (aliases : List Alias) (path : Path) → IsFree (a ∷ aliases) path → IsFree aliases path
free_rest a aliases path free q on = (or_parts (bytes_eq q a.place) (is_alias aliases q) (free q on)).1

pub free_first : (a : Alias) (aliases : List Alias) (path : Path) → IsFree (a ∷ aliases) path → IsOn a.place path → ⊥
free_first a aliases path free on = true≢false (sym ((bytes_eq-Decides a.place a.place).1 refl) ∙ (or_parts (bytes_eq a.place a.place) (is_alias aliases a.place) (free a.place on)).0)

-- both are free, or neither
pub record AreFreeAlike (some all : List Alias) (path : Path) : Type 0 where
  pub to : IsFree some path → IsFree all path
  pub from : IsFree all path → IsFree some path

pub alike_same : (some all : List Alias) (path : Path) → some ≡ all → AreFreeAlike some all path
alike_same some all path is = subst (λ (l : List Alias). AreFreeAlike some l path) is (record { to = λ free. free; from = λ free. free })

-- a copy of a table, so far

absent : (front rest : List Alias) (a : Alias) (p : Path) → is_alias (front ++ a ∷ rest) p ≡ false → bytes_eq p a.place ≡ false
absent [] rest a p none = (or_parts (bytes_eq p a.place) (is_alias rest p) none).0
absent (d ∷ front) rest a p none = absent front rest a p (or_parts (bytes_eq p d.place) (is_alias (front ++ a ∷ rest) p) none).1

pub table_here : (made rest : List Alias) (a : Alias) → IsTable (made ++ a ∷ rest) → (is_place a.place ≡ true) × (is_path a.target ≡ true) × (is_alias made a.place ≡ false)
table_here [] rest a table = (table.0, table.1, refl)
table_here (b ∷ made) rest a table =
    let later = table_here made rest a table.3 in
    (later.0, later.1, or_from (bytes_eq a.place b.place) (is_alias made a.place) (turned b.place a.place (absent made rest a b.place table.2)) later.2)

module _ {K : Type 0} (key : K → List ℕ) where
  abbrev alias_of : K × Path → Alias
  alias_of e = record { place = key e.0; target = e.1 }

  pub alike_next : (pairs rest : List (K × Path)) (e : K × Path) (all : List Alias) (path : Path) → pairs ≡ e ∷ rest → (IsOn (key e.0) path → ⊥) → AreFreeAlike (aliases_of key pairs) all path → AreFreeAlike (aliases_of key rest) all path
  alike_next pairs rest e all path is away alike =
      let here : AreFreeAlike (alias_of e ∷ aliases_of key rest) all path = subst (λ (l : List (K × Path)). AreFreeAlike (aliases_of key l) all path) is alike in
      record { to = λ free. here.to (free_cons (alias_of e) (aliases_of key rest) path away free); from = λ free. free_rest (alias_of e) (aliases_of key rest) path (here.from free) }

  pub not_free : (pairs rest : List (K × Path)) (e : K × Path) (all : List Alias) (path : Path) → pairs ≡ e ∷ rest → IsOn (key e.0) path → AreFreeAlike (aliases_of key pairs) all path → IsFree all path → ⊥
  not_free pairs rest e all path is on alike free =
      free_first (alias_of e) (aliases_of key rest) path (subst (λ (l : List (K × Path)). IsFree (aliases_of key l) path) is (alike.from free)) on

  pub free_at_end : (pairs : List (K × Path)) (all : List Alias) (path : Path) → pairs ≡ [] → AreFreeAlike (aliases_of key pairs) all path → IsFree all path
  free_at_end pairs all path is alike = alike.to (subst (λ (l : List (K × Path)). IsFree (aliases_of key l) path) (sym is) (λ q on. refl))

  pub copied_here : (made all : List Alias) (pairs rest : List (K × Path)) (e : K × Path) → pairs ≡ e ∷ rest → made ++ aliases_of key pairs ≡ all → IsTable all → (is_place (key e.0) ≡ true) × (is_path e.1 ≡ true) × (is_alias made (key e.0) ≡ false)
  copied_here made all pairs rest e is so_far table =
      table_here made (aliases_of key rest) (alias_of e) (subst IsTable (sym so_far ∙ ap (λ (l : List (K × Path)). made ++ aliases_of key l) is) table)

  pub copied_next : (made next all : List Alias) (pairs rest : List (K × Path)) (e : K × Path) → pairs ≡ e ∷ rest → made ++ aliases_of key pairs ≡ all → next ≡ made ++ alias_of e ∷ [] → next ++ aliases_of key rest ≡ all
  copied_next made next all pairs rest e is so_far more =
      ap (λ (l : List Alias). l ++ aliases_of key rest) more ∙ append_assoc made (alias_of e ∷ []) (aliases_of key rest) ∙ ap (λ (l : List (K × Path)). made ++ aliases_of key l) (sym is) ∙ so_far

  pub copied_end : (made all : List Alias) (pairs : List (K × Path)) → pairs ≡ [] → made ++ aliases_of key pairs ≡ all → made ≡ all
  copied_end made all pairs is so_far = sym (append-nil made) ∙ ap (λ (l : List (K × Path)). made ++ aliases_of key l) (sym is) ∙ so_far

  -- two tables, side by side

  pub same_next : (ones rest others left : List (K × Path)) (e d : K × Path) → ones ≡ e ∷ rest → others ≡ d ∷ left → key e.0 ≡ key d.0 → e.1 ≡ d.1 → (aliases_of key rest ≡ aliases_of key left → aliases_of key ones ≡ aliases_of key others) × (aliases_of key ones ≡ aliases_of key others → aliases_of key rest ≡ aliases_of key left)
  same_next ones rest others left e d one other place target = (
    λ is. ap (aliases_of key) one ∙ ap (λ (p : Path). record { place = p; target = e.1 } ∷ aliases_of key rest) place ∙ ap (λ (p : Path). record { place = key d.0; target = p } ∷ aliases_of key rest) target ∙ ap (λ (l : List Alias). alias_of d ∷ l) is ∙ ap (aliases_of key) (sym other),
    λ is. let both : alias_of e ∷ aliases_of key rest ≡ alias_of d ∷ aliases_of key left = ap (aliases_of key) (sym one) ∙ is ∙ ap (aliases_of key) other in cc,
  )

  pub firsts_same : (ones rest others left : List (K × Path)) (e d : K × Path) → ones ≡ e ∷ rest → others ≡ d ∷ left → aliases_of key ones ≡ aliases_of key others → (key e.0 ≡ key d.0) × (e.1 ≡ d.1)
  firsts_same ones rest others left e d one other is =
      let both : alias_of e ∷ aliases_of key rest ≡ alias_of d ∷ aliases_of key left = ap (aliases_of key) (sym one) ∙ is ∙ ap (aliases_of key) other in
      let first : alias_of e ≡ alias_of d = cc in
      (ap (λ (a : Alias). a.place) first, ap (λ (a : Alias). a.target) first)

  pub some_left : (ones rest others : List (K × Path)) (e : K × Path) → ones ≡ e ∷ rest → others ≡ [] → aliases_of key ones ≡ aliases_of key others → ⊥
  some_left ones rest others e one none is = let both : alias_of e ∷ aliases_of key rest ≡ [] = ap (aliases_of key) (sym one) ∙ is ∙ ap (aliases_of key) none in cc

-- the texts of a set

pub some_text : {K : Type 0} (text : K → List ℕ) (keys : List K) (p : Path) → list_any (λ k. bytes_eq p (text k)) keys ≡ list_any (bytes_eq p) (texts_of text keys)
some_text text [] p = refl
some_text text (k ∷ keys) p = ap (λ b. bytes_eq p (text k) || b) (some_text text keys p)
