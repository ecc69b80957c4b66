-- The table as it is kept, under the texts of its places.
use Rattle.std.proofs.Common.{◌≡◌, ℕ, Bool, true, false, ◌||◌, if◌then◌else◌, cond, List, [], ◌∷◌, ◌++◌, Some, is_some, refl, sym, ap, subst, ◌∙◌}
use Rattle.std.specs.Map.{lookup}
use Rattle.std.specs.Str.{bytes_eq}
use Rattle.std.proofs.lemmas.Bool.{or_parts, true≢false, false_from_ne_true}
use Rattle.std.proofs.lemmas.List.{map-append}
use Rattle.std.proofs.lemmas.List.Folds.{list_any-append}
use Rattle.std.proofs.lemmas.Slice.Eq.{bytes_eq-Decides}
use Rattle.indexmap.specs.IndexMap.{insert_entry}
use Rattle.host_core.specs.Paths.{Path, is_path}
use Rattle.aliases.specs.Aliases.{Alias, is_alias, led}
use Rattle.aliases.specs.Entries.{aliases_of}
use Rattle.aliases.specs.Reading.{or_itself}
use Rattle.aliases.specs.Table.{is_place, IsTable}

module _ {K : Type 0} (key : K → List ℕ) where
  pub some_under : (pairs : List (K × Path)) (p : Path) → is_some (lookup (λ k. bytes_eq p (key k)) pairs) ≡ is_alias (aliases_of key pairs) p
  some_under [] p = refl
  some_under (e ∷ pairs) p = at (bytes_eq p (key e.0)) (some_under pairs p)
    where
      at : (b : Bool) → is_some (lookup (λ k. bytes_eq p (key k)) pairs) ≡ is_alias (aliases_of key pairs) p → is_some (cond b (Some e.1) (lookup (λ k. bytes_eq p (key k)) pairs)) ≡ b || is_alias (aliases_of key pairs) p
      at true rest = refl
      at false rest = rest

  pub led_under : (pairs : List (K × Path)) (p : Path) → led (aliases_of key pairs) p ≡ or_itself (lookup (λ k. bytes_eq p (key k)) pairs) p
  led_under [] p = refl
  led_under (e ∷ pairs) p = at (bytes_eq p (key e.0)) (led_under pairs p)
    where
      at : (b : Bool) → led (aliases_of key pairs) p ≡ or_itself (lookup (λ k. bytes_eq p (key k)) pairs) p → cond b e.1 (led (aliases_of key pairs) p) ≡ or_itself (cond b (Some e.1) (lookup (λ k. bytes_eq p (key k)) pairs)) p
      at true rest = refl
      at false rest = rest

  inserted : (eq : K → K → Bool) (pairs : List (K × Path)) (k : K) (d : Path) → ((a b : K) → eq a b ≡ bytes_eq (key a) (key b)) → is_alias (aliases_of key pairs) (key k) ≡ false → insert_entry eq pairs k d ≡ pairs ++ (k, d) ∷ []
  inserted eq [] k d agree new = refl
  inserted eq (e ∷ pairs) k d agree new =
      let parts = or_parts (bytes_eq (key k) (key e.0)) (is_alias (aliases_of key pairs) (key k)) new in
      ap (λ b. if b then (e.0, d) ∷ pairs else e ∷ insert_entry eq pairs k d) (agree k e.0 ∙ parts.0) ∙ ap (λ l. e ∷ l) (inserted eq pairs k d agree parts.1)

  pub pushed : (eq : K → K → Bool) (pairs new : List (K × Path)) (k : K) (d : Path) → ((a b : K) → eq a b ≡ bytes_eq (key a) (key b)) → is_alias (aliases_of key pairs) (key k) ≡ false → new ≡ insert_entry eq pairs k d
      → aliases_of key new ≡ aliases_of key pairs ++ record { place = key k; target = d } ∷ []
  pushed eq pairs new k d agree none is = ap (aliases_of key) (is ∙ inserted eq pairs k d agree none) ∙ map-append (λ e. record { place = key e.0; target = e.1 }) pairs ((k, d) ∷ [])

-- an alias more

pub turned : (p q : Path) → bytes_eq p q ≡ false → bytes_eq q p ≡ false
turned p q other = false_from_ne_true (bytes_eq q p) (λ same. true≢false (sym ((bytes_eq-Decides p q).1 (sym ((bytes_eq-Decides q p).0 same))) ∙ other))

pub alias_more : (aliases : List Alias) (a : Alias) (p : Path) → is_alias (aliases ++ a ∷ []) p ≡ is_alias aliases p || (bytes_eq p a.place || false)
alias_more aliases a p = list_any-append (λ (b : Alias). bytes_eq p b.place) aliases (a ∷ [])

pub table_more : (aliases : List Alias) (a : Alias) → IsTable aliases → is_place a.place ≡ true → is_path a.target ≡ true → is_alias aliases a.place ≡ false → IsTable (aliases ++ a ∷ [])
table_more [] a table place target new = (place, target, refl, tt)
table_more (b ∷ aliases) a table place target new =
    let parts = or_parts (bytes_eq a.place b.place) (is_alias aliases a.place) new in (
      table.0,
      table.1,
      alias_more aliases a b.place ∙ ap (λ t. t || (bytes_eq b.place a.place || false)) table.2 ∙ ap (λ t. t || false) (turned a.place b.place parts.0),
      table_more aliases a table.3 place target parts.1,
    )

pub pushed_at : {K : Type 0} (key : K → List ℕ) (eq : K → K → Bool) (pairs new : List (K × Path)) (k : K) (target place : Path) (aliases : List Alias) → ((a b : K) → eq a b ≡ bytes_eq (key a) (key b)) → aliases_of key pairs ≡ aliases → IsTable (aliases_of key pairs)
    → key k ≡ place → is_place place ≡ true → is_path target ≡ true → is_alias aliases place ≡ false → new ≡ insert_entry eq pairs k target → IsTable (aliases_of key new) × (aliases_of key new ≡ aliases ++ record { place = place; target = target } ∷ [])
pushed_at key eq pairs new k target place aliases agree view table named is path none inserts =
    let absent : is_alias (aliases_of key pairs) (key k) ≡ false = ap (λ (l : List Alias). is_alias l (key k)) view ∙ ap (is_alias aliases) named ∙ none in
    let all = pushed key eq pairs new k target agree absent inserts in (
      subst IsTable (sym all) (table_more (aliases_of key pairs) (record { place = key k; target = target }) table (ap is_place named ∙ is) path absent),
      all ∙ ap (λ (l : List Alias). l ++ record { place = key k; target = target } ∷ []) view ∙ ap (λ (p : Path). aliases ++ record { place = p; target = target } ∷ []) named,
    )
