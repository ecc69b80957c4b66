-- The table under its paths and targets.
use Rattle.std.proofs.Common.{◌≡◌, ℕ, Bool, true, false, not, ◌||◌, if◌then◌else◌, cond, List, [], ◌∷◌, ◌++◌, Option, Some, None, is_some, refl, sym, ap, subst, ◌∙◌}
use denote.Ref.{Bor}
use Rattle.std.specs.Prelude.{option_copied}
use Rattle.std.specs.List.{AllByRecursion}
use Rattle.std.specs.Map.{lookup, remove_entry}
use Rattle.std.specs.Str.{bytes_eq}
use Rattle.std.proofs.lemmas.Bool.{or_parts}
use Rattle.std.proofs.lemmas.List.{map-append}
use Rattle.std.proofs.lemmas.List.Folds.{list_any-append}
use Rattle.std.proofs.lemmas.Slice.Eq.{bytes_eq-Decides}
use Rattle.indexmap.specs.IndexMap.{insert_entry}
use Rattle.host_core.specs.Paths.{Path}
use Rattle.diversions.specs.declared.entry.Diversion.{Diversion}
use Rattle.diversions.specs.Entries.{is_diverted, is_target, entry_of, without, IsFree, IsTable}
use Rattle.diversions.specs.Index.{entries_of, IsIndex}
use Rattle.diversions.specs.Targets.{entry_named}
use Rattle.diversions.proofs.Tables.{turned, table_last, table_without, without_none}

abbrev AreKeyed : {K : Type 0} → (K → List ℕ) → List (K × Diversion) → Type 0
AreKeyed key pairs = AllByRecursion (λ e. key e.0 ≡ e.1.path) pairs

pub look_up : {K : Type 0} (key : K → List ℕ) (pairs : List (K × Diversion)) (p : Path) → AllByRecursion (λ e. key e.0 ≡ e.1.path) pairs → lookup (λ k. bytes_eq p (key k)) pairs ≡ entry_of (entries_of pairs) p
look_up key [] p keyed = refl
look_up key (e ∷ pairs) p keyed =
    ap (λ (k : List ℕ). cond (bytes_eq p k) (Some e.1) (lookup (λ k. bytes_eq p (key k)) pairs)) keyed.0
    ∙ ap (λ (r : Option Diversion). cond (bytes_eq p e.1.path) (Some e.1) r) (look_up key pairs p keyed.1)

pub some_entry : (entries : List Diversion) (p : Path) → is_some (entry_of entries p) ≡ is_diverted entries p
some_entry [] p = refl
some_entry (d ∷ entries) p = at (bytes_eq p d.path) (some_entry entries p)
  where
    at : (b : Bool) → is_some (entry_of entries p) ≡ is_diverted entries p → is_some (cond b (Some d) (entry_of entries p)) ≡ b || is_diverted entries p
    at true rest = refl
    at false rest = rest

-- an entry that isn't the one looked for is passed over
pub none_to : (entries : List Diversion) (p : Path) → is_target entries p ≡ false → entry_named entries p ≡ None
none_to [] p none = refl
none_to (d ∷ entries) p none =
    let parts = or_parts (bytes_eq p d.target) (is_target entries p) none in
    ap (λ b. cond b (Some d) (entry_named entries p)) parts.0 ∙ none_to entries p parts.1

pub copied_some : (r : Option (Bor Diversion)) → is_some r ≡ is_some (option_copied r)
copied_some None = refl
copied_some (Some d) = refl

-- an entry more

inserted : {K : Type 0} (eq : K → K → Bool) (key : K → List ℕ) (pairs : List (K × Diversion)) (k : K) (d : Diversion) → ((a b : K) → eq a b ≡ bytes_eq (key a) (key b)) → AreKeyed key pairs
    → key k ≡ d.path → is_diverted (entries_of pairs) d.path ≡ false → insert_entry eq pairs k d ≡ pairs ++ (k, d) ∷ []
inserted eq key [] k d agree keyed is new = refl
inserted eq key (e ∷ pairs) k d agree keyed is new =
    let parts = or_parts (bytes_eq d.path e.1.path) (is_diverted (entries_of pairs) d.path) new in
    let other : eq k e.0 ≡ false = agree k e.0 ∙ ap (λ (a : List ℕ). bytes_eq a (key e.0)) is ∙ ap (bytes_eq d.path) keyed.0 ∙ parts.0 in
    ap (λ b. if b then (e.0, d) ∷ pairs else e ∷ insert_entry eq pairs k d) other ∙ ap (λ l. e ∷ l) (inserted eq key pairs k d agree keyed.1 is parts.1)

keyed_more : {K : Type 0} (key : K → List ℕ) (pairs : List (K × Diversion)) (k : K) (d : Diversion) → AreKeyed key pairs → key k ≡ d.path → AreKeyed key (pairs ++ (k, d) ∷ [])
keyed_more key [] k d keyed is = (is, tt)
keyed_more key (e ∷ pairs) k d keyed is = (keyed.0, keyed_more key pairs k d keyed.1 is)

target_more : (entries : List Diversion) (d : Diversion) (q : Path) → cond (bytes_eq d.target q) true (is_target entries q) ≡ is_target (entries ++ d ∷ []) q
target_more entries d q =
    ap (λ b. cond b true (is_target entries q)) (turned d.target q) ∙ at (bytes_eq q d.target) (is_target entries q)
    ∙ sym (list_any-append (λ (e : Diversion). bytes_eq q e.target) entries (d ∷ []))
  where
    at : (b t : Bool) → cond b true t ≡ t || (b || false)
    at true true = refl
    at true false = refl
    at false true = refl
    at false false = refl

pub pushed : {K : Type 0} (eq : K → K → Bool) (key : K → List ℕ) (pairs new : List (K × Diversion)) (k : K) (d : Diversion) (targets more : Path → Bool) → ((a b : K) → eq a b ≡ bytes_eq (key a) (key b)) → IsIndex key pairs targets
    → key k ≡ d.path → IsTable (entries_of pairs ++ d ∷ []) → new ≡ insert_entry eq pairs k d → ((q : Path) → more q ≡ cond (bytes_eq d.target q) true (targets q)) → IsIndex key new more × (entries_of new ≡ entries_of pairs ++ d ∷ [])
pushed eq key pairs new k d targets more agree index is table e grown =
    let all : pairs ++ (k, d) ∷ [] ≡ new = sym (e ∙ inserted eq key pairs k d agree index.keyed is (table_last (entries_of pairs) d table).path.not_diverted) in
    let last : entries_of (pairs ++ (k, d) ∷ []) ≡ entries_of pairs ++ d ∷ [] = map-append (λ p. p.1) pairs ((k, d) ∷ []) in
    subst (λ l. IsIndex key l more × (entries_of l ≡ entries_of pairs ++ d ∷ [])) all (
      record {
        keyed = keyed_more key pairs k d index.keyed is;
        table = subst IsTable (sym last) table;
        aimed = λ q. grown q ∙ ap (cond (bytes_eq d.target q) true) (index.aimed q) ∙ target_more (entries_of pairs) d q ∙ ap (λ (l : List Diversion). is_target l q) (sym last);
      },
      last,
    )

-- an entry less

pub removed : {K : Type 0} (key : K → List ℕ) (pairs : List (K × Diversion)) (p : Path) → AreKeyed key pairs → IsTable (entries_of pairs) → entries_of (remove_entry (λ k. bytes_eq p (key k)) pairs) ≡ without p (entries_of pairs)
removed key [] p keyed table = refl
removed key (e ∷ pairs) p keyed table =
    ap (λ (k : List ℕ). entries_of (cond (bytes_eq p k) pairs (e ∷ remove_entry (λ k. bytes_eq p (key k)) pairs))) keyed.0 ∙ at (bytes_eq p e.1.path) refl (removed key pairs p keyed.1 table.3)
  where
    at : (b : Bool) → bytes_eq p e.1.path ≡ b → entries_of (remove_entry (λ k. bytes_eq p (key k)) pairs) ≡ without p (entries_of pairs) → entries_of (cond b pairs (e ∷ remove_entry (λ k. bytes_eq p (key k)) pairs)) ≡ cond (not b) (e.1 ∷ without p (entries_of pairs)) (without p (entries_of pairs))
    at true is rest = sym (without_none p (entries_of pairs) (ap (is_diverted (entries_of pairs)) ((bytes_eq-Decides p e.1.path).0 is) ∙ table.1.not_diverted))
    at false is rest = ap (λ (l : List Diversion). e.1 ∷ l) rest

keyed_less : {K : Type 0} (key : K → List ℕ) (pairs : List (K × Diversion)) (test : K → Bool) → AreKeyed key pairs → AreKeyed key (remove_entry test pairs)
keyed_less key [] test keyed = tt
keyed_less key (e ∷ pairs) test keyed = at (test e.0) (keyed_less key pairs test keyed.1)
  where
    at : (b : Bool) → AreKeyed key (remove_entry test pairs) → AreKeyed key (cond b pairs (e ∷ remove_entry test pairs))
    at true rest = keyed.1
    at false rest = (keyed.0, rest)

-- the target of an entry among these isn't one that is free of them
other_target : (entries : List Diversion) (p t : Path) (d : Diversion) → IsFree entries t → entry_of entries p ≡ Some d → bytes_eq t d.target ≡ false
other_target [] p t d free is = absurd (let e : None ≡ Some d = is in cc)
other_target (e ∷ entries) p t d free is = at (bytes_eq p e.path) (λ found. other_target entries p t d record {
  not_diverted = (or_parts (bytes_eq t e.path) (is_diverted entries t) free.not_diverted).1;
  no_target = (or_parts (bytes_eq t e.target) (is_target entries t) free.no_target).1;
} found) is
  where
    at : (b : Bool) → (entry_of entries p ≡ Some d → bytes_eq t d.target ≡ false) → cond b (Some e) (entry_of entries p) ≡ Some d → bytes_eq t d.target ≡ false
    at true later found = let same : e ≡ d = cc found in ap (λ (x : Diversion). bytes_eq t x.target) (sym same) ∙ (or_parts (bytes_eq t e.target) (is_target entries t) free.no_target).0
    at false later found = later found

target_less : (entries : List Diversion) (p : Path) (d : Diversion) (q : Path) → IsTable entries → entry_of entries p ≡ Some d → cond (bytes_eq d.target q) false (is_target entries q) ≡ is_target (without p entries) q
target_less [] p d q table is = absurd (let e : None ≡ Some d = is in cc)
target_less (e ∷ entries) p d q table is = at (bytes_eq p e.path) refl (λ found. target_less entries p d q table.3 found) is
  where
    this : (b : Bool) → bytes_eq e.target q ≡ b → cond b false (bytes_eq q e.target || is_target entries q) ≡ is_target entries q
    this true same = sym (ap (is_target entries) (sym ((bytes_eq-Decides e.target q).0 same)) ∙ table.2.no_target)
    this false other = ap (λ b. b || is_target entries q) (turned q e.target ∙ other)

    later : (b t rest : Bool) → (b ≡ true → t ≡ false) → cond b false (t || rest) ≡ t || cond b false rest
    later true true rest differs = sym (differs refl)
    later true false rest differs = refl
    later false t rest differs = refl

    at : (b : Bool) → bytes_eq p e.path ≡ b → (entry_of entries p ≡ Some d → cond (bytes_eq d.target q) false (is_target entries q) ≡ is_target (without p entries) q) → cond b (Some e) (entry_of entries p) ≡ Some d → cond (bytes_eq d.target q) false (bytes_eq q e.target || is_target entries q) ≡ is_target (cond (not b) (e ∷ without p entries) (without p entries)) q
    at true here rest found =
        let same : e ≡ d = cc found in
        ap (λ (x : Diversion). cond (bytes_eq x.target q) false (bytes_eq q e.target || is_target entries q)) (sym same) ∙ this (bytes_eq e.target q) refl
        ∙ ap (λ (l : List Diversion). is_target l q) (sym (without_none p entries (ap (is_diverted entries) ((bytes_eq-Decides p e.path).0 here) ∙ table.1.not_diverted)))
    at false here rest found =
        later (bytes_eq d.target q) (bytes_eq q e.target) (is_target entries q) (λ same. sym (ap (λ (x : Path). bytes_eq x e.target) ((bytes_eq-Decides d.target q).0 same)) ∙ turned d.target e.target ∙ other_target entries p e.target d table.2 found)
        ∙ ap (λ b. bytes_eq q e.target || b) (rest found)

pub taken_out : {K : Type 0} (key : K → List ℕ) (pairs new : List (K × Diversion)) (p : Path) (d : Diversion) (targets less : Path → Bool) → IsIndex key pairs targets → new ≡ remove_entry (λ k. bytes_eq p (key k)) pairs
    → lookup (λ k. bytes_eq p (key k)) pairs ≡ Some d → ((q : Path) → less q ≡ cond (bytes_eq d.target q) false (targets q)) → IsIndex key new less × (entries_of new ≡ without p (entries_of pairs))
taken_out key pairs new p d targets less index e found shrunk =
    let same = removed key pairs p index.keyed index.table in
    subst (λ l. IsIndex key l less × (entries_of l ≡ without p (entries_of pairs))) (sym e) (
      record {
        keyed = keyed_less key pairs (λ k. bytes_eq p (key k)) index.keyed;
        table = subst IsTable (sym same) (table_without p (entries_of pairs) index.table);
        aimed = λ q. shrunk q ∙ ap (cond (bytes_eq d.target q) false) (index.aimed q)
            ∙ target_less (entries_of pairs) p d q index.table (sym (look_up key pairs p index.keyed) ∙ found) ∙ ap (λ (l : List Diversion). is_target l q) (sym same);
      },
      same,
    )
