-- What a table of diversions is, with an entry more or less.
use Rattle.std.proofs.Common.{◌≡◌, ◌≢◌, Bool, true, false, not, cond, filter, List, [], ◌∷◌, ◌++◌, refl, sym, ap, ◌∙◌}
use Rattle.std.specs.List.{list_any}
use Rattle.std.specs.Str.{bytes_eq}
use Rattle.std.proofs.lemmas.Bool.{or_from, or_parts, false_from_ne_true, true≢false}
use Rattle.std.proofs.lemmas.List.Folds.{list_any-append}
use Rattle.std.proofs.lemmas.Slice.Eq.{bytes_eq-Decides}
use Rattle.host_core.specs.Paths.{Path}
use Rattle.diversions.specs.declared.entry.Diversion.{Diversion}
use Rattle.diversions.specs.Entries.{is_diverted, is_target, without, IsEntry, IsFree, IsTable}

-- paths that differ

pub told_apart : (p q : Path) → p ≢ q → bytes_eq p q ≡ false
told_apart p q ne = false_from_ne_true (bytes_eq p q) (λ t. ne ((bytes_eq-Decides p q).0 t))

pub apart : (p q : Path) → bytes_eq p q ≡ false → p ≢ q
apart p q is same = true≢false (sym ((bytes_eq-Decides p q).1 same) ∙ is)

pub turned : (p q : Path) → bytes_eq p q ≡ bytes_eq q p
turned p q = at (bytes_eq p q) refl
  where
    at : (b : Bool) → bytes_eq p q ≡ b → bytes_eq p q ≡ bytes_eq q p
    at true is = is ∙ sym ((bytes_eq-Decides q p).1 (sym ((bytes_eq-Decides p q).0 is)))
    at false is = is ∙ sym (told_apart q p (λ same. apart p q is (sym same)))

-- what is free

pub free_in_none : (p : Path) → IsFree [] p
free_in_none p = record { not_diverted = refl; no_target = refl }

free_cons : (d : Diversion) (entries : List Diversion) (p : Path) → p ≢ d.path → p ≢ d.target → IsFree entries p → IsFree (d ∷ entries) p
free_cons d entries p no_path no_target free = record {
  not_diverted = or_from (bytes_eq p d.path) (is_diverted entries p) (told_apart p d.path no_path) free.not_diverted;
  no_target = or_from (bytes_eq p d.target) (is_target entries p) (told_apart p d.target no_target) free.no_target;
}

record Parts (d : Diversion) (entries : List Diversion) (p : Path) : Type 0 where
  no_path : p ≢ d.path
  no_target : p ≢ d.target
  free : IsFree entries p

free_parts : (d : Diversion) (entries : List Diversion) (p : Path) → IsFree (d ∷ entries) p → Parts d entries p
free_parts d entries p free =
    let a = or_parts (bytes_eq p d.path) (is_diverted entries p) free.not_diverted in
    let b = or_parts (bytes_eq p d.target) (is_target entries p) free.no_target in
    record { no_path = apart p d.path a.0; no_target = apart p d.target b.0; free = record { not_diverted = a.1; no_target = b.1 } }

pub free_both : (a b : List Diversion) (p : Path) → IsFree a p → IsFree b p → IsFree (a ++ b) p
free_both a b p first second = record {
  not_diverted = list_any-append (λ (d : Diversion). bytes_eq p d.path) a b ∙ or_from (is_diverted a p) (is_diverted b p) first.not_diverted second.not_diverted;
  no_target = list_any-append (λ (d : Diversion). bytes_eq p d.target) a b ∙ or_from (is_target a p) (is_target b p) first.no_target second.no_target;
}

free_front : (a b : List Diversion) (p : Path) → IsFree (a ++ b) p → IsFree a p
free_front a b p free = record {
  not_diverted = (or_parts (is_diverted a p) (is_diverted b p) (sym (list_any-append (λ (d : Diversion). bytes_eq p d.path) a b) ∙ free.not_diverted)).0;
  no_target = (or_parts (is_target a p) (is_target b p) (sym (list_any-append (λ (d : Diversion). bytes_eq p d.target) a b) ∙ free.no_target)).0;
}

free_back : (a b : List Diversion) (p : Path) → IsFree (a ++ b) p → IsFree b p
free_back a b p free = record {
  not_diverted = (or_parts (is_diverted a p) (is_diverted b p) (sym (list_any-append (λ (d : Diversion). bytes_eq p d.path) a b) ∙ free.not_diverted)).1;
  no_target = (or_parts (is_target a p) (is_target b p) (sym (list_any-append (λ (d : Diversion). bytes_eq p d.target) a b) ∙ free.no_target)).1;
}

-- an entry more

pub table_more : (entries : List Diversion) (d : Diversion) → IsTable entries → IsEntry d → IsFree entries d.path → IsFree entries d.target → IsTable (entries ++ d ∷ [])
table_more [] d table is path target = (is, free_in_none d.path, free_in_none d.target, tt)
table_more (e ∷ entries) d table is path target =
    let p = free_parts e entries d.path path in
    let t = free_parts e entries d.target target in (
      table.0,
      free_both entries (d ∷ []) e.path table.1 (free_cons d [] e.path (λ s. p.no_path (sym s)) (λ s. t.no_path (sym s)) (free_in_none e.path)),
      free_both entries (d ∷ []) e.target table.2 (free_cons d [] e.target (λ s. p.no_target (sym s)) (λ s. t.no_target (sym s)) (free_in_none e.target)),
      table_more entries d table.3 is p.free t.free,
    )

pub record IsLastOf (entries : List Diversion) (d : Diversion) : Type 0 where
  pub is : IsEntry d
  pub path : IsFree entries d.path
  pub target : IsFree entries d.target

pub table_last : (entries : List Diversion) (d : Diversion) → IsTable (entries ++ d ∷ []) → IsLastOf entries d
table_last [] d table = record { is = table.0; path = free_in_none d.path; target = free_in_none d.target }
table_last (e ∷ entries) d table =
    let rest = table_last entries d table.3 in
    let p = free_parts d [] e.path (free_back entries (d ∷ []) e.path table.1) in
    let t = free_parts d [] e.target (free_back entries (d ∷ []) e.target table.2) in
    record {
      is = rest.is;
      path = free_cons e entries d.path (λ s. p.no_path (sym s)) (λ s. t.no_path (sym s)) rest.path;
      target = free_cons e entries d.target (λ s. p.no_target (sym s)) (λ s. t.no_target (sym s)) rest.target;
    }

pub table_front : (a b : List Diversion) → IsTable (a ++ b) → IsTable a
table_front [] b table = tt
table_front (d ∷ a) b table = (table.0, free_front a b d.path table.1, free_front a b d.target table.2, table_front a b table.3)

-- an entry less

left_out : (f t : Diversion → Bool) (entries : List Diversion) → list_any f entries ≡ false → list_any f (filter t entries) ≡ false
left_out f t [] none = refl
left_out f t (d ∷ entries) none =
    let parts = or_parts (f d) (list_any f entries) none in
    at (t d) (left_out f t entries parts.1)
  where
    at : (b : Bool) → list_any f (filter t entries) ≡ false → list_any f (cond b (d ∷ filter t entries) (filter t entries)) ≡ false
    at true rest = or_from (f d) (list_any f (filter t entries)) (or_parts (f d) (list_any f entries) none).0 rest
    at false rest = rest

free_without : (p : Path) (entries : List Diversion) (q : Path) → IsFree entries q → IsFree (without p entries) q
free_without p entries q free = record {
  not_diverted = left_out (λ d. bytes_eq q d.path) (λ d. not (bytes_eq p d.path)) entries free.not_diverted;
  no_target = left_out (λ d. bytes_eq q d.target) (λ d. not (bytes_eq p d.path)) entries free.no_target;
}

pub table_without : (p : Path) (entries : List Diversion) → IsTable entries → IsTable (without p entries)
table_without p [] table = tt
table_without p (d ∷ entries) table = at (not (bytes_eq p d.path)) (table_without p entries table.3)
  where
    at : (b : Bool) → IsTable (without p entries) → IsTable (cond b (d ∷ without p entries) (without p entries))
    at true rest = (table.0, free_without p entries d.path table.1, free_without p entries d.target table.2, rest)
    at false rest = rest

-- where the path isn't diverted none is left out
pub without_none : (p : Path) (entries : List Diversion) → is_diverted entries p ≡ false → without p entries ≡ entries
without_none p [] none = refl
without_none p (d ∷ entries) none =
    let parts = or_parts (bytes_eq p d.path) (is_diverted entries p) none in
    ap (λ b. cond (not b) (d ∷ without p entries) (without p entries)) parts.0 ∙ ap (λ (l : List Diversion). d ∷ l) (without_none p entries parts.1)
