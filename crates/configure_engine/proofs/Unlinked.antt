-- Where no link leads away from a path, all conffiles whose digests wait are settled, and all that are to go.
use Rattle.std.proofs.Common.{◌≡◌, Bool, true, false, not, cond, ◌&&◌, ◌||◌, List, [], ◌∷◌, ◌++◌, append_assoc, map, filter, refl, sym, ap, subst, ◌∙◌}
use Rattle.std.specs.List.{fold, list_any, AllByRecursion}
use Rattle.std.specs.Str.{bytes_eq}
use Rattle.std.proofs.lemmas.Bool.{true≢false, false_from_ne_true, or_from, or_parts}
use Rattle.std.proofs.lemmas.List.{append-nil, map-id}
use Rattle.std.proofs.lemmas.List.Sums.{fold-append}
use Rattle.std.proofs.lemmas.Slice.Eq.{bytes_eq-Decides}
use Rattle.diversions.specs.Ways.{Ways}
use Rattle.host_core.specs.Paths.{Path}
use Rattle.status_records.specs.declared.entries.ConffileEntry.{ConffileEntry}
use Rattle.status_records.specs.declared.entries.PendingDigest.{PendingDigest}
use Rattle.status_records.specs.declared.record.Record.{Record}
use Rattle.status_records.specs.ConffilePaths.{is_before, AreInOrder, placed_by, all_placed_by, in_path_order}
use Rattle.status_records.specs.Conffiles.{has_pending}
use Rattle.status_records.proofs.PathOrder.{before_apart, in_order_kept}
use Rattle.configure_engine.specs.Waiting.{goes, going_paths, has_place, pending_paths, place_of, places_once, settling_paths, with_place}

abbrev itself : Path → Path
itself q = q

flipped : (a b : Path) → bytes_eq a b ≡ false → bytes_eq b a ≡ false
flipped a b e = false_from_ne_true (bytes_eq b a) (λ t. true≢false (sym ((bytes_eq-Decides a b).1 (sym ((bytes_eq-Decides b a).0 t))) ∙ e))

-- each path is new behind those before it
abbrev AreNew : List Path → List Path → Type 0
AreNew kept [] = Unit {0}
AreNew kept (x ∷ xs) = (list_any (bytes_eq x) kept ≡ false) × AreNew (kept ++ x ∷ []) xs

new_last : (q x : Path) (kept : List Path) → list_any (bytes_eq q) kept ≡ false → bytes_eq q x ≡ false → list_any (bytes_eq q) (kept ++ x ∷ []) ≡ false
new_last q x [] none other = or_from (bytes_eq q x) false other refl
new_last q x (k ∷ kept) none other =
    let parts = or_parts (bytes_eq q k) (list_any (bytes_eq q) kept) none in
    or_from (bytes_eq q k) (list_any (bytes_eq q) (kept ++ x ∷ [])) parts.0 (new_last q x kept parts.1 other)

still_new : (x : Path) (kept xs : List Path) → AllByRecursion (λ q. is_before x q ≡ true) xs → AllByRecursion (λ q. list_any (bytes_eq q) kept ≡ false) xs → AllByRecursion (λ q. list_any (bytes_eq q) (kept ++ x ∷ []) ≡ false) xs
still_new x kept [] behind none = tt
still_new x kept (q ∷ xs) behind none = (new_last q x kept none.0 (flipped x q (before_apart x q behind.0)), still_new x kept xs behind.1 none.1)

-- what stands in order is
order_new : (kept xs : List Path) → AreInOrder xs → AllByRecursion (λ q. list_any (bytes_eq q) kept ≡ false) xs → AreNew kept xs
order_new kept [] order none = tt
order_new kept (x ∷ xs) order none = (none.0, order_new (kept ++ x ∷ []) xs order.1 (still_new x kept xs order.0 none.1))

none_there : (xs : List Path) → AllByRecursion (λ q. list_any (bytes_eq q) [] ≡ false) xs
none_there [] = tt
none_there (x ∷ xs) = (refl, none_there xs)

module _ (ways : Ways) (same : (q : Path) → place_of ways q ≡ q) where
  each_itself : place_of ways ≡ itself
  each_itself = λ i q. same q i

  place_new : (kept : List Path) (x : Path) → list_any (bytes_eq x) kept ≡ false → has_place ways kept x ≡ false
  place_new kept x none = ap (λ (f : Path → Path). list_any (λ q. bytes_eq (f x) (f q)) kept) each_itself ∙ none

  once_kept : (kept xs : List Path) → AreNew kept xs → fold (with_place ways) kept xs ≡ kept ++ xs
  once_kept kept [] new = sym (append-nil kept)
  once_kept kept (x ∷ xs) new =
      ap (λ (b : Bool). fold (with_place ways) (cond b kept (kept ++ x ∷ [])) xs) (place_new kept x new.0) ∙ once_kept (kept ++ x ∷ []) xs new.1 ∙ append_assoc kept (x ∷ []) xs

  both_kept : (ps qs : List Path) → AreInOrder ps → AreInOrder qs → AllByRecursion (λ q. list_any (bytes_eq q) ps ≡ false) qs → places_once ways (ps ++ qs) ≡ ps ++ qs
  both_kept ps qs first second none =
      fold-append (with_place ways) [] ps qs ∙ ap (λ (l : List Path). fold (with_place ways) l qs) (once_kept [] ps (order_new [] ps first (none_there ps))) ∙ once_kept ps qs (order_new ps qs second none)

-- the paths that go

all_going : (P : Path → Type 0) (test : ConffileEntry → Bool) (es : List ConffileEntry) → AllByRecursion P (map (λ (e : ConffileEntry). e.path) es) → AllByRecursion P (map (λ (e : ConffileEntry). e.path) (filter test es))
all_going P test [] all = tt
all_going P test (e ∷ es) all = by (test e) (all_going P test es all.1)
  where
    by : (b : Bool) → AllByRecursion P (map (λ (x : ConffileEntry). x.path) (filter test es)) → AllByRecursion P (map (λ (x : ConffileEntry). x.path) (cond b (e ∷ filter test es) (filter test es)))
    by true rest = (all.0, rest)
    by false rest = rest

going_in_order : (test : ConffileEntry → Bool) (es : List ConffileEntry) → AreInOrder (map (λ (e : ConffileEntry). e.path) es) → AreInOrder (map (λ (e : ConffileEntry). e.path) (filter test es))
going_in_order test [] order = tt
going_in_order test (e ∷ es) order = by (test e) (going_in_order test es order.1)
  where
    by : (b : Bool) → AreInOrder (map (λ (x : ConffileEntry). x.path) (filter test es)) → AreInOrder (map (λ (x : ConffileEntry). x.path) (cond b (e ∷ filter test es) (filter test es)))
    by true rest = (all_going (λ q. is_before e.path q ≡ true) test es order.0, rest)
    by false rest = rest

has_mapped : (ps : List PendingDigest) (q : Path) → list_any (bytes_eq q) (map (λ (p : PendingDigest). p.path) ps) ≡ has_pending ps q
has_mapped [] q = refl
has_mapped (p ∷ ps) q = ap (λ (b : Bool). bytes_eq q p.path || b) (has_mapped ps q)

-- none of them is shipped
going_new : (ps : List PendingDigest) (es : List ConffileEntry) → AllByRecursion (λ q. list_any (bytes_eq q) (map (λ (p : PendingDigest). p.path) ps) ≡ false) (map (λ (e : ConffileEntry). e.path) (filter (goes ps) es))
going_new ps [] = tt
going_new ps (e ∷ es) = by e.remove_on_upgrade (has_pending ps e.path) refl (going_new ps es)
  where
    by : (flagged b : Bool) → has_pending ps e.path ≡ b → AllByRecursion (λ q. list_any (bytes_eq q) (map (λ (p : PendingDigest). p.path) ps) ≡ false) (map (λ (x : ConffileEntry). x.path) (filter (goes ps) es))
        → AllByRecursion (λ q. list_any (bytes_eq q) (map (λ (p : PendingDigest). p.path) ps) ≡ false) (map (λ (x : ConffileEntry). x.path) (cond (flagged && not b) (e ∷ filter (goes ps) es) (filter (goes ps) es)))
    by false b is rest = rest
    by true true is rest = rest
    by true false is rest = (has_mapped ps e.path ∙ is, rest)

pub as_listed : (ways : Ways) (r : Record) → AreInOrder (map (λ (e : ConffileEntry). e.path) r.conffiles) → AreInOrder (map (λ (p : PendingDigest). p.path) r.pending) → ((q : Path) → place_of ways q ≡ q)
    → settling_paths ways r ≡ all_placed_by (λ (q : Path). q) (pending_paths r) (going_paths r)
as_listed ways r entries digests same =
    ap (in_path_order itself) (both_kept ways same (pending_paths r) (going_paths r) digests (going_in_order (goes r.pending) r.conffiles entries) (going_new r.pending r.conffiles))
    ∙ fold-append (λ (zs : List Path) (z : Path). placed_by itself z zs) [] (pending_paths r) (going_paths r)
    ∙ ap (λ (l : List Path). all_placed_by itself l (going_paths r)) (in_order_kept itself (pending_paths r) (subst AreInOrder (sym (map-id (pending_paths r))) digests))
