-- The entries of a record whose conffiles are settled, one after another.
use Rattle.std.proofs.Common.{◌≡◌, ◌<◌, ◌+◌, ℕ, zero, suc, Bool, true, false, not, cond, ◌||◌, List, [], ◌∷◌, ◌++◌, map, filter, length, take, get_or, refl, sym, ap, ◌∙◌, arith}
use Rattle.std.specs.List.{AllByRecursion}
use Rattle.std.specs.Str.{bytes_eq}
use Rattle.std.proofs.lemmas.Bool.{true≢false, false_from_ne_true, or_from, or_parts}
use Rattle.std.proofs.lemmas.List.{append-nil, map-append, take_more}
use Rattle.std.proofs.lemmas.List.Elements.{filter_more}
use Rattle.std.proofs.lemmas.Slice.Eq.{bytes_eq-Decides}
use Rattle.host_core.specs.Paths.{Path}
use Rattle.status_records.specs.declared.entries.ConffileEntry.{ConffileEntry}
use Rattle.status_records.specs.declared.entries.PendingDigest.{PendingDigest}
use Rattle.status_records.specs.ConffilePaths.{is_before, AreInOrder, placed_by, all_placed_by}
use Rattle.status_records.specs.Conffiles.{has_entry, has_pending}
use Rattle.status_records.proofs.PathOrder.{has_path, order_apart}
use Rattle.status_records.proofs.Placing.{all_placed_more, behind_all, has_all_placed, new_at}
use Rattle.configure_engine.specs.Settled.{settled_entry, stays}

-- one of a list more, where it passes the test, and where it doesn't

module _ {X : Type 0} (test : X → Bool) (xs : List X) (i : ℕ) (x : X) (lt : i < length xs) (at : x ≡ get_or xs i x) where
  pub kept_more : test x ≡ true → filter test (take i xs) ++ x ∷ [] ≡ filter test (take (i + 1) xs)
  kept_more is =
      sym (filter_more test xs i x lt ∙ ap (λ (y : X). filter test (take i xs) ++ cond (test y) (y ∷ []) []) (sym at) ∙ ap (λ (b : Bool). filter test (take i xs) ++ cond b (x ∷ []) []) is)

  pub gone_more : test x ≡ false → filter test (take i xs) ≡ filter test (take (i + 1) xs)
  gone_more is =
      sym (append-nil (filter test (take i xs))) ∙ sym (filter_more test xs i x lt ∙ ap (λ (y : X). filter test (take i xs) ++ cond (test y) (y ∷ []) []) (sym at) ∙ ap (λ (b : Bool). filter test (take i xs) ++ cond b (x ∷ []) []) is)

pub all_filtered : {X : Type 0} (P : X → Type 0) (test : X → Bool) (xs : List X) → AllByRecursion P xs → AllByRecursion P (filter test xs)
all_filtered P test [] all = tt
all_filtered P test (x ∷ xs) all = by (test x) (all_filtered P test xs all.1)
  where
    by : (b : Bool) → AllByRecursion P (filter test xs) → AllByRecursion P (cond b (x ∷ filter test xs) (filter test xs))
    by true rest = (all.0, rest)
    by false rest = rest

-- an entry is behind those that stayed before it
pub behind_staying : (test : ConffileEntry → Bool) (es : List ConffileEntry) (i : ℕ) (e m : ConffileEntry) (so_far : List ConffileEntry) → i < length es → e ≡ get_or es i e → AreInOrder (map (λ (x : ConffileEntry). x.path) es) → m ≡ e → so_far ≡ filter test (take i es)
    → AllByRecursion (λ (x : ConffileEntry). is_before x.path m.path ≡ true) so_far
behind_staying test es i e m so_far lt at order is before =
    let all = all_filtered (λ (x : ConffileEntry). is_before x.path (get_or es i e).path ≡ true) test (take i es) (behind_all es i e lt order) in
    rw (before, is, at) all

-- the entry of a shipped conffile is new among those

has_mapped : (ps : List PendingDigest) (q : Path) → has_path (λ (e : ConffileEntry). e.path) (map settled_entry ps) q ≡ has_path (λ (p : PendingDigest). p.path) ps q
has_mapped [] q = refl
has_mapped (p ∷ ps) q = ap (λ (b : Bool). bytes_eq q p.path || b) (has_mapped ps q)

flipped : (a b : Path) → bytes_eq a b ≡ false → bytes_eq b a ≡ false
flipped a b e = false_from_ne_true (bytes_eq b a) (λ t. true≢false (sym ((bytes_eq-Decides a b).1 (sym ((bytes_eq-Decides b a).0 t))) ∙ e))

apart_from : (ps : List PendingDigest) (i : ℕ) (d : PendingDigest) (q : Path) → i < length ps → has_pending ps q ≡ false → bytes_eq (get_or ps i d).path q ≡ false
apart_from [] i d q lt none = absurd (omega (arith, lt))
apart_from (p ∷ ps) zero d q lt none = flipped q p.path (or_parts (bytes_eq q p.path) (has_pending ps q) none).0
apart_from (p ∷ ps) (suc i) d q lt none = apart_from ps i d q (omega (arith, lt)) (or_parts (bytes_eq q p.path) (has_pending ps q) none).1

none_stays : (ps : List PendingDigest) (i : ℕ) (d : PendingDigest) → i < length ps → (es : List ConffileEntry) → has_path (λ (e : ConffileEntry). e.path) (filter (stays ps) es) (get_or ps i d).path ≡ false
none_stays ps i d lt [] = refl
none_stays ps i d lt (e ∷ es) = by (has_pending ps e.path) refl e.remove_on_upgrade (none_stays ps i d lt es)
  where
    by : (b : Bool) → has_pending ps e.path ≡ b → (flagged : Bool) → has_path (λ (x : ConffileEntry). x.path) (filter (stays ps) es) (get_or ps i d).path ≡ false
        → has_path (λ (x : ConffileEntry). x.path) (cond (not (b || flagged)) (e ∷ filter (stays ps) es) (filter (stays ps) es)) (get_or ps i d).path ≡ false
    by true is flagged rest = rest
    by false is true rest = rest
    by false is false rest = or_from (bytes_eq (get_or ps i d).path e.path) (has_path (λ (x : ConffileEntry). x.path) (filter (stays ps) es) (get_or ps i d).path) (apart_from ps i d e.path lt is) rest

module _ (es : List ConffileEntry) (ps : List PendingDigest) (i : ℕ) (p : PendingDigest) (e : ConffileEntry) (so_far : List ConffileEntry) (lt : i < length ps) (at : p ≡ get_or ps i p) (is : e ≡ settled_entry p)
    (before : so_far ≡ all_placed_by (λ (x : ConffileEntry). x.path) (filter (stays ps) es) (map settled_entry (take i ps))) where
  pub settled_new : AreInOrder (map (λ (x : PendingDigest). x.path) ps) → has_entry so_far e.path ≡ false
  settled_new order =
      let q = (get_or ps i p).path in
      let named : e.path ≡ q = ap (λ (x : ConffileEntry). x.path) is ∙ ap (λ (x : PendingDigest). x.path) at in
      ap (has_entry so_far) named ∙ ap (λ (l : List ConffileEntry). has_entry l q) before
      ∙ has_all_placed (λ (x : ConffileEntry). x.path) (filter (stays ps) es) (map settled_entry (take i ps)) q (none_stays ps i p lt es)
      (has_mapped (take i ps) q ∙ new_at (λ (x : PendingDigest). x.path) ps i p lt (order_apart (map (λ (x : PendingDigest). x.path) ps) order))

  pub settled_more : (next : List ConffileEntry) → next ≡ placed_by (λ (x : ConffileEntry). x.path) e so_far → next ≡ all_placed_by (λ (x : ConffileEntry). x.path) (filter (stays ps) es) (map settled_entry (take (i + 1) ps))
  settled_more next n =
      n ∙ ap (placed_by (λ (x : ConffileEntry). x.path) e) before
      ∙ ap (λ (x : ConffileEntry). placed_by (λ (y : ConffileEntry). y.path) x (all_placed_by (λ (y : ConffileEntry). y.path) (filter (stays ps) es) (map settled_entry (take i ps)))) (is ∙ ap settled_entry at)
      ∙ sym (all_placed_more (λ (y : ConffileEntry). y.path) (filter (stays ps) es) (map settled_entry (take i ps)) (settled_entry (get_or ps i p)))
      ∙ ap (all_placed_by (λ (y : ConffileEntry). y.path) (filter (stays ps) es)) (sym (ap (map settled_entry) (take_more ps i p lt) ∙ map-append settled_entry (take i ps) (get_or ps i p ∷ [])))
