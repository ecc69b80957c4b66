-- What a record tells once its conffiles are settled.
use Rattle.std.proofs.Common.{◌≡◌, ◌⊎◌, inl, inr, ℕ, Bool, true, false, not, cond, ◌&&◌, ◌||◌, List, [], ◌∷◌, ◌++◌, append_assoc, map, filter, Option, Some, None, refl, sym, ap, ◌∙◌}
use Rattle.std.specs.List.{AllByRecursion, list_any}
use Rattle.std.specs.Str.{bytes_eq}
use Rattle.std.proofs.lemmas.Bool.{true≢false, false_from_ne_true, or_from, or_parts}
use Rattle.std.proofs.lemmas.Slice.Eq.{bytes_eq-Decides}
use Rattle.diversions.specs.Ways.{Ways}
use Rattle.host_core.specs.Paths.{Path}
use Rattle.status_records.specs.declared.entries.ConffileEntry.{ConffileEntry}
use Rattle.status_records.specs.declared.entries.PendingDigest.{PendingDigest}
use Rattle.status_records.specs.declared.record.Record.{Record}
use Rattle.status_records.specs.ConffilePaths.{is_before, AreInOrder, placed_by, all_placed_by, in_path_order}
use Rattle.status_records.specs.Conffiles.{has_pending, recorded_digest}
use Rattle.status_records.proofs.PathOrder.{before_apart, has_placed}
use Rattle.configure_engine.specs.Settled.{settled, settled_entries, settled_entry, stays}
use Rattle.configure_engine.specs.Waiting.{goes, is_going, pending_digest, places_once, settling_paths}

abbrev path_in : ConffileEntry → Path
path_in e = e.path

-- entries of which none is flagged

all_placed : (P : ConffileEntry → Type 0) (x : ConffileEntry) (ys : List ConffileEntry) → P x → AllByRecursion P ys → AllByRecursion P (placed_by path_in x ys)
all_placed P x [] here all = (here, tt)
all_placed P x (y ∷ ys) here all = by (is_before y.path x.path) (all_placed P x ys here all.1)
  where
    by : (b : Bool) → AllByRecursion P (placed_by path_in x ys) → AllByRecursion P (cond b (y ∷ placed_by path_in x ys) (x ∷ y ∷ ys))
    by true rest = (all.0, rest)
    by false rest = (here, all)

all_of_both : (P : ConffileEntry → Type 0) (xs ys : List ConffileEntry) → AllByRecursion P xs → AllByRecursion P ys → AllByRecursion P (all_placed_by path_in ys xs)
all_of_both P [] ys first second = second
all_of_both P (x ∷ xs) ys first second = all_of_both P xs (placed_by path_in x ys) first.1 (all_placed P x ys first.0 second)

abbrev IsUnflagged : ConffileEntry → Type 0
IsUnflagged e = e.remove_on_upgrade ≡ false

staying_unflagged : (ps : List PendingDigest) (es : List ConffileEntry) → AllByRecursion IsUnflagged (filter (stays ps) es)
staying_unflagged ps [] = tt
staying_unflagged ps (e ∷ es) = by (has_pending ps e.path) e.remove_on_upgrade refl (staying_unflagged ps es)
  where
    by : (b flagged : Bool) → e.remove_on_upgrade ≡ flagged → AllByRecursion IsUnflagged (filter (stays ps) es) → AllByRecursion IsUnflagged (cond (not (b || flagged)) (e ∷ filter (stays ps) es) (filter (stays ps) es))
    by true flagged is rest = rest
    by false true is rest = rest
    by false false is rest = (is, rest)

shipped_unflagged : (ps : List PendingDigest) → AllByRecursion IsUnflagged (map settled_entry ps)
shipped_unflagged [] = tt
shipped_unflagged (p ∷ ps) = (refl, shipped_unflagged ps)

none_go : (es : List ConffileEntry) → AllByRecursion IsUnflagged es → filter (goes []) es ≡ []
none_go [] all = refl
none_go (e ∷ es) all = ap (λ (b : Bool). cond (b && true) (e ∷ filter (goes []) es) (filter (goes []) es)) all.0 ∙ none_go es all.1

pub nothing_left : (ways : Ways) (r : Record) → settling_paths ways (settled r) ≡ []
nothing_left ways r =
    let unflagged = all_of_both IsUnflagged (map settled_entry r.pending) (filter (stays r.pending) r.conffiles) (shipped_unflagged r.pending) (staying_unflagged r.pending r.conffiles) in
    ap (λ (es : List ConffileEntry). in_path_order (λ (q : Path). q) (places_once ways (map path_in es))) (none_go (settled_entries r) unflagged)

-- the digest of a path, entry by entry

flipped : (a b : Path) → bytes_eq a b ≡ false → bytes_eq b a ≡ false
flipped a b e = false_from_ne_true (bytes_eq b a) (λ t. true≢false (sym ((bytes_eq-Decides a b).1 (sym ((bytes_eq-Decides b a).0 t))) ∙ e))

-- two of these paths aren't the same
not_both : (q a b : Path) → bytes_eq a b ≡ false → bytes_eq q a ≡ true → bytes_eq q b ≡ true → ⊥
not_both q a b apart first second = true≢false (sym ((bytes_eq-Decides a b).1 (sym ((bytes_eq-Decides q a).0 first) ∙ (bytes_eq-Decides q b).0 second)) ∙ apart)

turned : (b c : Bool) (x y z : Option (List ℕ)) → (b ≡ true → c ≡ true → ⊥) → cond b x (cond c y z) ≡ cond c y (cond b x z)
turned true true x y z apart = absurd (apart refl refl)
turned true false x y z apart = refl
turned false c x y z apart = refl

abbrev has_path : List ConffileEntry → Path → Bool
has_path es q = list_any (λ (e : ConffileEntry). bytes_eq q e.path) es

placed_digest : (x : ConffileEntry) (ys : List ConffileEntry) (q : Path) → has_path ys x.path ≡ false → recorded_digest (placed_by path_in x ys) q ≡ cond (bytes_eq q x.path) x.digest (recorded_digest ys q)
placed_digest x [] q new = refl
placed_digest x (y ∷ ys) q new = by (is_before y.path x.path) (placed_digest x ys q (or_parts (bytes_eq x.path y.path) (has_path ys x.path) new).1)
  where
    other : bytes_eq y.path x.path ≡ false
    other = flipped x.path y.path (or_parts (bytes_eq x.path y.path) (has_path ys x.path) new).0

    by : (b : Bool) → recorded_digest (placed_by path_in x ys) q ≡ cond (bytes_eq q x.path) x.digest (recorded_digest ys q)
        → recorded_digest (cond b (y ∷ placed_by path_in x ys) (x ∷ y ∷ ys)) q ≡ cond (bytes_eq q x.path) x.digest (recorded_digest (y ∷ ys) q)
    by true rest = ap (λ (o : Option (List ℕ)). cond (bytes_eq q y.path) y.digest o) rest ∙ turned (bytes_eq q y.path) (bytes_eq q x.path) y.digest x.digest (recorded_digest ys q) (not_both q y.path x.path other)
    by false rest = refl

-- which digest a path has behind shipped ones
abbrev found : List PendingDigest → Option (List ℕ) → Path → Option (List ℕ)
found [] other q = other
found (p ∷ ps) other q = cond (bytes_eq q p.path) (Some p.digest) (found ps other q)

-- none of the shipped paths stands there
abbrev AreNew : List PendingDigest → List ConffileEntry → Type 0
AreNew ps ys = AllByRecursion (λ (p : PendingDigest). has_path ys p.path ≡ false) ps

still_new : (x : ConffileEntry) (ps : List PendingDigest) (ys : List ConffileEntry) → AllByRecursion (λ q. is_before x.path q ≡ true) (map (λ (p : PendingDigest). p.path) ps) → AreNew ps ys → AreNew ps (placed_by path_in x ys)
still_new x [] ys behind new = tt
still_new x (p ∷ ps) ys behind new = (has_placed path_in x ys p.path (flipped x.path p.path (before_apart x.path p.path behind.0)) new.0, still_new x ps ys behind.1 new.1)

none_found : (q : Path) (p : PendingDigest) (ps : List PendingDigest) (o : Option (List ℕ)) → AllByRecursion (λ r. is_before p.path r ≡ true) (map (λ (x : PendingDigest). x.path) ps) → found ps (cond (bytes_eq q p.path) (Some p.digest) o) q ≡ cond (bytes_eq q p.path) (Some p.digest) (found ps o q)
none_found q p [] o behind = refl
none_found q p (x ∷ ps) o behind =
    ap (λ (z : Option (List ℕ)). cond (bytes_eq q x.path) (Some x.digest) z) (none_found q p ps o behind.1)
    ∙ turned (bytes_eq q x.path) (bytes_eq q p.path) (Some x.digest) (Some p.digest) (found ps o q) (not_both q x.path p.path (flipped p.path x.path (before_apart p.path x.path behind.0)))

digests_placed : (ps : List PendingDigest) (ys : List ConffileEntry) (q : Path) → AreInOrder (map (λ (p : PendingDigest). p.path) ps) → AreNew ps ys → recorded_digest (all_placed_by path_in ys (map settled_entry ps)) q ≡ found ps (recorded_digest ys q) q
digests_placed [] ys q order new = refl
digests_placed (p ∷ ps) ys q order new =
    digests_placed ps (placed_by path_in (settled_entry p) ys) q order.1 (still_new (settled_entry p) ps ys order.0 new.1)
    ∙ ap (λ (o : Option (List ℕ)). found ps o q) (placed_digest (settled_entry p) ys q new.0)
    ∙ none_found q p ps (recorded_digest ys q) order.0

-- none of those that stay is shipped

none_stays : (ps : List PendingDigest) (q : Path) → has_pending ps q ≡ true → (es : List ConffileEntry) → has_path (filter (stays ps) es) q ≡ false
none_stays ps q is [] = refl
none_stays ps q is (e ∷ es) = by (has_pending ps e.path) refl e.remove_on_upgrade (none_stays ps q is es)
  where
    by : (b : Bool) → has_pending ps e.path ≡ b → (flagged : Bool) → has_path (filter (stays ps) es) q ≡ false → has_path (cond (not (b || flagged)) (e ∷ filter (stays ps) es) (filter (stays ps) es)) q ≡ false
    by true has flagged rest = rest
    by false has true rest = rest
    by false has false rest =
        or_from (bytes_eq q e.path) (has_path (filter (stays ps) es) q)
        (false_from_ne_true (bytes_eq q e.path) (λ t. true≢false (sym is ∙ ap (has_pending ps) ((bytes_eq-Decides q e.path).0 t) ∙ has))) rest

has_behind : (front : List PendingDigest) (p : PendingDigest) (ps : List PendingDigest) → has_pending (front ++ p ∷ ps) p.path ≡ true
has_behind [] p ps = ap (λ (b : Bool). b || has_pending ps p.path) ((bytes_eq-Decides p.path p.path).1 refl)
has_behind (f ∷ front) p ps = ap (λ (b : Bool). bytes_eq p.path f.path || b) (has_behind front p ps) ∙ or_true (bytes_eq p.path f.path)
  where
    or_true : (b : Bool) → b || true ≡ true
    or_true true = refl
    or_true false = refl

all_new_behind : (all front ps : List PendingDigest) → all ≡ front ++ ps → (es : List ConffileEntry) → AreNew ps (filter (stays all) es)
all_new_behind all front [] are es = tt
all_new_behind all front (p ∷ ps) are es = (
  none_stays all p.path (ap (λ (l : List PendingDigest). has_pending l p.path) are ∙ has_behind front p ps) es,
  all_new_behind all (front ++ p ∷ []) ps (are ∙ sym (append_assoc front (p ∷ []) ps)) es,
)

settled_digest : (r : Record) (q : Path) → AreInOrder (map (λ (p : PendingDigest). p.path) r.pending) → recorded_digest (settled_entries r) q ≡ found r.pending (recorded_digest (filter (stays r.pending) r.conffiles) q) q
settled_digest r q order = digests_placed r.pending (filter (stays r.pending) r.conffiles) q order (all_new_behind r.pending [] r.pending refl r.conffiles)

found_there : (ps : List PendingDigest) (o : Option (List ℕ)) (q : Path) (d : List ℕ) → pending_digest ps q ≡ Some d → found ps o q ≡ Some d
found_there [] o q d is = absurd (no_digest is)
  where
    no_digest : None ≡ Some d → ⊥
    no_digest e = cc
found_there (p ∷ ps) o q d is = by (bytes_eq q p.path) (found_there ps o q d) is
  where
    by : (b : Bool) → (pending_digest ps q ≡ Some d → found ps o q ≡ Some d) → cond b (Some p.digest) (pending_digest ps q) ≡ Some d → cond b (Some p.digest) (found ps o q) ≡ Some d
    by true rest here = here
    by false rest later = rest later

not_found : (ps : List PendingDigest) (o : Option (List ℕ)) (q : Path) → has_pending ps q ≡ false → found ps o q ≡ o
not_found [] o q none = refl
not_found (p ∷ ps) o q none =
    let parts = or_parts (bytes_eq q p.path) (has_pending ps q) none in
    ap (λ (b : Bool). cond b (Some p.digest) (found ps o q)) parts.0 ∙ not_found ps o q parts.1

pub shipped : (r : Record) (q : Path) (d : List ℕ) → AreInOrder (map (λ (p : PendingDigest). p.path) r.pending) → pending_digest r.pending q ≡ Some d → recorded_digest (settled r).conffiles q ≡ Some d
shipped r q d order is = settled_digest r q order ∙ found_there r.pending (recorded_digest (filter (stays r.pending) r.conffiles) q) q d is

-- a path that isn't shipped

module _ (ps : List PendingDigest) (q : Path) (none : has_pending ps q ≡ false) where
  -- of an entry of this path
  here_only : (e : ConffileEntry) → bytes_eq q e.path ≡ true → has_pending ps e.path ≡ false
  here_only e same = ap (has_pending ps) (sym ((bytes_eq-Decides q e.path).0 same)) ∙ none

  kept_digest : (es : List ConffileEntry) → list_any (bytes_eq q) (map path_in (filter (goes ps) es)) ≡ false → recorded_digest (filter (stays ps) es) q ≡ recorded_digest es q
  kept_digest [] not_going = refl
  kept_digest (e ∷ es) not_going = by (kept_digest es) (bytes_eq q e.path) refl (has_pending ps e.path) refl e.remove_on_upgrade not_going
    where
      by : (list_any (bytes_eq q) (map path_in (filter (goes ps) es)) ≡ false → recorded_digest (filter (stays ps) es) q ≡ recorded_digest es q) → (same : Bool) → bytes_eq q e.path ≡ same → (b : Bool) → has_pending ps e.path ≡ b → (flagged : Bool)
          → list_any (bytes_eq q) (map path_in (cond (flagged && not b) (e ∷ filter (goes ps) es) (filter (goes ps) es))) ≡ false
          → recorded_digest (cond (not (b || flagged)) (e ∷ filter (stays ps) es) (filter (stays ps) es)) q ≡ cond same e.digest (recorded_digest es q)
      by rest true is true has flagged going = absurd (true≢false (sym has ∙ here_only e is))
      by rest true is false has true going = absurd (true≢false (sym is ∙ (or_parts (bytes_eq q e.path) (list_any (bytes_eq q) (map path_in (filter (goes ps) es))) going).0))
      by rest true is false has false going = ap (λ (b : Bool). cond b e.digest (recorded_digest (filter (stays ps) es) q)) is
      by rest false is true has true going = rest going
      by rest false is true has false going = rest going
      by rest false is false has true going = rest (or_parts (bytes_eq q e.path) (list_any (bytes_eq q) (map path_in (filter (goes ps) es))) going).1
      by rest false is false has false going = ap (λ (b : Bool). cond b e.digest (recorded_digest (filter (stays ps) es) q)) is ∙ rest going

pub others : (r : Record) (q : Path) → AreInOrder (map (λ (p : PendingDigest). p.path) r.pending) → has_pending r.pending q ≡ false → is_going r q ≡ false → recorded_digest (settled r).conffiles q ≡ recorded_digest r.conffiles q
others r q order none not_going =
    settled_digest r q order ∙ not_found r.pending (recorded_digest (filter (stays r.pending) r.conffiles) q) q none ∙ kept_digest r.pending q none r.conffiles not_going

-- a path that goes

module _ (ps : List PendingDigest) (q : Path) where
  going_unshipped : (es : List ConffileEntry) → list_any (bytes_eq q) (map path_in (filter (goes ps) es)) ≡ true → has_pending ps q ≡ false
  going_unshipped [] is = absurd (true≢false (sym is))
  going_unshipped (e ∷ es) is = by (going_unshipped es) e.remove_on_upgrade (has_pending ps e.path) refl is
    where
      or_cases : (a b : Bool) → a || b ≡ true → (a ≡ true) ⊎ (b ≡ true)
      or_cases true b e = inl refl
      or_cases false b e = inr e

      by : (list_any (bytes_eq q) (map path_in (filter (goes ps) es)) ≡ true → has_pending ps q ≡ false) → (flagged b : Bool) → has_pending ps e.path ≡ b → list_any (bytes_eq q) (map path_in (cond (flagged && not b) (e ∷ filter (goes ps) es) (filter (goes ps) es))) ≡ true → has_pending ps q ≡ false
      by rest false b has going = rest going
      by rest true true has going = rest going
      by rest true false has going = elim (or_cases (bytes_eq q e.path) (list_any (bytes_eq q) (map path_in (filter (goes ps) es))) going) [
        | inl same ↦ ap (has_pending ps) ((bytes_eq-Decides q e.path).0 same) ∙ has
        | inr later ↦ rest later
      ]

  -- no entry of this path is among these, which stand behind an entry of it
  passed_digest : (es : List ConffileEntry) → AllByRecursion (λ p. bytes_eq q p ≡ false) (map path_in es) → recorded_digest (filter (stays ps) es) q ≡ None
  passed_digest [] all = refl
  passed_digest (e ∷ es) all = by (stays ps e) (passed_digest es all.1)
    where
      by : (b : Bool) → recorded_digest (filter (stays ps) es) q ≡ None → recorded_digest (cond b (e ∷ filter (stays ps) es) (filter (stays ps) es)) q ≡ None
      by true rest = ap (λ (c : Bool). cond c e.digest (recorded_digest (filter (stays ps) es) q)) all.0 ∙ rest
      by false rest = rest

  behind_apart : (p : Path) → bytes_eq q p ≡ true → (rest : List Path) → AllByRecursion (λ r. is_before p r ≡ true) rest → AllByRecursion (λ r. bytes_eq q r ≡ false) rest
  behind_apart p same [] behind = tt
  behind_apart p same (x ∷ rest) behind = (ap (λ (y : Path). bytes_eq y x) ((bytes_eq-Decides q p).0 same) ∙ before_apart p x behind.0, behind_apart p same rest behind.1)

  all_filtered : (test : ConffileEntry → Bool) (xs : List ConffileEntry) → AllByRecursion (λ p. bytes_eq q p ≡ false) (map path_in xs) → AllByRecursion (λ p. bytes_eq q p ≡ false) (map path_in (filter test xs))
  all_filtered test [] all = tt
  all_filtered test (x ∷ xs) all = by (test x) (all_filtered test xs all.1)
    where
      by : (c : Bool) → AllByRecursion (λ p. bytes_eq q p ≡ false) (map path_in (filter test xs)) → AllByRecursion (λ p. bytes_eq q p ≡ false) (map path_in (cond c (x ∷ filter test xs) (filter test xs)))
      by true rest = (all.0, rest)
      by false rest = rest

  none_any : (rs : List Path) → AllByRecursion (λ p. bytes_eq q p ≡ false) rs → list_any (bytes_eq q) rs ≡ false
  none_any [] all = refl
  none_any (r ∷ rs) all = or_from (bytes_eq q r) (list_any (bytes_eq q) rs) all.0 (none_any rs all.1)

  lost_digest : (es : List ConffileEntry) → AreInOrder (map path_in es) → list_any (bytes_eq q) (map path_in (filter (goes ps) es)) ≡ true → recorded_digest (filter (stays ps) es) q ≡ None
  lost_digest [] order is = refl
  lost_digest (e ∷ es) order is = by (lost_digest es order.1) (bytes_eq q e.path) refl (has_pending ps e.path) e.remove_on_upgrade is
    where
      by : (list_any (bytes_eq q) (map path_in (filter (goes ps) es)) ≡ true → recorded_digest (filter (stays ps) es) q ≡ None) → (same : Bool) → bytes_eq q e.path ≡ same → (b flagged : Bool)
          → list_any (bytes_eq q) (map path_in (cond (flagged && not b) (e ∷ filter (goes ps) es) (filter (goes ps) es))) ≡ true
          → recorded_digest (cond (not (b || flagged)) (e ∷ filter (stays ps) es) (filter (stays ps) es)) q ≡ None
      by rest true at true flagged going = passed_digest es (behind_apart e.path at (map path_in es) order.0)
      by rest true at false true going = passed_digest es (behind_apart e.path at (map path_in es) order.0)
      by rest true at false false going = absurd (true≢false (sym going ∙ none_any (map path_in (filter (goes ps) es)) (all_filtered (goes ps) es (behind_apart e.path at (map path_in es) order.0))))
      by rest false at true true going = rest going
      by rest false at true false going = rest going
      by rest false at false true going = rest (sym (ap (λ (c : Bool). c || list_any (bytes_eq q) (map path_in (filter (goes ps) es))) at) ∙ going)
      by rest false at false false going = ap (λ (c : Bool). cond c e.digest (recorded_digest (filter (stays ps) es) q)) at ∙ rest going

pub gone : (r : Record) (q : Path) → AreInOrder (map path_in r.conffiles) → AreInOrder (map (λ (p : PendingDigest). p.path) r.pending) → is_going r q ≡ true → recorded_digest (settled r).conffiles q ≡ None
gone r q entries order going =
    settled_digest r q order ∙ not_found r.pending (recorded_digest (filter (stays r.pending) r.conffiles) q) q (going_unshipped r.pending q r.conffiles going) ∙ lost_digest r.pending q r.conffiles entries going
