-- Entries that are put in their places, line after line.
use Rattle.std.proofs.Common.{◌≡◌, ℕ, zero, suc, ◌+◌, ◌<◌, Bool, true, false, not, cond, ◌||◌, List, [], ◌∷◌, ◌++◌, length, map, take, get_or, Option, Some, None, refl, sym, ap, subst, ◌∙◌, arith}
use Rattle.std.specs.Prelude.{filter, is_some}
use Rattle.std.specs.List.{find, flat_map, list_any, list_all, AllByRecursion}
use Rattle.std.specs.Str.{bytes_eq}
use Rattle.std.proofs.lemmas.Bool.{true≢false, false_from_ne_true, or_from, or_parts}
use Rattle.std.proofs.lemmas.Grind.{flat_map-append}
use Rattle.std.proofs.lemmas.List.{take_more, map-append}
use Rattle.std.proofs.lemmas.List.Elements.{filter-append}
use Rattle.std.proofs.lemmas.List.Folds.{list_all_at}
use Rattle.std.proofs.lemmas.List.Sums.{fold-append}
use Rattle.std.proofs.lemmas.Slice.Eq.{bytes_eq-Decides}
use Rattle.host_core.specs.Paths.{Path}
use Rattle.status_records.specs.declared.entries.ConffileEntry.{ConffileEntry}
use Rattle.status_records.specs.declared.entries.PendingDigest.{PendingDigest}
use Rattle.status_records.specs.ConffilePaths.{is_before, AreInOrder, placed_by, all_placed_by, in_path_order}
use Rattle.status_records.specs.ConffileFields.{are_apart}
use Rattle.status_records.specs.Conffiles.{has_pending, renewed_entry, shipped_entry, marked_entry, left_entry, left_entries}
use Rattle.status_records.proofs.Apart.{twice}
use Rattle.status_records.proofs.PathOrder.{has_path, has_placed, placed_mapped}

-- one more

pub all_placed_more : {X : Type 0} (path : X → Path) (ys xs : List X) (x : X) → all_placed_by path ys (xs ++ x ∷ []) ≡ placed_by path x (all_placed_by path ys xs)
all_placed_more {X = X} path ys xs x = fold-append (λ (zs : List X) (z : X). placed_by path z zs) ys xs (x ∷ [])

pub has_all_placed : {X : Type 0} (path : X → Path) (ys xs : List X) (p : Path) → has_path path ys p ≡ false → has_path path xs p ≡ false → has_path path (all_placed_by path ys xs) p ≡ false
has_all_placed path ys [] p new others = new
has_all_placed path ys (x ∷ xs) p new others =
    let parts = or_parts (bytes_eq p (path x)) (has_path path xs p) others in
    has_all_placed path (placed_by path x ys) xs p (has_placed path x ys p parts.0 new) parts.1

any_mapped : {X Y : Type 0} (f : X → Y) (path : Y → Path) (xs : List X) (p : Path) → has_path path (map f xs) p ≡ has_path (λ z. path (f z)) xs p
any_mapped f path [] p = refl
any_mapped f path (x ∷ xs) p = ap (λ b. bytes_eq p (path (f x)) || b) (any_mapped f path xs p)

pub new_at : {X : Type 0} (path : X → Path) (xs : List X) (i : ℕ) (d : X) → i < length xs → are_apart (map path xs) ≡ true → has_path path (take i xs) (path (get_or xs i d)) ≡ false
new_at path xs i d lt apart =
    sym (any_mapped path (λ q. q) (take i xs) (path (get_or xs i d)))
    ∙ false_from_ne_true (list_any (bytes_eq (path (get_or xs i d))) (map path (take i xs))) (λ t. true≢false (sym apart ∙ twice path xs i d (path (get_or xs i d)) lt refl t))

-- the steps of a loop that puts what lines say

module _ {E W : Type 0} (words : E → W) (path : W → Path) (said : List ℕ → W) (lines : List (List ℕ)) (i : ℕ) (line : List ℕ) (es : List E) (e : E) (lt : i < length lines) (at : line ≡ get_or lines i line) (says : words e ≡ said line)
    (so_far : map words es ≡ in_path_order path (map said (take i lines))) where
  pub put_new : are_apart (map (λ l. path (said l)) lines) ≡ true → has_path (λ z. path (words z)) es (path (words e)) ≡ false
  put_new apart =
      sym (any_mapped words path es (path (words e)))
      ∙ ap (λ ws. has_path path ws (path (words e))) so_far
      ∙ has_all_placed path [] (map said (take i lines)) (path (words e)) refl
      (any_mapped said path (take i lines) (path (words e)) ∙ ap (λ w. has_path (λ l. path (said l)) (take i lines) (path w)) (says ∙ ap said at) ∙ new_at (λ l. path (said l)) lines i line lt apart)

  pub put_more : (next : List E) → next ≡ placed_by (λ z. path (words z)) e es → map words next ≡ in_path_order path (map said (take (i + 1) lines))
  put_more next put =
      ap (map words) put ∙ placed_mapped words path e es ∙ ap (placed_by path (words e)) so_far ∙ ap (λ w. placed_by path w (in_path_order path (map said (take i lines)))) (says ∙ ap said at)
      ∙ sym (all_placed_more path [] (map said (take i lines)) (said (get_or lines i line)))
      ∙ ap (in_path_order path) (sym (ap (map said) (take_more lines i line lt) ∙ map-append said (take i lines) (get_or lines i line ∷ [])))

pub not_unread : (test : List ℕ → Bool) (lines : List (List ℕ)) (i : ℕ) (line : List ℕ) → i < length lines → line ≡ get_or lines i line → list_all test lines ≡ true → test line ≡ false → ⊥
not_unread test lines i line lt at all bad = true≢false (sym all ∙ list_all_at test lines i line lt (ap test (sym at) ∙ bad))

-- what stays of the entries before

module _ (shipped : List PendingDigest) (flagged : List Path) (ships : Path → Bool) where
  abbrev left : List ConffileEntry → List ConffileEntry
  left es = left_entries es shipped flagged ships

  abbrev here : ConffileEntry → List ConffileEntry
  here e = cond (not (has_pending shipped e.path)) (left_entry flagged ships e) []

  one_left : (b : Bool) (e : ConffileEntry) → flat_map (left_entry flagged ships) (cond b (e ∷ []) []) ≡ cond b (left_entry flagged ships e) []
  one_left true e = append_none (left_entry flagged ships e)
    where
      append_none : (l : List ConffileEntry) → l ++ [] ≡ l
      append_none [] = refl
      append_none (x ∷ l) = ap (λ z. x ∷ z) (append_none l)
  one_left false e = refl

  left_append : (es : List ConffileEntry) (e : ConffileEntry) → left (es ++ e ∷ []) ≡ left es ++ here e
  left_append es e =
      ap (flat_map (left_entry flagged ships)) (filter-append (λ (x : ConffileEntry). not (has_pending shipped x.path)) es (e ∷ []))
      ∙ flat_map-append (left_entry flagged ships) (filter (λ (x : ConffileEntry). not (has_pending shipped x.path)) es) (filter (λ (x : ConffileEntry). not (has_pending shipped x.path)) (e ∷ []))
      ∙ ap (λ l. left es ++ l) (one_left (not (has_pending shipped e.path)) e)

  left_more : (es : List ConffileEntry) (i : ℕ) (e : ConffileEntry) → i < length es → e ≡ get_or es i e → left (take (i + 1) es) ≡ left (take i es) ++ here e
  left_more es i e lt at = ap left (take_more es i e lt ∙ ap (λ x. take i es ++ x ∷ []) (sym at)) ∙ left_append (take i es) e

  -- one that stays, and one that doesn't
  pub left_kept : (es : List ConffileEntry) (i : ℕ) (e m : ConffileEntry) (so_far next : List ConffileEntry) → i < length es → e ≡ get_or es i e → has_pending shipped e.path ≡ false → ships e.path || not (is_some e.digest) ≡ false
      → m ≡ marked_entry (list_any (bytes_eq e.path) flagged) e → so_far ≡ left (take i es) → next ≡ so_far ++ m ∷ [] → next ≡ left (take (i + 1) es)
  left_kept es i e m so_far next lt at other stays is before n =
      n ∙ ap (λ l. l ++ m ∷ []) before ∙ ap (λ x. left (take i es) ++ x ∷ []) is
      ∙ ap (λ l. left (take i es) ++ l) (sym (ap (λ b. cond (not b) (left_entry flagged ships e) []) other ∙ ap (λ b. cond b [] (marked_entry (list_any (bytes_eq e.path) flagged) e ∷ [])) stays))
      ∙ sym (left_more es i e lt at)

  pub left_gone : (es : List ConffileEntry) (i : ℕ) (e : ConffileEntry) (so_far next : List ConffileEntry) → i < length es → e ≡ get_or es i e → here e ≡ [] → so_far ≡ left (take i es) → next ≡ so_far → next ≡ left (take (i + 1) es)
  left_gone es i e so_far next lt at gone before n = n ∙ before ∙ sym (append_none (left (take i es))) ∙ ap (λ l. left (take i es) ++ l) (sym gone) ∙ sym (left_more es i e lt at)
    where
      append_none : (l : List ConffileEntry) → l ++ [] ≡ l
      append_none [] = refl
      append_none (x ∷ l) = ap (λ z. x ∷ z) (append_none l)

  pub gone_shipped : (e : ConffileEntry) → has_pending shipped e.path ≡ true → here e ≡ []
  gone_shipped e is = ap (λ b. cond (not b) (left_entry flagged ships e) []) is

  pub gone_other : (e : ConffileEntry) → has_pending shipped e.path ≡ false → ships e.path || not (is_some e.digest) ≡ true → here e ≡ []
  gone_other e other is =
      ap (λ b. cond (not b) (left_entry flagged ships e) []) other ∙ ap (λ b. cond b [] (marked_entry (list_any (bytes_eq e.path) flagged) e ∷ [])) is

  -- the paths of those that stay are among those before
  marked_path : (b : Bool) (e : ConffileEntry) → (marked_entry b e).path ≡ e.path
  marked_path true e = refl
  marked_path false e = refl

  all_here : (P : Path → Type 0) (b : Bool) (m : ConffileEntry) (rest : List ConffileEntry) → P m.path → AllByRecursion (λ (x : ConffileEntry). P x.path) rest → AllByRecursion (λ (x : ConffileEntry). P x.path) (cond b [] (m ∷ []) ++ rest)
  all_here P true m rest holds all = all
  all_here P false m rest holds all = (holds, all)

  pub all_left : (P : Path → Type 0) (es : List ConffileEntry) → AllByRecursion (λ (x : ConffileEntry). has_pending shipped x.path ≡ false → P x.path) es → AllByRecursion (λ (x : ConffileEntry). P x.path) (left es)
  all_left P [] all = tt
  all_left P (e ∷ es) all = by (has_pending shipped e.path) refl (all_left P es all.1)
    where
      by : (b : Bool) → has_pending shipped e.path ≡ b → AllByRecursion (λ (x : ConffileEntry). P x.path) (left es) → AllByRecursion (λ (x : ConffileEntry). P x.path) (flat_map (left_entry flagged ships) (cond (not b) (e ∷ filter (λ (x : ConffileEntry). not (has_pending shipped x.path)) es) (filter (λ (x : ConffileEntry). not (has_pending shipped x.path)) es)))
      by true is rest = rest
      by false is rest =
          all_here P (ships e.path || not (is_some e.digest)) (marked_entry (list_any (bytes_eq e.path) flagged) e) (left es)
          (subst P (sym (marked_path (list_any (bytes_eq e.path) flagged) e)) (all.0 is)) rest

-- an entry is behind those before it

pub behind_all : (es : List ConffileEntry) (i : ℕ) (d : ConffileEntry) → i < length es → AreInOrder (map (λ (e : ConffileEntry). e.path) es) → AllByRecursion (λ (e : ConffileEntry). is_before e.path (get_or es i d).path ≡ true) (take i es)
behind_all [] i d lt order = absurd (omega (arith, lt))
behind_all (e ∷ es) zero d lt order = tt
behind_all (e ∷ es) (suc i) d lt order = (at es i d (omega (arith, lt)) order.0, behind_all es i d (omega (arith, lt)) order.1)
  where
    at : (xs : List ConffileEntry) (k : ℕ) (d : ConffileEntry) → k < length xs → AllByRecursion (λ q. is_before e.path q ≡ true) (map (λ (x : ConffileEntry). x.path) xs) → is_before e.path (get_or xs k d).path ≡ true
    at [] k d lt all = absurd (omega (arith, lt))
    at (x ∷ xs) zero d lt all = all.0
    at (x ∷ xs) (suc k) d lt all = at xs k d (omega (arith, lt)) all.1

weak : (P : ConffileEntry → Type 0) (Q : ConffileEntry → Type 0) (es : List ConffileEntry) → ((e : ConffileEntry) → P e → Q e) → AllByRecursion P es → AllByRecursion Q es
weak P Q [] so all = tt
weak P Q (e ∷ es) so all = (so e all.0, weak P Q es so all.1)

pub left_behind : (shipped : List PendingDigest) (flagged : List Path) (ships : Path → Bool) (es : List ConffileEntry) (i : ℕ) (e m : ConffileEntry) (so_far : List ConffileEntry) → i < length es → e ≡ get_or es i e → AreInOrder (map (λ (x : ConffileEntry). x.path) es)
    → m ≡ marked_entry (list_any (bytes_eq e.path) flagged) e → so_far ≡ left_entries (take i es) shipped flagged ships → AllByRecursion (λ (x : ConffileEntry). is_before x.path m.path ≡ true) so_far
left_behind shipped flagged ships es i e m so_far lt at order is before =
    let path : m.path ≡ (get_or es i e).path = ap (λ (x : ConffileEntry). x.path) is ∙ marked_path shipped flagged ships (list_any (bytes_eq e.path) flagged) e ∙ ap (λ (x : ConffileEntry). x.path) at in
    subst (AllByRecursion (λ (x : ConffileEntry). is_before x.path m.path ≡ true)) (sym before)
    (subst (λ (p : Path). AllByRecursion (λ (x : ConffileEntry). is_before x.path p ≡ true) (left_entries (take i es) shipped flagged ships)) (sym path)
    (all_left shipped flagged ships (λ p. is_before p (get_or es i e).path ≡ true) (take i es)
    (weak (λ x. is_before x.path (get_or es i e).path ≡ true) (λ x. has_pending shipped x.path ≡ false → is_before x.path (get_or es i e).path ≡ true) (take i es) (λ x h other. h) (behind_all es i e lt order))))

-- the entry of a shipped conffile

found_path : (p : Path) (es : List ConffileEntry) → (e : ConffileEntry) → find (λ (x : ConffileEntry). bytes_eq p x.path) es ≡ Some e → e.path ≡ p
found_path p [] e is = absurd (cc is)
found_path p (x ∷ es) e is = by (bytes_eq p x.path) refl is (λ later. found_path p es e later)
  where
    by : (b : Bool) → bytes_eq p x.path ≡ b → cond b (Some x) (find (λ (y : ConffileEntry). bytes_eq p y.path) es) ≡ Some e → (find (λ (y : ConffileEntry). bytes_eq p y.path) es ≡ Some e → e.path ≡ p) → e.path ≡ p
    by true here is rest = let same : x ≡ e = cc is in ap (λ (y : ConffileEntry). y.path) (sym same) ∙ sym ((bytes_eq-Decides p x.path).0 here)
    by false here is rest = rest is

pub shipped_path : (es : List ConffileEntry) (p : PendingDigest) → (shipped_entry es p).path ≡ p.path
shipped_path es p = by (find (λ (x : ConffileEntry). bytes_eq p.path x.path) es) (λ e is. found_path p.path es e is)
  where
    by : (o : Option ConffileEntry) → ((e : ConffileEntry) → o ≡ Some e → e.path ≡ p.path) → (renewed_entry o p).path ≡ p.path
    by None same = refl
    by (Some e) same = same e refl

has_shipped : (es : List ConffileEntry) (ps : List PendingDigest) (q : Path) → has_path (λ (e : ConffileEntry). e.path) (map (shipped_entry es) ps) q ≡ has_path (λ (p : PendingDigest). p.path) ps q
has_shipped es [] q = refl
has_shipped es (p ∷ ps) q = λ i. bytes_eq q (shipped_path es p i) || has_shipped es ps q i

none_left : (es : List ConffileEntry) (q : Path) → AllByRecursion (λ (e : ConffileEntry). bytes_eq q e.path ≡ false) es → has_path (λ (e : ConffileEntry). e.path) es q ≡ false
none_left [] q all = refl
none_left (e ∷ es) q all = or_from (bytes_eq q e.path) (has_path (λ (x : ConffileEntry). x.path) es q) all.0 (none_left es q all.1)

each : (P : ConffileEntry → Type 0) → ((e : ConffileEntry) → P e) → (es : List ConffileEntry) → AllByRecursion P es
each P holds [] = tt
each P holds (e ∷ es) = (holds e, each P holds es)

apart_shipped : (shipped : List PendingDigest) (i : ℕ) (d : PendingDigest) (q : Path) → i < length shipped → has_pending shipped q ≡ false → bytes_eq (get_or shipped i d).path q ≡ false
apart_shipped [] i d q lt none = absurd (omega (arith, lt))
apart_shipped (p ∷ ps) zero d q lt none =
    false_from_ne_true (bytes_eq p.path q) (λ t. true≢false (sym ((bytes_eq-Decides q p.path).1 (sym ((bytes_eq-Decides p.path q).0 t))) ∙ (or_parts (bytes_eq q p.path) (has_pending ps q) none).0))
apart_shipped (p ∷ ps) (suc i) d q lt none = apart_shipped ps i d q (omega (arith, lt)) (or_parts (bytes_eq q p.path) (has_pending ps q) none).1

pub shipped_new : (es : List ConffileEntry) (shipped : List PendingDigest) (flagged : List Path) (ships : Path → Bool) (i : ℕ) (p : PendingDigest) (e : ConffileEntry) (so_far : List ConffileEntry) → i < length shipped → p ≡ get_or shipped i p
    → are_apart (map (λ (x : PendingDigest). x.path) shipped) ≡ true → e ≡ shipped_entry es p → so_far ≡ all_placed_by (λ (x : ConffileEntry). x.path) (left_entries es shipped flagged ships) (map (shipped_entry es) (take i shipped))
    → has_path (λ (x : ConffileEntry). x.path) so_far e.path ≡ false
shipped_new es shipped flagged ships i p e so_far lt at apart is before =
    let path : e.path ≡ (get_or shipped i p).path = ap (λ (x : ConffileEntry). x.path) is ∙ shipped_path es p ∙ ap (λ (x : PendingDigest). x.path) at in
    let q = (get_or shipped i p).path in
    ap (has_path (λ (x : ConffileEntry). x.path) so_far) path ∙ ap (λ l. has_path (λ (x : ConffileEntry). x.path) l q) before
    ∙ has_all_placed (λ (x : ConffileEntry). x.path) (left_entries es shipped flagged ships) (map (shipped_entry es) (take i shipped)) q
    (none_left (left_entries es shipped flagged ships) q
    (all_left shipped flagged ships (λ r. bytes_eq q r ≡ false) es (each (λ x. has_pending shipped x.path ≡ false → bytes_eq q x.path ≡ false) (λ x none. apart_shipped shipped i p x.path lt none) es)))
    (has_shipped es (take i shipped) q ∙ new_at (λ (x : PendingDigest). x.path) shipped i p lt apart)

pub shipped_more : (es : List ConffileEntry) (shipped : List PendingDigest) (left : List ConffileEntry) (i : ℕ) (p : PendingDigest) (e : ConffileEntry) (so_far next : List ConffileEntry) → i < length shipped → p ≡ get_or shipped i p → e ≡ shipped_entry es p
    → so_far ≡ all_placed_by (λ (x : ConffileEntry). x.path) left (map (shipped_entry es) (take i shipped)) → next ≡ placed_by (λ (x : ConffileEntry). x.path) e so_far → next ≡ all_placed_by (λ (x : ConffileEntry). x.path) left (map (shipped_entry es) (take (i + 1) shipped))
shipped_more es shipped left i p e so_far next lt at is before n =
    n ∙ ap (placed_by (λ (x : ConffileEntry). x.path) e) before ∙ ap (λ x. placed_by (λ (y : ConffileEntry). y.path) x (all_placed_by (λ (y : ConffileEntry). y.path) left (map (shipped_entry es) (take i shipped)))) (is ∙ ap (shipped_entry es) at)
    ∙ sym (all_placed_more (λ (x : ConffileEntry). x.path) left (map (shipped_entry es) (take i shipped)) (shipped_entry es (get_or shipped i p)))
    ∙ ap (all_placed_by (λ (x : ConffileEntry). x.path) left) (sym (ap (map (shipped_entry es)) (take_more shipped i p lt) ∙ map-append (shipped_entry es) (take i shipped) (get_or shipped i p ∷ [])))
