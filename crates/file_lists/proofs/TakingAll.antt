-- Paths taken out of list after list.
use Rattle.std.proofs.Common.{◌≡◌, ◌≢◌, ◌⊎◌, inl, inr, ℕ, Bool, true, false, cond, List, [], ◌∷◌, ◌++◌, Some, filter, length, get_or, reverse, refl, sym, ap, subst, ◌∙◌, arith, append_assoc, Contains, IsTrue}
use Rattle.std.specs.Prelude.{codes}
use Rattle.std.specs.List.{fold}
use Rattle.std.specs.Str.{bytes_eq}
use Rattle.std.specs.Ordering.{nat_cmp, match_ordering}
use Rattle.std.specs.Cmp.Lexicographic.{slice_cmp}
use Rattle.std.specs.declared.cmp.Ordering.{Ordering}
use Rattle.std.specs.declared.cmp.Ordering.TheVariants.{Less, Equal, Greater}
use Rattle.std.proofs.lemmas.Bool.{false≢true}
use Rattle.std.proofs.lemmas.Cmp.{tied_itself, nat_list_cmp_total}
use Rattle.std.proofs.lemmas.List.{append_cancel_left, append_cancel_right, append-nil, reverse-append}
use Rattle.std.proofs.lemmas.Map.Lookups.{exact_bytes}
use Rattle.std.proofs.lemmas.Slice.Eq.{bytes_eq-Decides}
use Rattle.host_core.specs.Paths.{Path}
use Rattle.host_core.specs.World.{World, IsDirectory}
use Rattle.host_core.specs.Host.{State, Since}
use Rattle.host_core.proofs.Moments.{since_now, since_then, since_weaker_if}
use Rattle.administration.specs.Files.{NoDirectory, IsReplacing, IsReplaced}
use Rattle.administration.specs.Places.{info_path, list_path, list_name, temporary}
use Rattle.diversions.specs.Ways.{Ways}
use Rattle.file_lists.specs.declared.paths.PackageList.{PackageList}
use Rattle.file_lists.specs.Owners.{paths_of}
use Rattle.file_lists.specs.Taking.{left_file, IsTaking}
use Rattle.file_lists.specs.Writing.{package_list, with_list, left_paths, list_file, IsListReady}

-- Names of lists and their temporary names.

-- the fifth byte from the end
abbrev sign : Path → ℕ
sign path = get_or (reverse path) 4 0

sign-append : (a e : Path) → sign (a ++ e) ≡ get_or (reverse e ++ reverse a) 4 0
sign-append a e = ap (λ l. get_or l 4 0) (reverse-append a e)

list_lasting : (name : List ℕ) (path : Path) → list_path name ≢ temporary path
list_lasting name path e =
    let list_sign : sign (list_path name) ≡ 46 = ap sign (sym (append_assoc (codes "/var/lib/dpkg/info/") name (codes ".list"))) ∙ sign-append (codes "/var/lib/dpkg/info/" ++ name) (codes ".list") in
    let spare_sign : sign (temporary path) ≡ 45 = sign-append path (codes ".dpkg-inst") in
    let same : 46 ≡ 45 = sym list_sign ∙ ap sign e ∙ spare_sign in
    absurd (omega (arith, same))

same_name : (name other : List ℕ) → list_path name ≡ list_path other → name ≡ other
same_name name other e = append_cancel_right name other (codes ".list") (append_cancel_left (codes "/var/lib/dpkg/info/") (list_name name) (list_name other) e)

same_spare : (name other : List ℕ) → temporary (list_path name) ≡ temporary (list_path other) → name ≡ other
same_spare name other e = same_name name other (append_cancel_right (list_path name) (list_path other) (codes ".dpkg-inst") e)

info_apart : (name : List ℕ) → (info_path ≢ list_path name) × (info_path ≢ temporary (list_path name))
info_apart name = (λ e. absurd (omega (arith, ap length e)), λ e. absurd (omega (arith, ap length e)))

-- The paths of a name behind a change.

pub paths_with : (lists : List PackageList) (m n : List ℕ) (paths : List Path) → paths_of (with_list m paths lists) n ≡ cond (bytes_eq n m) paths (paths_of lists n)
paths_with [] m n paths = refl
paths_with (l ∷ lists) m n paths = by (slice_cmp nat_cmp m l.name) refl (paths_with lists m n paths)
  where
    exchange : (b c : Bool) → (b ≡ true → c ≡ true → ⊥) → cond b l.paths (cond c paths (paths_of lists n)) ≡ cond c paths (cond b l.paths (paths_of lists n))
    exchange true true both = absurd (both refl refl)
    exchange true false both = refl
    exchange false c both = refl

    once : (b : Bool) → cond b paths (paths_of lists n) ≡ cond b paths (cond b l.paths (paths_of lists n))
    once true = refl
    once false = refl

    by : (o : Ordering) → slice_cmp nat_cmp m l.name ≡ o → paths_of (with_list m paths lists) n ≡ cond (bytes_eq n m) paths (paths_of lists n)
        → paths_of (match_ordering o (package_list m paths ∷ l ∷ lists) (package_list m paths ∷ lists) (l ∷ with_list m paths lists)) n ≡ cond (bytes_eq n m) paths (cond (bytes_eq n l.name) l.paths (paths_of lists n))
    by Less e rest = refl
    by Equal e rest = once (bytes_eq n m) ∙ ap (λ (x : List ℕ). cond (bytes_eq n m) paths (cond (bytes_eq n x) l.paths (paths_of lists n))) (exact_bytes m l.name e)
    by Greater e rest =
        ap (cond (bytes_eq n l.name) l.paths) rest
        ∙ exchange (bytes_eq n l.name) (bytes_eq n m) (λ first second. (let same : m ≡ l.name = sym ((bytes_eq-Decides n m).0 second) ∙ (bytes_eq-Decides n l.name).0 first in
        let tied = sym e ∙ ap (slice_cmp nat_cmp m) (sym same) ∙ tied_itself nat_list_cmp_total m in let f : Greater ≡ Equal = tied in absurd cc))

filter_twice : (test : Path → Bool) (paths : List Path) → filter test (filter test paths) ≡ filter test paths
filter_twice test [] = refl
filter_twice test (p ∷ paths) = by (test p) refl (filter_twice test paths)
  where
    by : (b : Bool) → test p ≡ b → filter test (filter test paths) ≡ filter test paths → filter test (cond b (p ∷ filter test paths) (filter test paths)) ≡ cond b (p ∷ filter test paths) (filter test paths)
    by true e rest = ap (λ b. cond b (p ∷ filter test (filter test paths)) (filter test (filter test paths))) e ∙ ap (λ (l : List Path). p ∷ l) rest
    by false e rest = rest

-- what would be left of each list stays the same
pub lefts_step : (ways : Ways) (places : List Path) (had lists next : List PackageList) (m : List ℕ) → ((n : List ℕ) → left_paths ways places n (paths_of lists n) ≡ left_paths ways places n (paths_of had n))
    → next ≡ with_list m (left_paths ways places m (paths_of lists m)) lists → (n : List ℕ) → left_paths ways places n (paths_of next n) ≡ left_paths ways places n (paths_of had n)
lefts_step ways places had lists next m before is n =
    ap (λ (l : List PackageList). left_paths ways places n (paths_of l n)) is ∙ ap (left_paths ways places n) (paths_with lists m n (left_paths ways places m (paths_of lists m)))
    ∙ by (bytes_eq n m) refl
  where
    by : (b : Bool) → bytes_eq n m ≡ b → left_paths ways places n (cond b (left_paths ways places m (paths_of lists m)) (paths_of lists n)) ≡ left_paths ways places n (paths_of had n)
    by true e =
        ap (λ (x : List ℕ). left_paths ways places n (left_paths ways places x (paths_of lists x))) (sym ((bytes_eq-Decides n m).0 e)) ∙ filter_twice _ (paths_of lists n) ∙ before n
    by false e = before n

pub fold_last : {A B : Type 0} (f : B → A → B) (a : B) (xs : List A) (x : A) → fold f a (xs ++ x ∷ []) ≡ f (fold f a xs) x
fold_last f a [] x = refl
fold_last f a (y ∷ xs) x = fold_last f (f a y) xs x

-- Moment by moment.

pub taking_start : (ways : Ways) (places : List Path) (names : List (List ℕ)) (had : List PackageList) (w : World) → ((name : List ℕ) → Contains names name → IsListReady name w) → IsTaking ways places names had w w
taking_start ways places names had w ready = record { lists = λ name has. inl refl; spares = λ name has. (ready name has).spare; rest = λ q none. refl }

pub since_start_if : (P : World → Type 0) (s : State) → (IsTrue s.honest → P s.world) → Since (λ so_far. P) s s
since_start_if P s here = record { added = []; events = sym (append-nil s.events); honest = λ h. h; world = refl; each = here }

pub taking_step : (ways : Ways) (places : List Path) (names : List (List ℕ)) (had : List PackageList) (old mid now : World) (m : List ℕ) → Contains names m → IsTaking ways places names had old mid → IsReplacing (list_path m) (left_file ways places had m) mid now
    → IsTaking ways places names had old now
taking_step ways places names had old mid now m named amid replacing = record {
  lists = λ name has. list name has (bytes_eq name m) refl;
  spares = λ name has. spare name has (bytes_eq name m) refl;
  rest = λ q none. replacing.rest q (none m named).0 (none m named).1 ∙ amid.rest q none;
}
  where
    list : (name : List ℕ) → Contains names name → (b : Bool) → bytes_eq name m ≡ b → (now (list_path name) ≡ old (list_path name)) ⊎ (now (list_path name) ≡ Some (left_file ways places had name))
    list name has true e =
        let same = (bytes_eq-Decides name m).0 e in
        subst (λ (x : List ℕ). (now (list_path x) ≡ old (list_path x)) ⊎ (now (list_path x) ≡ Some (left_file ways places had x))) (sym same) (elim replacing.target [
          | inl kept ↦ (elim (amid.lists m named) [ inl before ↦ inl (kept ∙ before) | inr written ↦ inr (kept ∙ written) ])
          | inr written ↦ inr written
        ])
    list name has false e =
        let other : list_path name ≢ list_path m = λ same. false≢true (sym e ∙ (bytes_eq-Decides name m).1 (same_name name m same)) in
        let kept = replacing.rest (list_path name) other (list_lasting name (list_path m)) in
        elim (amid.lists name has) [ inl before ↦ inl (kept ∙ before) | inr written ↦ inr (kept ∙ written) ]

    spare : (name : List ℕ) → Contains names name → (b : Bool) → bytes_eq name m ≡ b → NoDirectory (now (temporary (list_path name)))
    spare name has true e = subst (λ (x : List ℕ). NoDirectory (now (temporary (list_path x)))) (sym ((bytes_eq-Decides name m).0 e)) replacing.spare
    spare name has false e =
        let kept = replacing.rest (temporary (list_path name)) (λ same. list_lasting m (list_path name) (sym same)) (λ same. false≢true (sym e ∙ (bytes_eq-Decides name m).1 (same_spare name m same))) in
        subst NoDirectory (sym kept) (amid.spares name has)

pub ready_now : (ways : Ways) (places : List Path) (names : List (List ℕ)) (had : List PackageList) (old now : World) (name : List ℕ) → Contains names name → IsListReady name old → IsTaking ways places names had old now → IsListReady name now
ready_now ways places names had old now name has ready taking = record {
  info = subst IsDirectory (sym (taking.rest info_path (λ m there. info_apart m))) ready.info;
  target = elim (taking.lists name has) [
    | inl before ↦ subst NoDirectory (sym before) ready.target
    | inr written ↦ subst NoDirectory (sym written) (λ d. absurd (let e : Some (left_file ways places had name) ≡ _ = d.1 in cc))
  ];
  spare = taking.spares name has;
}

-- the lists that were taken from so far stay as they were written
pub taken_step : (ways : Ways) (places : List Path) (had : List PackageList) (mid now : World) (m name : List ℕ) → mid (list_path name) ≡ Some (left_file ways places had name) → IsReplaced (list_path m) (left_file ways places had m) mid now → now (list_path name) ≡ Some (left_file ways places had name)
taken_step ways places had mid now m name before replaced = by (bytes_eq name m) refl
  where
    by : (b : Bool) → bytes_eq name m ≡ b → now (list_path name) ≡ Some (left_file ways places had name)
    by true e = subst (λ (x : List ℕ). now (list_path x) ≡ Some (left_file ways places had x)) (sym ((bytes_eq-Decides name m).0 e)) replaced.target
    by false e = replaced.rest (list_path name) (λ same. false≢true (sym e ∙ (bytes_eq-Decides name m).1 (same_name name m same))) (list_lasting name (list_path m)) ∙ before

-- one list more is written
pub since_more : (ways : Ways) (places : List Path) (names : List (List ℕ)) (had lists : List PackageList) (a b c : State) (m : List ℕ) → Contains names m → left_paths ways places m (paths_of lists m) ≡ left_paths ways places m (paths_of had m)
    → Since (λ so_far. IsTaking ways places names had a.world) a b → Since (λ so_far. IsReplacing (list_path m) (list_file (left_paths ways places m (paths_of lists m))) b.world) b c → Since (λ so_far. IsTaking ways places names had a.world) a c
since_more ways places names had lists a b c m named left first second =
    since_then (λ so_far. IsTaking ways places names had a.world) a b c first
    (since_weaker_if _ _ b c (λ h so_far w is. taking_step ways places names had a.world b.world w m named (since_now _ a b first (second.honest h)) (subst (λ (ps : List Path). IsReplacing (list_path m) (list_file ps) b.world w) left is)) second)
