-- Whether no list but that of one package is another than before.
use Rattle.std.proofs.Common.{◌≡◌, ◌≢◌, ◌↔◌, ◌||◌, ◌++◌, ℕ, zero, suc, Bool, true, false, cond, not, List, [], ◌∷◌, filter, take, length, nat_eq, refl, sym, ap, subst, ◌∙◌, arith, Contains}
use Rattle.std.specs.Prelude.{Result, Ok, Err, IfOk, OnOk}
use Rattle.std.specs.List.{list_any}
use Rattle.std.specs.Str.{bytes_eq}
use Rattle.std.specs.Ordering.{nat_cmp, is_lt, ordering_reverse}
use Rattle.std.specs.Cmp.Lexicographic.{slice_cmp}
use Rattle.std.specs.declared.cmp.Ordering.{Ordering}
use Rattle.std.specs.declared.cmp.Ordering.TheVariants.{Less, Equal, Greater}
use Rattle.std.proofs.Math.Seq.{take-append_seam}
use Rattle.std.proofs.lemmas.Bool.{eqb-true, false_from_ne_true, true≢false}
use Rattle.std.proofs.lemmas.Cmp.{nat_list_cmp_total}
use Rattle.std.proofs.lemmas.List.{append-nil}
use Rattle.std.proofs.lemmas.Map.Lookups.{exact_bytes}
use Rattle.std.proofs.lemmas.Slice.Eq.{bytes_eq-Decides}
use Rattle.host_core.specs.Paths.{Path}
use Rattle.diversions.specs.Ways.{Ways}
use Rattle.file_lists.specs.Beside.{AreSameBeside, lists_before, lists_behind}
use Rattle.file_lists.specs.Filed.{Filed}
use Rattle.file_lists.specs.Owners.{paths_of}
use Rattle.file_lists.specs.Taking.{without_all}
use Rattle.file_lists.specs.Writing.{with_list}
use Rattle.file_lists.specs.declared.paths.PackageList.{PackageList}
use Rattle.file_lists.proofs.SameBeside.{same_then, with_beside}
use Rattle.file_lists.proofs.TakingAll.{paths_with}
use Rattle.package_files.specs.declared.work.Work.{Work}
use Rattle.unpack_commit.specs.Commit.{Changes, committed_lists}
use Rattle.unpack_commit.specs.Takeover.{is_at, losers, taken_places}
use Rattle.unpack_plan.specs.declared.plan.PlannedCommit.{PlannedCommit}
use Rattle.unpack_rows.specs.Stages.{Stage, Unwritten, Wrote, Restored}
use Rattle.unpack_steps.specs.Task.{Task, lists_at, name, places_at, shipped_places}
use Rattle.unpack_engine.specs.Endings.{changes_from}
use Rattle.unpack_engine.specs.Others.{yields_beside}
use Rattle.unpack_engine.proofs.ListEnds.{paths_taken}
use Rattle.unpack_engine.proofs.Losing.{kept_passes, loser_other}

module _ (own : List ℕ) where
  pub same_here : (lists : List PackageList) → AreSameBeside own lists lists
  same_here lists = record { before = refl; behind = refl }

  same_back : (old new : List PackageList) → AreSameBeside own old new → AreSameBeside own new old
  same_back old new same = record { before = sym same.before; behind = sym same.behind }

  module _ (q : List ℕ) where
    -- where all lists of the name are kept, it lists the same
    kept_lists : (keep : PackageList → Bool) → ((l : PackageList) → l.name ≡ q → keep l ≡ true) → (lists : List PackageList) → paths_of (filter keep lists) q ≡ paths_of lists q
    kept_lists keep all [] = refl
    kept_lists keep all (l ∷ lists) = by (bytes_eq q l.name) refl (keep l) refl (kept_lists keep all lists)
      where
        by : (b : Bool) → bytes_eq q l.name ≡ b → (k : Bool) → keep l ≡ k → paths_of (filter keep lists) q ≡ paths_of lists q
            → paths_of (cond k (l ∷ filter keep lists) (filter keep lists)) q ≡ cond b l.paths (paths_of lists q)
        by true e true k rest = ap (λ b. cond b l.paths (paths_of (filter keep lists) q)) e
        by true e false k rest = absurd (true≢false (sym (all l (sym ((bytes_eq-Decides q l.name).0 e))) ∙ k))
        by false e true k rest = ap (λ b. cond b l.paths (paths_of (filter keep lists) q)) e ∙ rest
        by false e false k rest = rest

    -- another package lists what it did
    same_paths : (old new : List PackageList) → q ≢ own → AreSameBeside own old new → paths_of new q ≡ paths_of old q
    same_paths old new other same = by (slice_cmp nat_cmp q own) refl
      where
        by : (o : Ordering) → slice_cmp nat_cmp q own ≡ o → paths_of new q ≡ paths_of old q
        by Less e =
            let all = λ (l : PackageList) (is : l.name ≡ q). ap (λ (n : List ℕ). is_lt (slice_cmp nat_cmp n own)) is ∙ ap is_lt e in
            sym (kept_lists (λ l. is_lt (slice_cmp nat_cmp l.name own)) all new) ∙ ap (λ (ls : List PackageList). paths_of ls q) same.before ∙ kept_lists (λ l. is_lt (slice_cmp nat_cmp l.name own)) all old
        by Equal e = absurd (other (exact_bytes q own e))
        by Greater e =
            let all = λ (l : PackageList) (is : l.name ≡ q). ap (λ (n : List ℕ). is_lt (slice_cmp nat_cmp own n)) is ∙ ap is_lt (nat_list_cmp_total.antisymm own q ∙ ap ordering_reverse e) in
            sym (kept_lists (λ l. is_lt (slice_cmp nat_cmp own l.name)) all new) ∙ ap (λ (ls : List PackageList). paths_of ls q) same.behind ∙ kept_lists (λ l. is_lt (slice_cmp nat_cmp own l.name)) all old

  -- none of those that pass a test are left without them
  none_left : {X : Type 0} (test : X → Bool) (xs : List X) → list_any test (filter (λ x. not (test x)) xs) ≡ false
  none_left test [] = refl
  none_left test (x ∷ xs) = by (test x) refl (none_left test xs)
    where
      by : (b : Bool) → test x ≡ b → list_any test (filter (λ y. not (test y)) xs) ≡ false → list_any test (cond (not b) (x ∷ filter (λ y. not (test y)) xs) (filter (λ y. not (test y)) xs)) ≡ false
      by true e rest = rest
      by false e rest = ap (λ b. b || list_any test (filter (λ y. not (test y)) xs)) e ∙ rest

  -- a package that lost places has another list
  module _ (ways : Ways) (places listed : List Path) (had : List PackageList) (yields : List (List ℕ)) where
    abbrev those : List (List ℕ)
    those = losers ways places had (yields_beside own yields)

    abbrev left : List (List ℕ) → List PackageList
    left names = without_all ways places names (with_list own listed had)

    loser_differs : (q : List ℕ) → Contains those q → AreSameBeside own had (left those) → ⊥
    loser_differs q has same =
        let other = loser_other ways places had own yields q has in
        let with_is : paths_of (with_list own listed had) q ≡ paths_of had q =
        paths_with had own q listed ∙ ap (λ b. cond b listed (paths_of had q)) (false_from_ne_true (bytes_eq q own) (λ e. other ((bytes_eq-Decides q own).0 e))) in
        let taken : paths_of (left those) q ≡ filter (λ path. not (is_at ways places q path)) (paths_of had q) =
        paths_taken ways places those (with_list own listed had) q has ∙ ap (filter (λ path. not (is_at ways places q path))) with_is in
        let all : filter (λ path. not (is_at ways places q path)) (paths_of had q) ≡ paths_of had q = sym taken ∙ same_paths q had (left those) other same in
        absurd (true≢false (sym (kept_passes (λ n. list_any (is_at ways places n) (paths_of had n)) (yields_beside own yields) q has)
        ∙ ap (list_any (is_at ways places q)) (sym all) ∙ none_left (is_at ways places q) (paths_of had q)))

    pub alone_is : (alone : Bool) → alone ≡ nat_eq (length those) 0 → (alone ≡ true) ↔ AreSameBeside own had (left those)
    alone_is alone is = by those refl
      where
        by : (names : List (List ℕ)) → those ≡ names → (alone ≡ true) ↔ AreSameBeside own had (left those)
        by [] e = (
          λ yes. subst (λ (ns : List (List ℕ)). AreSameBeside own had (left ns)) (sym e) (with_beside own listed had),
          λ same. is ∙ ap (λ (ns : List (List ℕ)). nat_eq (length ns) 0) e,
        )
        by (q ∷ names) e = (
          λ yes. absurd (omega (arith, eqb-true (length (q ∷ names)) 0 (sym (is ∙ ap (λ (ns : List (List ℕ)). nat_eq (length ns) 0) e) ∙ yes))),
          λ same. absurd (loser_differs q (subst (λ (ns : List (List ℕ)). Contains ns q) (sym e) (zero, omega arith, refl)) same),
        )

  -- behind lists that are the same but for the name's
  pub alone_then : (old mid new : List PackageList) (alone : Bool) → AreSameBeside own old mid → (alone ≡ true) ↔ AreSameBeside own mid new → (alone ≡ true) ↔ AreSameBeside own old new
  alone_then old mid new alone first is = (
    λ yes. same_then own old mid new first (is.0 yes),
    λ same. is.1 (same_then own mid old new (same_back old mid first) same),
  )

-- so of a commit
pub alone_committed : {T E : Type 0} (result : Result T E) (alone : T → Bool) (own : List ℕ) (yields : List (List ℕ)) (ways : Ways) (had new : Filed) (works : List Work) (commit : PlannedCommit) (made : Changes) → made ≡ changes_from own yields ways had.lists works commit
    → IfOk result (λ f. alone f ≡ nat_eq (length made.losers) 0) → OnOk result (new ≡ record had { lists = committed_lists made ways had.lists }) → IfOk result (λ f. (alone f ≡ true) ↔ AreSameBeside own had.lists new.lists)
alone_committed (Ok f) alone own yields ways had new works commit made is none same =
    let lists_are = ap (λ (x : Filed). x.lists) same ∙ ap (λ (c : Changes). committed_lists c ways had.lists) is in
    let counted = none ∙ ap (λ (c : Changes). nat_eq (length c.losers) 0) is in
    subst (λ (ls : List PackageList). (alone f ≡ true) ↔ AreSameBeside own had.lists ls) (sym lists_are) (alone_is own ways (taken_places works) commit.new_list had.lists yields (alone f) counted)
alone_committed (Err e) alone own yields ways had new works commit made is none same = tt

-- while the rows run no list but the package's changes
pub rows_beside : (t : Task) (stage : Stage) → AreSameBeside (name t) t.lists (lists_at t stage)
rows_beside t Unwritten = same_here (name t) t.lists
rows_beside t Wrote = with_beside (name t) t.union t.lists
rows_beside t Restored = same_then (name t) t.lists (with_list (name t) t.union t.lists) (with_list (name t) t.listed (with_list (name t) t.union t.lists)) (with_beside (name t) t.union t.lists) (with_beside (name t) t.listed (with_list (name t) t.union t.lists))

-- the places that scripts leave alone begin with those of before
pub places_first : (t : Task) (stage : Stage) → take (length t.places) (places_at t stage) ≡ t.places
places_first t stage = by stage
  where
    all : take (length t.places) t.places ≡ t.places
    all = ap (take (length t.places)) (sym (append-nil t.places)) ∙ take-append_seam t.places []

    by : (s : Stage) → take (length t.places) (places_at t s) ≡ t.places
    by Unwritten = all
    by Wrote = take-append_seam t.places (shipped_places t)
    by Restored = all

-- so of an answer
pub places_begin : {T E : Type 0} (result : Result T E) (t : Task) (stage : Stage) (places : List Path) → places ≡ places_at t stage → OnOk result (take (length t.places) places ≡ t.places)
places_begin (Ok x) t stage places is = ap (take (length t.places)) is ∙ places_first t stage
places_begin (Err e) t stage places is = tt
