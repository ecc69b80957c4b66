-- The works of what a package ships.
use Rattle.std.proofs.Common.{◌≡◌, ◌≤◌, ◌<◌, ◌||◌, ◌++◌, not, ℕ, zero, suc, Bool, true, false, cond, Contains, List, [], ◌∷◌, Some, map, length, get_or, Result, Ok, Err, refl, sym, ap, ◌∙◌, arith}
use Rattle.std.specs.Prelude.{◌&&◌, filter, IfOk}
use Rattle.std.specs.List.{list_any}
use Rattle.std.specs.Str.{bytes_eq}
use Rattle.std.proofs.lemmas.Bool.{and_parts, false_from_ne_true, true≢false}
use Rattle.std.proofs.lemmas.List.{append-nil, map-append}
use Rattle.std.proofs.lemmas.List.Elements.{Contains-append_right, filter-append}
use Rattle.std.proofs.lemmas.List.Folds.{list_any-append}
use Rattle.host_core.specs.Paths.{Path}
use Rattle.host_core.specs.World.{is_directory}
use Rattle.host_core.specs.declared.node.Node.{Node}
use Rattle.host_core.specs.declared.node.Node.TheVariants.{File, Dir, Link}
use Rattle.aliases.specs.Reading.{is_link}
use Rattle.diversions.specs.Ways.{Ways, place}
use Rattle.file_lists.specs.Increasing.{IsBefore}
use Rattle.file_lists.proofs.Entries.{any_contains}
use Rattle.file_lists.proofs.Finding.{nowhere}
use Rattle.package_files.specs.Files.{Each}
use Rattle.package_files.specs.Works.{target_of}
use Rattle.package_files.specs.declared.work.Work.{Work}
use Rattle.file_check.specs.Ready.{IsFitting}
use Rattle.file_check.specs.Ships.{are_one_directory, directories_once, is_at_alias, is_conffile, is_there, shipped_works, work_at, FitsConffiles}

-- where nothing is left between those before and those behind it a path is none of them
pub none_of : (paths : List Path) (path : Path) (low high : ℕ) → high ≤ low → ((k : ℕ) → k < low → IsBefore (get_or paths k []) path) → ((k : ℕ) → high ≤ k → k < length paths → IsBefore path (get_or paths k [])) → false ≡ is_conffile paths path
none_of paths path low high met before behind =
    sym (false_from_ne_true (is_conffile paths path) (λ t. nowhere paths path low high met before behind (any_contains paths path t)))

-- some of a list's works

later : (s : Work) (ss : List Work) (x : Work) → Contains ss x → Contains (s ∷ ss) x
later s ss x there = Contains-append_right (s ∷ []) ss x there

in_filter : (f : Work → Bool) (xs : List Work) (x : Work) → Contains (filter f xs) x → Contains xs x
in_filter f [] x there = there
in_filter f (y ∷ xs) x there = by (in_filter f xs x) (f y) there
  where
    by : (Contains (filter f xs) x → Contains xs x) → (b : Bool) → Contains (cond b (y ∷ filter f xs) (filter f xs)) x → Contains (y ∷ xs) x
    by among false rest = later y xs x (among rest)
    by among true (zero, lt, is) = (zero, omega arith, is)
    by among true (suc k, lt, is) = later y xs x (among (k, omega (arith, lt), is))

each_filter : (P : Work → Type 0) (f : Work → Bool) (xs : List Work) → Each P xs → Each P (filter f xs)
each_filter P f [] all = tt
each_filter P f (y ∷ xs) all = by (each_filter P f xs all.1) (f y)
  where
    by : Each P (filter f xs) → (b : Bool) → Each P (cond b (y ∷ filter f xs) (filter f xs))
    by rest false = rest
    by rest true = (all.0, rest)

-- each directory once

pub in_once : (works : List Work) (x : Work) → Contains (directories_once works) x → Contains works x
in_once [] x there = there
in_once (s ∷ ss) x (zero, lt, is) = (zero, omega arith, is)
in_once (s ∷ ss) x (suc k, lt, is) =
    later s ss x (in_once ss x (in_filter (λ y. not (are_one_directory s y)) (directories_once ss) x (k, omega (arith, lt), is)))

pub each_once : (P : Work → Type 0) (works : List Work) → Each P works → Each P (directories_once works)
each_once P [] all = tt
each_once P (s ∷ ss) all = (all.0, each_filter P (λ y. not (are_one_directory s y)) (directories_once ss) (each_once P ss all.1))

-- a directory of these works has the place
abbrev pub has_directory : List Work → Path → Bool
has_directory works q = list_any (λ s. is_directory (Some s.node) && bytes_eq q s.place) works

-- a further work
abbrev pub once_more : List Work → Work → List Work
once_more works x = cond (is_directory (Some x.node) && has_directory works x.place) [] (x ∷ [])

once_next : (a : List Work) (x : Work) → directories_once (a ++ x ∷ []) ≡ directories_once a ++ once_more a x
once_next [] x = by (is_directory (Some x.node))
  where
    by : (d : Bool) → x ∷ [] ≡ cond (d && false) [] (x ∷ [])
    by false = refl
    by true = refl
once_next (t ∷ a) x =
    ap (λ (l : List Work). t ∷ l)
    (ap (filter other) (once_next a x) ∙ filter-append other (directories_once a) (once_more a x)
    ∙ ap (λ (l : List Work). filter other (directories_once a) ++ l) (inside (is_directory (Some x.node) && has_directory a x.place) ∙ by (is_directory (Some t.node)) (is_directory (Some x.node)) (bytes_eq x.place t.place) (has_directory a x.place)))
  where
    other : Work → Bool
    other y = not (are_one_directory t y)

    inside : (c : Bool) → filter other (cond c [] (x ∷ [])) ≡ cond c [] (cond (other x) (x ∷ []) [])
    inside true = refl
    inside false = refl

    by : (dt dx here before : Bool) → cond (dx && before) [] (cond (not (dt && (dx && here))) (x ∷ []) []) ≡ cond (dx && ((dt && here) || before)) [] (x ∷ [])
    by true true true true = refl
    by true true true false = refl
    by true true false true = refl
    by true true false false = refl
    by true false here before = refl
    by false true here true = refl
    by false true here false = refl
    by false false here before = refl

-- a link is no directory
pub no_directory : (ways : Ways) (s : Work) → is_there ways s ≡ true → is_directory (Some s.node) ≡ false
no_directory ways s is = by s.node (and_parts (is_link (Some s.node)) _ (and_parts (is_at_alias ways s) _ is).0).0
  where
    by : (n : Node) → is_link (Some n) ≡ true → is_directory (Some n) ≡ false
    by (File b m) e = refl
    by (Dir m) e = absurd (true≢false (sym e))
    by (Link t) e = refl

or_false : (b : Bool) → b || false ≡ b
or_false true = refl
or_false false = refl

module _ (ways : Ways) (name : List ℕ) (conffiles : List Path) where
  abbrev works_at : List (Path × Node) → List Work
  works_at shipped = map (work_at ways name conffiles) shipped

  abbrev goes_in : Work → Bool
  goes_in s = not (is_there ways s)

  -- without links that are there
  abbrev pub written : List (Path × Node) → List Work
  written shipped = filter goes_in (works_at shipped)

  each_fits : (shipped : List (Path × Node)) → FitsConffiles conffiles shipped → Each IsFitting (works_at shipped)
  each_fits [] all = tt
  each_fits (s ∷ ss) all = (λ no_file. ap (target_of (place ways name s.0)) (all.0 no_file), each_fits ss all.1)

  pub fits : (shipped : List (Path × Node)) → FitsConffiles conffiles shipped → Each IsFitting (shipped_works ways name conffiles shipped)
  fits shipped all = each_once IsFitting (written shipped) (each_filter IsFitting goes_in (works_at shipped) (each_fits shipped all))

  work_there : (shipped : List (Path × Node)) (x : Work) → Contains (works_at shipped) x → (s : Path × Node) × Contains shipped s × (x ≡ work_at ways name conffiles s)
  work_there [] x there = absurd (omega (arith, there.1))
  work_there (s ∷ ss) x (zero, lt, is) = (s, (zero, omega arith, refl), sym is)
  work_there (s ∷ ss) x (suc k, lt, is) =
      let more = work_there ss x (k, omega (arith, lt), is) in
      (more.0, Contains-append_right (s ∷ []) ss more.0 more.1, more.2)

  -- each work is that of a shipped path
  pub shipped_at : (shipped : List (Path × Node)) (x : Work) → Contains (shipped_works ways name conffiles shipped) x → (s : Path × Node) × Contains shipped s × (x ≡ work_at ways name conffiles s)
  shipped_at shipped x there = work_there shipped x (in_filter goes_in (works_at shipped) x (in_once (written shipped) x there))

  -- a further path
  module _ (shipped : List (Path × Node)) (s : Path × Node) where
    abbrev this : Work
    this = work_at ways name conffiles s

    written_next : written (shipped ++ s ∷ []) ≡ written shipped ++ filter goes_in (this ∷ [])
    written_next = ap (filter goes_in) (map-append (work_at ways name conffiles) shipped (s ∷ [])) ∙ filter-append goes_in (works_at shipped) (this ∷ [])

    works_next : shipped_works ways name conffiles (shipped ++ s ∷ [])
        ≡ shipped_works ways name conffiles shipped ++ cond (is_there ways this || (is_directory (Some this.node) && has_directory (written shipped) this.place)) [] (this ∷ [])
    works_next = ap directories_once written_next ∙ by (is_there ways this)
      where
        by : (b : Bool) → directories_once (written shipped ++ cond (not b) (this ∷ []) [])
            ≡ directories_once (written shipped) ++ cond (b || (is_directory (Some this.node) && has_directory (written shipped) this.place)) [] (this ∷ [])
        by true = ap directories_once (append-nil (written shipped)) ∙ sym (append-nil (directories_once (written shipped)))
        by false = once_next (written shipped) this

    adds : (q : Path) → has_directory (filter goes_in (this ∷ [])) q ≡ (is_directory (Some this.node) && bytes_eq q this.place)
    adds q = by (is_there ways this) (no_directory ways this)
      where
        by : (b : Bool) → (b ≡ true → is_directory (Some this.node) ≡ false) → has_directory (cond (not b) (this ∷ []) []) q ≡ (is_directory (Some this.node) && bytes_eq q this.place)
        by true none = sym (ap (λ d. d && bytes_eq q this.place) (none refl))
        by false none = or_false (is_directory (Some this.node) && bytes_eq q this.place)

    module _ (x : Work) (at : x ≡ this) where
      pub places_next : (q : Path) (old new : Bool) → new ≡ (old || (is_directory (Some x.node) && bytes_eq q x.place)) → old ≡ has_directory (written shipped) q → new ≡ has_directory (written (shipped ++ s ∷ [])) q
      places_next q old new is was =
          is ∙ (λ i. was i || (is_directory (Some (at i).node) && bytes_eq q (at i).place))
          ∙ ap (λ b. has_directory (written shipped) q || b) (sym (adds q))
          ∙ sym (ap (λ (l : List Work). has_directory l q) written_next ∙ list_any-append (λ (y : Work). is_directory (Some y.node) && bytes_eq q y.place) (written shipped) (filter goes_in (this ∷ [])))

      module _ (old left : Bool) (had : old ≡ has_directory (written shipped) x.place) (told : left ≡ (is_there ways x || (is_directory (Some x.node) && old))) where
        more_is : cond left [] (x ∷ []) ≡ cond (is_there ways this || (is_directory (Some this.node) && has_directory (written shipped) this.place)) [] (this ∷ [])
        more_is = ap (λ b. cond b [] (x ∷ [])) (told ∙ ap (λ b. is_there ways x || (is_directory (Some x.node) && b)) had)
            ∙ ap (λ (y : Work). cond (is_there ways y || (is_directory (Some y.node) && has_directory (written shipped) y.place)) [] (y ∷ [])) at

        pub works_same : (works : List Work) → left ≡ true → works ≡ shipped_works ways name conffiles shipped → works ≡ shipped_works ways name conffiles (shipped ++ s ∷ [])
        works_same works is so_far =
            so_far ∙ sym (append-nil (shipped_works ways name conffiles shipped)) ∙ ap (λ (l : List Work). shipped_works ways name conffiles shipped ++ l) (ap (λ b. cond b [] (x ∷ [])) (sym is) ∙ more_is) ∙ sym works_next

        pub works_more : (works : List Work) → left ≡ false → works ≡ shipped_works ways name conffiles shipped → works ++ x ∷ [] ≡ shipped_works ways name conffiles (shipped ++ s ∷ [])
        works_more works is so_far =
            (λ i. so_far i ++ x ∷ []) ∙ ap (λ (l : List Work). shipped_works ways name conffiles shipped ++ l) (ap (λ b. cond b [] (x ∷ [])) (sym is) ∙ more_is) ∙ sym works_next

pub if_so : {T E : Type 0} (P Q : T → Type 0) → ((x : T) → P x → Q x) → (result : Result T E) → IfOk result P → IfOk result Q
if_so P Q so (Ok x) is = so x is
if_so P Q so (Err e) is = tt
