-- Names that are cleared lie outside the administration.
use Rattle.std.proofs.Common.{◌≡◌, ℕ, Bool, true, false, not, cond, List, [], ◌∷◌, ◌++◌, refl, ap, ◌∙◌}
use Rattle.std.specs.Prelude.{◌||◌, filter}
use Rattle.std.specs.List.{flat_map, list_any}
use Rattle.std.specs.Str.{bytes_eq}
use Rattle.std.proofs.lemmas.Bool.{or_parts}
use Rattle.host_core.specs.Paths.{Path}
use Rattle.administration.specs.Places.{home_path, is_within}
use Rattle.diversions.specs.Ways.{place, Ways}
use Rattle.host_core.specs.Suffixes.{suffix_text}
use Rattle.host_core.specs.declared.suffix.Suffix.TheVariants.{New}
use Rattle.file_lists.specs.declared.paths.PackageList.{PackageList}
use Rattle.file_removal.specs.Clearing.{is_among}
use Rattle.list_changes.specs.Clearable.{clearable}
use Rattle.list_changes.proofs.Outside.{clearable_elsewhere}
use Rattle.status_records.specs.declared.entries.ConffileEntry.{ConffileEntry}
use Rattle.status_records.specs.declared.entries.PendingDigest.{PendingDigest}
use Rattle.status_records.specs.declared.record.Record.{Record}
use Rattle.listed_files.specs.Concluding.{AreElsewhere}
use Rattle.file_lists.specs.Owners.{paths_of, has_other_owner}
use Rattle.removal_engine.specs.Records.{entry_paths}
use Rattle.removal_engine.specs.Names.{cleared_names, ownerless, purged_names, side_names, side_names_at, stopped_names, unpack_names, waiting_names}

head_elsewhere : (n : Path) (names : List Path) → AreElsewhere (n ∷ names) → (q : Path) → is_within home_path q ≡ true → bytes_eq q n ≡ false
head_elsewhere n names all q within = (or_parts (bytes_eq q n) (is_among names q) (all q within)).0

tail_elsewhere : (n : Path) (names : List Path) → AreElsewhere (n ∷ names) → AreElsewhere names
tail_elsewhere n names all q within = (or_parts (bytes_eq q n) (is_among names q) (all q within)).1

both_elsewhere : (n : Path) (names : List Path) → ((q : Path) → is_within home_path q ≡ true → bytes_eq q n ≡ false) → AreElsewhere names → AreElsewhere (n ∷ names)
both_elsewhere n names one all q within = ap (λ b. b || is_among names q) (one q within) ∙ all q within

pub append_elsewhere : (xs ys : List Path) → AreElsewhere xs → AreElsewhere ys → AreElsewhere (xs ++ ys)
append_elsewhere [] ys a b = b
append_elsewhere (x ∷ xs) ys a b = both_elsewhere x (xs ++ ys) (head_elsewhere x xs a) (append_elsewhere xs ys (tail_elsewhere x xs a) b)

filter_elsewhere : (P : Path → Bool) (xs : List Path) → AreElsewhere xs → AreElsewhere (filter P xs)
filter_elsewhere P [] all = all
filter_elsewhere P (x ∷ xs) all = by (filter_elsewhere P xs (tail_elsewhere x xs all)) (P x)
  where
    by : AreElsewhere (filter P xs) → (b : Bool) → AreElsewhere (cond b (x ∷ filter P xs) (filter P xs))
    by rest true = both_elsewhere x (filter P xs) (head_elsewhere x xs all) rest
    by rest false = rest

flat_elsewhere : {X : Type 0} (f : X → List Path) → ((x : X) → AreElsewhere (f x)) → (xs : List X) → AreElsewhere (flat_map f xs)
flat_elsewhere f each [] = λ q within. refl
flat_elsewhere f each (x ∷ xs) = append_elsewhere (f x) (flat_map f xs) (each x) (flat_elsewhere f each xs)

unless : (b : Bool) (xs : List Path) → AreElsewhere xs → AreElsewhere (cond b [] xs)
unless true xs all = λ q within. refl
unless false xs all = all

pub nothing_elsewhere : AreElsewhere []
nothing_elsewhere = λ q within. refl

module _ (ways : Ways) where
  pub stopped_elsewhere : (name : List ℕ) (conffiles listed : List Path) → AreElsewhere (stopped_names ways name conffiles listed)
  stopped_elsewhere name conffiles listed =
      flat_elsewhere (λ (path : Path). cond (list_any (bytes_eq path) conffiles) [] (clearable (unpack_names (place ways name path))))
      (λ path. unless (list_any (bytes_eq path) conffiles) (clearable (unpack_names (place ways name path))) (clearable_elsewhere (unpack_names (place ways name path)))) listed

  pub waiting_elsewhere : (name : List ℕ) (pending : List PendingDigest) → AreElsewhere (waiting_names ways name pending)
  waiting_elsewhere name pending =
      flat_elsewhere (λ (d : PendingDigest). clearable ((place ways name d.path ++ suffix_text New) ∷ [])) (λ d. clearable_elsewhere ((place ways name d.path ++ suffix_text New) ∷ [])) pending

  pub cleared_elsewhere : (lists : List PackageList) (r : Record) → AreElsewhere (cleared_names ways lists r)
  cleared_elsewhere lists r = stopped_elsewhere r.name (entry_paths r.conffiles) (paths_of lists r.name)

  pub purged_elsewhere : (lists : List PackageList) (r : Record) → AreElsewhere (purged_names ways lists r)
  purged_elsewhere lists r =
      flat_elsewhere (λ (e : ConffileEntry). side_names_at ways lists r.name (place ways r.name e.path))
      (λ e. unless (has_other_owner ways lists r.name (place ways r.name e.path)) (ownerless ways lists r.name (side_names (place ways r.name e.path)))
      (filter_elsewhere (λ q. not (has_other_owner ways lists r.name q)) (clearable (side_names (place ways r.name e.path))) (clearable_elsewhere (side_names (place ways r.name e.path))))) r.conffiles
