-- The administration stands while the list and the files of a package are written or put back.
use Rattle.std.proofs.Common.{◌≡◌, ◌≢◌, ◌⊎◌, inl, inr, ℕ, Bool, true, false, List, [], ◌∷◌, ◌++◌, Some, codes, nat_eq, refl, sym, ap, subst, ◌∙◌}
use Rattle.std.specs.Prelude.{◌||◌}
use Rattle.std.specs.List.{list_any, starts_with}
use Rattle.std.specs.Str.{bytes_eq}
use Rattle.std.proofs.lemmas.Bool.{or_cases, or_right, true≢false}
use Rattle.std.proofs.lemmas.Slice.Eq.{bytes_eq-Decides}
use Rattle.host_core.specs.Paths.{Path, is_below_administration}
use Rattle.host_core.specs.World.{World, IsDirectory, IsFile}
use Rattle.host_core.specs.declared.node.Node.{Node}
use Rattle.administration.specs.Files.{KeepsBesideFile, NoDirectory, IsReplaced, IsReplacing}
use Rattle.administration.specs.Places.{home_path, info_path, list_path, status_path, temporary, updates_path}
use Rattle.administration.proofs.WholeFiles.{no_directory_at, no_directory_file, no_directory_none}
use Rattle.administration.proofs.Within.{rest_of}
use Rattle.file_lists.specs.Writing.{IsListReady}
use Rattle.package_files.specs.declared.work.Work.{Work}
use Rattle.package_files.specs.Files.{Each, HasPutBack, HasUndone, IsAmid, IsWhole, Misses, PutBack, Undone, before, behind, between}
use Rattle.package_files.specs.Free.{IsWrittenFrom}
use Rattle.package_files.specs.Names.{IsNamed}
use Rattle.package_files.proofs.Written.{keeps_directory, written_amid}
use Rattle.status_db.specs.Held.{AreKept, is_record_place}
use Rattle.status_records.specs.declared.record.Record.{Record}
use Rattle.status_db.proofs.NotedWorlds.{kept_on}
use Rattle.listed_files.specs.Listing.{HasListed, HasTurnedBack, HasUnlisted, MayList, MayTurnBack, MayUnlist}
use Rattle.listed_files.proofs.Apart.{goes_on}
use Rattle.listed_files.proofs.Listings.{all_miss, ready_still}

-- the records are kept, and the package's list can be written
pub record Stands (rs : List Record) (notes : ℕ) (name : List ℕ) (w : World) : Type 0 where
  pub kept : AreKept rs notes w
  pub ready : IsListReady name w

pub apart_by : (p q : Path) → bytes_eq p q ≡ false → p ≢ q
apart_by p q is e = true≢false (sym ((bytes_eq-Decides p q).1 e) ∙ is)

-- records lie in the administration's directory
pub record_below : (q : Path) → is_record_place q ≡ true → is_below_administration q ≡ true
record_below q is = elim (or_cases (bytes_eq q status_path) (bytes_eq q (temporary status_path) || starts_with nat_eq q (updates_path ++ codes "/")) is) [
  | inl e ↦ ap is_below_administration ((bytes_eq-Decides q status_path).0 e)
  | inr more ↦ elim (or_cases (bytes_eq q (temporary status_path)) (starts_with nat_eq q (updates_path ++ codes "/")) more) [
    | inl e ↦ ap is_below_administration ((bytes_eq-Decides q (temporary status_path)).0 e)
    | inr below ↦ let rest = rest_of q (updates_path ++ codes "/") below in ap is_below_administration rest.1 ∙ goes_on (codes "updates/" ++ rest.0)
  ]
]

-- while the list is written, and then

module _ (rs : List Record) (notes : ℕ) (name : List ℕ) (v now : World) where
  list_still : KeepsBesideFile (list_path name) v now → NoDirectory (now (list_path name)) → NoDirectory (now (temporary (list_path name))) → Stands rs notes name v → Stands rs notes name now
  list_still rest target spare stands =
      let still : (q : Path) → bytes_eq (list_path name) q ≡ false → bytes_eq (temporary (list_path name)) q ≡ false → now q ≡ v q =
      λ q list side. rest q (λ e. apart_by (list_path name) q list (sym e)) (λ e. apart_by (temporary (list_path name)) q side (sym e)) in
      let records : (q : Path) → is_record_place q ≡ true → now q ≡ v q =
      λ q is. rest q (λ e. true≢false (sym is ∙ ap is_record_place e)) (λ e. true≢false (sym is ∙ ap is_record_place e)) in
      record {
        kept = kept_on v now rs notes records (subst IsDirectory (sym (still home_path refl refl)) stands.kept.unblocked.home)
            (subst IsDirectory (sym (still updates_path refl refl)) stands.kept.unblocked.updates) stands.kept;
        ready = record { info = subst IsDirectory (sym (still info_path refl refl)) stands.ready.info; target = target; spare = spare };
      }

  module _ (node : Node) (file : IsFile node) where
    target_by : (now (list_path name) ≡ v (list_path name)) ⊎ (now (list_path name) ≡ Some node) → NoDirectory (v (list_path name)) → NoDirectory (now (list_path name))
    target_by (inl e) none = no_directory_at _ _ e none
    target_by (inr e) none = no_directory_at _ _ e (no_directory_file node file)

    pub replacing_stands : Stands rs notes name v → IsReplacing (list_path name) node v now → Stands rs notes name now
    replacing_stands stands is = list_still is.rest (target_by is.target stands.ready.target) is.spare stands

    pub replaced_stands : Stands rs notes name v → IsReplaced (list_path name) node v now → Stands rs notes name now
    replaced_stands stands is = list_still is.rest (target_by (inr is.target) stands.ready.target) (no_directory_at _ _ is.spare no_directory_none) stands

-- the administration's directory itself, where a work may have its place

abbrev has_dot : Path → Bool
has_dot p = list_any (nat_eq 46) p

dot_in : (p s : Path) → has_dot (p ++ 46 ∷ s) ≡ true
dot_in [] s = refl
dot_in (c ∷ p) s = or_right (nat_eq 46 c) (has_dot (p ++ 46 ∷ s)) (dot_in p s)

home_plain : (p s q : Path) → q ≡ p ++ 46 ∷ s → home_path ≢ q
home_plain p s q is e = true≢false (sym (dot_in p s) ∙ ap has_dot (sym (e ∙ is)))

home_misses : (x : Work) → IsNamed x → bytes_eq home_path x.target ≡ false → Misses x home_path
home_misses x named other = record {
  target = apart_by home_path x.target other;
  backup = home_plain x.place (codes "dpkg-tmp") x.backup named.backup;
  fresh = home_plain x.place (codes "dpkg-inst") x.fresh named.fresh;
}

module _ (P : Work → Type 0) (was now : World) (stays : (x : Work) → IsDirectory (was x.target) → P x → now x.target ≡ was x.target) (dir : IsDirectory (was home_path)) where
  home_by : (x : Work) (xs : List Work) (b : Bool) → bytes_eq home_path x.target ≡ b → IsNamed x → P x → (now home_path ≡ was home_path) ⊎ Each (λ y. Misses y home_path) xs
      → (now home_path ≡ was home_path) ⊎ Each (λ y. Misses y home_path) (x ∷ xs)
  home_by x xs true is named p more =
      let e = (bytes_eq-Decides home_path x.target).0 is in
      inl (ap now e ∙ stays x (subst (λ q. IsDirectory (was q)) e dir) p ∙ ap was (sym e))
  home_by x xs false is named p (inl same) = inl same
  home_by x xs false is named p (inr misses) = inr (home_misses x named is, misses)

  home_at : (xs : List Work) → Each IsNamed xs → Each P xs → (now home_path ≡ was home_path) ⊎ Each (λ y. Misses y home_path) xs
  home_at [] named ps = inr tt
  home_at (x ∷ xs) named ps = home_by x xs (bytes_eq home_path x.target) refl named.0 ps.0 (home_at xs named.1 ps.1)

  home_still : (xs : List Work) (mid : World) → Each IsNamed xs → Each P xs → ((q : Path) → Each (λ x. Misses x q) xs → now q ≡ mid q) → IsDirectory (mid home_path) → IsDirectory (now home_path)
  home_still xs mid named ps rest there = elim (home_at xs named ps) [
    | inl same ↦ subst IsDirectory (sym same) dir
    | inr misses ↦ subst IsDirectory (sym (rest home_path misses)) there
  ]

whole_directory : (was now : World) (x : Work) → IsDirectory (was x.target) → IsWhole was now x → now x.target ≡ was x.target
whole_directory was now x dir (before is) = is
whole_directory was now x dir (between access node wrote gap spot) = absurd (true≢false (sym wrote ∙ keeps_directory x.node (was x.target) dir))
whole_directory was now x dir (behind wrote is spot) = absurd (true≢false (sym wrote ∙ keeps_directory x.node (was x.target) dir))

undone_directory : (was now : World) (x : Work) → IsDirectory (was x.target) → HasUndone was now x → now x.target ≡ was x.target
undone_directory was now x dir undone = elim undone.is [
  | inl is ↦ is.target
  | inr stays ↦ absurd (true≢false (sym stays.was ∙ keeps_directory x.node (was x.target) dir))
]

back_directory : (was now : World) (x : Work) → IsDirectory (was x.target) → HasPutBack was now x → now x.target ≡ was x.target
back_directory was now x dir put = elim put.is [
  | inl is ↦ is.target
  | inr stays ↦ absurd (true≢false (sym stays.was ∙ keeps_directory x.node (was x.target) dir))
]

-- while files are written or put back, and then

module _ (rs : List Record) (notes : ℕ) (name : List ℕ) (works : List Work) (named : Each IsNamed works) where
  files_still : (v now : World) → ((q : Path) → Each (λ x. Misses x q) works → now q ≡ v q) → IsDirectory (now home_path) → Stands rs notes name v → Stands rs notes name now
  files_still v now rest home stands =
      let below : (q : Path) → is_below_administration q ≡ true → now q ≡ v q = λ q is. rest q (all_miss works q named is) in
      record {
        kept = kept_on v now rs notes (λ q is. below q (record_below q is)) home (subst IsDirectory (sym (below updates_path refl)) stands.kept.unblocked.updates) stands.kept;
        ready = ready_still name v now below stands.ready;
      }

  amid_stands : (was v now : World) → IsDirectory (was home_path) → Stands rs notes name v → IsAmid works was v now → Stands rs notes name now
  amid_stands was v now dir stands is =
      files_still v now is.rest (home_still (IsWhole was now) was now (whole_directory was now) dir works v named is.each is.rest stands.kept.unblocked.home) stands

  undone_stands : (v now : World) → Stands rs notes name v → Undone works v now → Stands rs notes name now
  undone_stands v now stands is =
      let dir = stands.kept.unblocked.home in
      files_still v now is.rest (home_still (HasUndone v now) v now (undone_directory v now) dir works v named is.each is.rest dir) stands

  back_stands : (was v now : World) → IsDirectory (was home_path) → Stands rs notes name v → PutBack works was v now → Stands rs notes name now
  back_stands was v now dir stands is =
      files_still v now is.rest (home_still (HasPutBack was now) was now (back_directory was now) dir works v named is.each is.rest stands.kept.unblocked.home) stands

  module _ (node : Node) (file : IsFile node) (v now : World) (stands : Stands rs notes name v) where
    pub listing_stands : MayList (list_path name) node works v now → Stands rs notes name now
    listing_stands (inl is) = replacing_stands rs notes name v now node file stands is
    listing_stands (inr m) =
        let mid = replaced_stands rs notes name v m.0 node file stands m.1 in
        amid_stands m.0 m.0 now mid.kept.unblocked.home mid m.2

    pub listed_stands : HasListed (list_path name) node works v now → Stands rs notes name now
    listed_stands has = listing_stands (inr (has.mid, has.replaced, written_amid works has.mid now has.written))

    module _ (was : World) (from : IsWrittenFrom works was v) (dir : IsDirectory (was home_path)) where
      pub unlisting_stands : MayUnlist (list_path name) node works v now → Stands rs notes name now
      unlisting_stands (inl is) = amid_stands was v now dir stands (is was from)
      unlisting_stands (inr m) = replacing_stands rs notes name m.0 now node file (back_stands was v m.0 dir stands (m.1 was from)) m.2

      pub unlisted_stands : HasUnlisted (list_path name) node works v now → Stands rs notes name now
      unlisted_stands has = replaced_stands rs notes name has.mid now node file (back_stands was v has.mid dir stands (has.back was from)) has.replaced

  -- where a step was declined
  module _ (union listed : Node) (file : IsFile union) (old : IsFile listed) (v now : World) (stands : Stands rs notes name v) where
    pub turning_stands : MayTurnBack (list_path name) union listed works v now → Stands rs notes name now
    turning_stands (inl may) = listing_stands union file v now stands may
    turning_stands (inr m) =
        replacing_stands rs notes name m.1 now listed old (undone_stands m.0 m.1 (replaced_stands rs notes name v m.0 union file stands m.2) m.3) m.4

    pub turned_stands : HasTurnedBack (list_path name) union listed works v now → Stands rs notes name now
    turned_stands has =
        replaced_stands rs notes name has.back now listed old (undone_stands has.mid has.back (replaced_stands rs notes name v has.mid union file stands has.replaced) has.undone) has.unlisted
