-- The lists of the recorded packages behind a part, name by name.
use Rattle.std.proofs.Common.{◌≡◌, ◌≢◌, ◌⊎◌, inl, inr, ℕ, List, [], codes, refl, sym, subst, ◌∙◌, arith, Contains}
use Rattle.std.specs.Str.{bytes_eq, IsUtf8}
use Rattle.std.specs.List.{AllByRecursion}
use Rattle.std.proofs.lemmas.Bool.{cond-false, cond-true, false_from_ne_true}
use Rattle.std.proofs.lemmas.List.{append_cancel_left, append_cancel_right}
use Rattle.std.proofs.lemmas.Slice.Eq.{bytes_eq-Decides}
use Rattle.host_core.specs.Paths.{Path}
use Rattle.host_core.specs.World.{World}
use Rattle.host_core.proofs.Paths.{decide}
use Rattle.administration.specs.Files.{IsDropped, IsReplaced}
use Rattle.administration.specs.Places.{list_name, list_path}
use Rattle.control_members.proofs.Apart.{no_list_temporary}
use Rattle.file_lists.specs.Lists.{HasLists, IsReadable, Lists}
use Rattle.file_lists.specs.Owners.{IsListable, paths_of}
use Rattle.file_lists.specs.Writing.{list_file, with_list}
use Rattle.file_lists.specs.declared.paths.PackageList.{PackageList}
use Rattle.file_lists.proofs.TakingAll.{paths_with}
use Rattle.file_lists.proofs.ReadBack.{list_readable, list_says}

pub none_has : {X : Type 0} (x : X) → Contains [] x → ⊥
none_has x has = absurd (omega (arith, has.1))

pub same_list : (name other : Path) → list_path name ≡ list_path other → name ≡ other
same_list name other e = append_cancel_right name other (codes ".list") (append_cancel_left (codes "/var/lib/dpkg/info/") (list_name name) (list_name other) e)

-- the same lists, of names that are the same but for some that list nothing
pub lists_named : (v w : World) (before after : List (List ℕ)) (ls : List PackageList) → ((name : List ℕ) → w (list_path name) ≡ v (list_path name))
    → ((name : List ℕ) → Contains after name → Contains before name) → ((name : List ℕ) → Contains before name → Contains after name ⊎ (paths_of ls name ≡ []))
    → HasLists v before ls → HasLists w after ls
lists_named v w before after ls same had stays has = record {
  readable = λ name is. subst IsReadable (sym (same name)) (has.readable name (had name is));
  whole = λ name q is there. has.whole name q (had name is) (subst (λ n. Lists n q) (same name) there);
  sound = λ name q there.
      let s = has.sound name q there in (
        elim (stays name s.0) [
          | inl is ↦ is
          | inr none ↦ absurd (none_has q (subst (λ (l : List Path). Contains l q) none there))
        ],
        subst (λ n. Lists n q) (sym (same name)) s.1,
      );
}

-- one list stands, and all others are as before
module _ (v w : World) (names : List (List ℕ)) (own : List ℕ) (ls after : List PackageList) (others : (name : List ℕ) → name ≢ own → (w (list_path name) ≡ v (list_path name)) × (paths_of after name ≡ paths_of ls name))
    (readable : IsReadable (w (list_path own))) (whole : (q : Path) → Lists (w (list_path own)) q → Contains (paths_of after own) q)
    (sound : (q : Path) → Contains (paths_of after own) q → Contains names own × Lists (w (list_path own)) q) where
  pub lists_changed : HasLists v names ls → HasLists w names after
  lists_changed has = record {
    readable = λ name is. elim (decide name own) [
      | inl same ↦ subst (λ (n : List ℕ). IsReadable (w (list_path n))) (sym same) readable
      | inr ne ↦ subst IsReadable (sym (others name ne).0) (has.readable name is)
    ];
    whole = λ name q is there. elim (decide name own) [
      | inl same ↦ subst (λ (n : List ℕ). Contains (paths_of after n) q) (sym same) (whole q (subst (λ (n : List ℕ). Lists (w (list_path n)) q) same there))
      | inr ne ↦ subst (λ (l : List Path). Contains l q) (sym (others name ne).1) (has.whole name q is (subst (λ n. Lists n q) (others name ne).0 there))
    ];
    sound = λ name q there. elim (decide name own) [
      | inl same ↦ subst (λ (n : List ℕ). Contains names n × Lists (w (list_path n)) q) (sym same) (sound q (subst (λ (n : List ℕ). Contains (paths_of after n) q) same there))
      | inr ne ↦
          let s = has.sound name q (subst (λ (l : List Path). Contains l q) (others name ne).1 there) in
          (s.0, subst (λ n. Lists n q) (sym (others name ne).0) s.1)
    ];
  }

-- a list was written
pub lists_written : (v w : World) (names : List (List ℕ)) (own : List ℕ) (ls : List PackageList) (paths : List Path) → AllByRecursion IsListable paths → AllByRecursion IsUtf8 paths → Contains names own
    → IsReplaced (list_path own) (list_file paths) v w → HasLists v names ls → HasLists w names (with_list own paths ls)
lists_written v w names own ls paths can texts known is has =
    lists_changed v w names own ls (with_list own paths ls) others
    (subst IsReadable (sym is.target) (list_readable paths can texts))
    (λ q there. subst (λ (l : List Path). Contains l q) (sym paths_own) ((list_says paths can q).0 (subst (λ n. Lists n q) is.target there)))
    (λ q there. (known, subst (λ n. Lists n q) (sym is.target) ((list_says paths can q).1 (subst (λ (l : List Path). Contains l q) paths_own there)))) has
  where
    paths_own : paths_of (with_list own paths ls) own ≡ paths
    paths_own = paths_with ls own own paths ∙ cond-true (bytes_eq own own) paths (paths_of ls own) ((bytes_eq-Decides own own).1 refl)

    others : (name : List ℕ) → name ≢ own → (w (list_path name) ≡ v (list_path name)) × (paths_of (with_list own paths ls) name ≡ paths_of ls name)
    others name ne = (
      is.rest (list_path name) (λ e. ne (same_list name own e)) (no_list_temporary name (list_path own)),
      paths_with ls own name paths ∙ cond-false (bytes_eq name own) paths (paths_of ls name) (false_from_ne_true (bytes_eq name own) (λ t. ne ((bytes_eq-Decides name own).0 t))),
    )

-- the file of a list that names nothing went
pub lists_dropped : (v w : World) (names : List (List ℕ)) (own : List ℕ) (ls : List PackageList) → paths_of ls own ≡ [] → IsDropped (list_path own) v w → HasLists v names ls → HasLists w names ls
lists_dropped v w names own ls none is has =
    lists_changed v w names own ls ls (λ name ne. (is.rest (list_path name) (λ e. ne (same_list name own e)), refl))
    (subst IsReadable (sym is.target) tt)
    (λ q there. absurd (subst (λ n. Lists n q) is.target there))
    (λ q there. absurd (none_has q (subst (λ (l : List Path). Contains l q) none there))) has
