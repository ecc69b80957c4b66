-- Paths of the administration differ, and which of them no record and no list is written at.
use Rattle.std.proofs.Common.{◌≡◌, ◌≢◌, inl, inr, ℕ, true, ◌∷◌, ◌++◌, get_or, refl, sym, ap, subst, arith}
use Rattle.host_core.specs.Paths.{Path}
use Rattle.host_core.specs.World.{World, IsDirectory}
use Rattle.administration.specs.Files.{NoDirectory}
use Rattle.administration.specs.Places.{info_path, list_path, temporary, tmp_path, is_within}
use Rattle.administration.proofs.Within.{within_is}
use Rattle.file_lists.specs.Info.{AreLoose}
use Rattle.unpack_engine.proofs.Frames.{IsBeside}

-- the first byte of a name in the directory of the administration
abbrev byte : Path → ℕ
byte p = get_or p 14 0

module _ (name : Path) where
  pub tmp_beside : (q : Path) → is_within tmp_path q ≡ true → IsBeside (list_path name) q
  tmp_beside q within = elim (within_is tmp_path q within) [
    | inl is ↦ subst (IsBeside (list_path name)) (sym is) here
    | inr more ↦ subst (IsBeside (list_path name)) (sym more.1) (below more.0)
  ]
    where
      here : IsBeside (list_path name) tmp_path
      here = record {
        own = refl;
        below = refl;
        unnoted = refl;
        unlisted = λ e. absurd (omega (arith, ap byte e));
        unspared = λ e. absurd (omega (arith, ap byte e));
      }

      below : (rest : Path) → IsBeside (list_path name) (tmp_path ++ 47 ∷ rest)
      below rest = record {
        own = refl;
        below = refl;
        unnoted = refl;
        unlisted = λ e. absurd (omega (arith, ap byte e));
        unspared = λ e. absurd (omega (arith, ap byte e));
      }

  -- an entry of `info` other than the list and its temporary name
  pub entry_beside : (entry : Path) → info_path ++ 47 ∷ entry ≢ list_path name → info_path ++ 47 ∷ entry ≢ temporary (list_path name) → IsBeside (list_path name) (info_path ++ 47 ∷ entry)
  entry_beside entry unlisted unspared = record { own = refl; below = refl; unnoted = refl; unlisted = unlisted; unspared = unspared }

  -- no entry is a directory, where those beside the list stayed
  pub loose_still : (v w : World) → ((q : Path) → IsBeside (list_path name) q → w q ≡ v q) → NoDirectory (w (list_path name)) → NoDirectory (w (temporary (list_path name))) → AreLoose v → AreLoose w
  loose_still v w same target spare loose entry plain is =
      let q = info_path ++ 47 ∷ entry in
      loose entry plain (subst IsDirectory (same q (entry_beside entry (λ e. target (subst (λ p. IsDirectory (w p)) e is)) (λ e. spare (subst (λ p. IsDirectory (w p)) e is)))) is)
