-- Worlds in which files of one conffile were changed.
use Rattle.std.proofs.Common.{◌≡◌, ◌≢◌, ◌⊎◌, inl, inr, ◌<◌, Bool, true, ◌++◌, length, Option, Some, None, Contains, refl, sym, ap, subst, ◌∙◌, arith}
use Rattle.std.proofs.lemmas.Bool.{true≢false}
use Rattle.std.proofs.lemmas.List.{length-append}
use Rattle.std.proofs.lemmas.Cmp.{nat_list_eq_equiv}
use Rattle.std.proofs.lemmas.Map.Views.{list_any-from_Contains}
use Rattle.host_core.proofs.Paths.{decide}
use Rattle.host_core.proofs.ShipNames.{same_name}
use Rattle.host_core.specs.Paths.{Path}
use Rattle.host_core.specs.Suffixes.{suffix_text}
use Rattle.host_core.specs.World.{World, put, moved, KeepsBut}
use Rattle.host_core.proofs.WorldLaws.{put_same, put_other, put_here}
use Rattle.host_core.specs.declared.node.Node.{Node}
use Rattle.host_core.specs.declared.suffix.Suffix.{Suffix}
use Rattle.host_core.specs.declared.suffix.Suffix.TheVariants as suffix
use Rattle.administration.specs.Places.{temporary}
use Rattle.administration.specs.Files.{NoDirectory, IsReplaced, IsReplacing, IsDropped, IsDropping, IsAside, IsBeside}
use Rattle.conffiles.specs.Settling.{ConffileFiles, files_at, shipped_name, backup_name, dist_name, spare_name, conffile_names, is_conffile_name, IsBetween, HasChanged, IsChanging, CanSettle}

-- the names differ

pub home_other : (x : Path) (s : Suffix) → x ++ suffix_text s ≢ x
home_other x s e = absurd (omega (arith, length-append x (suffix_text s), ap length e, long s))
  where
    long : (t : Suffix) → 0 < length (suffix_text t)
    long suffix.New = omega arith
    long suffix.Old = omega arith
    long suffix.Dist = omega arith
    long suffix.Tmp = omega arith
    long suffix.Inst = omega arith

pub beside_other : (x : Path) (s t : Suffix) → s ≢ t → x ++ suffix_text s ≢ x ++ suffix_text t
beside_other x s t ne e = ne (same_name x x s t e).1

-- a world that is another one but for these files of one conffile

pub record IsWith (x : Path) (old now : World) (files : ConffileFiles) (spare : Option Node) : Type 0 where
  pub files_are : files_at now x ≡ files
  pub spare_is : now (spare_name x) ≡ spare
  pub rest : KeepsBut (is_conffile_name x) old now

pub with_start : (x : Path) (w : World) → IsWith x w w (files_at w x) (w (spare_name x))
with_start x w = record { files_are = refl; spare_is = refl; rest = λ q out. refl }

keep_put : (area : Path → Bool) (old w : World) (p : Path) (n : Option Node) → area p ≡ true → KeepsBut area old w → KeepsBut area old (put w p n)
keep_put area old w p n is keeps q out = put_other w p q n (λ e. true≢false (sym is ∙ ap area (sym e) ∙ out)) ∙ keeps q out

names_have : (x q : Path) → Contains (conffile_names x) q → is_conffile_name x q ≡ true
names_have x q has = list_any-from_Contains nat_list_eq_equiv q (conffile_names x) has

abbrev home_of : ConffileFiles → Option Node
home_of f = f.home

abbrev shipped_of : ConffileFiles → Option Node
shipped_of f = f.shipped

abbrev backup_of : ConffileFiles → Option Node
backup_of f = f.backup

abbrev dist_of : ConffileFiles → Option Node
dist_of f = f.dist

module _ (x : Path) (old w : World) (f : ConffileFiles) (s n : Option Node) (is : IsWith x old w f s) where
  pub with_home : IsWith x old (put w x n) (record f { home = n }) s
  with_home = record {
    files_are = λ i. record {
      home = put_same w x x n refl i;
      shipped = (put_other w x (shipped_name x) n (home_other x suffix.New) ∙ ap shipped_of is.files_are) i;
      backup = (put_other w x (backup_name x) n (home_other x suffix.Old) ∙ ap backup_of is.files_are) i;
      dist = (put_other w x (dist_name x) n (home_other x suffix.Dist) ∙ ap dist_of is.files_are) i;
    };
    spare_is = put_other w x (spare_name x) n (home_other x suffix.Inst) ∙ is.spare_is;
    rest = keep_put (is_conffile_name x) old w x n (names_have x x (0, omega arith, refl)) is.rest;
  }

  pub with_shipped : IsWith x old (put w (shipped_name x) n) (record f { shipped = n }) s
  with_shipped = record {
    files_are = λ i. record {
      home = (put_other w (shipped_name x) x n (λ e. home_other x suffix.New (sym e)) ∙ ap home_of is.files_are) i;
      shipped = put_same w (shipped_name x) (shipped_name x) n refl i;
      backup = (put_other w (shipped_name x) (backup_name x) n (beside_other x suffix.Old suffix.New (λ e. cc)) ∙ ap backup_of is.files_are) i;
      dist = (put_other w (shipped_name x) (dist_name x) n (beside_other x suffix.Dist suffix.New (λ e. cc)) ∙ ap dist_of is.files_are) i;
    };
    spare_is = put_other w (shipped_name x) (spare_name x) n (beside_other x suffix.Inst suffix.New (λ e. cc)) ∙ is.spare_is;
    rest = keep_put (is_conffile_name x) old w (shipped_name x) n (names_have x (shipped_name x) (1, omega arith, refl)) is.rest;
  }

  pub with_backup : IsWith x old (put w (backup_name x) n) (record f { backup = n }) s
  with_backup = record {
    files_are = λ i. record {
      home = (put_other w (backup_name x) x n (λ e. home_other x suffix.Old (sym e)) ∙ ap home_of is.files_are) i;
      shipped = (put_other w (backup_name x) (shipped_name x) n (beside_other x suffix.New suffix.Old (λ e. cc)) ∙ ap shipped_of is.files_are) i;
      backup = put_same w (backup_name x) (backup_name x) n refl i;
      dist = (put_other w (backup_name x) (dist_name x) n (beside_other x suffix.Dist suffix.Old (λ e. cc)) ∙ ap dist_of is.files_are) i;
    };
    spare_is = put_other w (backup_name x) (spare_name x) n (beside_other x suffix.Inst suffix.Old (λ e. cc)) ∙ is.spare_is;
    rest = keep_put (is_conffile_name x) old w (backup_name x) n (names_have x (backup_name x) (2, omega arith, refl)) is.rest;
  }

  pub with_dist : IsWith x old (put w (dist_name x) n) (record f { dist = n }) s
  with_dist = record {
    files_are = λ i. record {
      home = (put_other w (dist_name x) x n (λ e. home_other x suffix.Dist (sym e)) ∙ ap home_of is.files_are) i;
      shipped = (put_other w (dist_name x) (shipped_name x) n (beside_other x suffix.New suffix.Dist (λ e. cc)) ∙ ap shipped_of is.files_are) i;
      backup = (put_other w (dist_name x) (backup_name x) n (beside_other x suffix.Old suffix.Dist (λ e. cc)) ∙ ap backup_of is.files_are) i;
      dist = put_same w (dist_name x) (dist_name x) n refl i;
    };
    spare_is = put_other w (dist_name x) (spare_name x) n (beside_other x suffix.Inst suffix.Dist (λ e. cc)) ∙ is.spare_is;
    rest = keep_put (is_conffile_name x) old w (dist_name x) n (names_have x (dist_name x) (3, omega arith, refl)) is.rest;
  }

  pub with_spare : IsWith x old (put w (spare_name x) n) f n
  with_spare = record {
    files_are = λ i. record {
      home = (put_other w (spare_name x) x n (λ e. home_other x suffix.Inst (sym e)) ∙ ap home_of is.files_are) i;
      shipped = (put_other w (spare_name x) (shipped_name x) n (beside_other x suffix.New suffix.Inst (λ e. cc)) ∙ ap shipped_of is.files_are) i;
      backup = (put_other w (spare_name x) (backup_name x) n (beside_other x suffix.Old suffix.Inst (λ e. cc)) ∙ ap backup_of is.files_are) i;
      dist = (put_other w (spare_name x) (dist_name x) n (beside_other x suffix.Dist suffix.Inst (λ e. cc)) ∙ ap dist_of is.files_are) i;
    };
    spare_is = put_same w (spare_name x) (spare_name x) n refl;
    rest = keep_put (is_conffile_name x) old w (spare_name x) n (names_have x (spare_name x) (4, omega arith, refl)) is.rest;
  }

-- a file of the conffile was moved

module _ (x : Path) (old w : World) (f : ConffileFiles) (s : Option Node) (is : IsWith x old w f s) where
  pub shipped_to_dist : IsWith x old (moved w (shipped_name x) (dist_name x)) (record f { shipped = None; dist = f.shipped }) s
  shipped_to_dist = subst (λ n. IsWith x old (moved w (shipped_name x) (dist_name x)) (record f { shipped = None; dist = n }) s) (ap shipped_of is.files_are)
      (with_dist x old (put w (shipped_name x) None) (record f { shipped = None }) s (w (shipped_name x)) (with_shipped x old w f s None is))

  pub shipped_to_home : IsWith x old (moved w (shipped_name x) x) (record f { home = f.shipped; shipped = None }) s
  shipped_to_home = subst (λ n. IsWith x old (moved w (shipped_name x) x) (record f { home = n; shipped = None }) s) (ap shipped_of is.files_are)
      (with_home x old (put w (shipped_name x) None) (record f { shipped = None }) s (w (shipped_name x)) (with_shipped x old w f s None is))

  pub home_to_backup : IsWith x old (moved w x (backup_name x)) (record f { home = None; backup = f.home }) s
  home_to_backup = subst (λ n. IsWith x old (moved w x (backup_name x)) (record f { home = None; backup = n }) s) (ap home_of is.files_are)
      (with_backup x old (put w x None) (record f { home = None }) s (w x) (with_home x old w f s None is))

  pub spare_to_backup : IsWith x old (moved w (spare_name x) (backup_name x)) (record f { backup = s }) None
  spare_to_backup = subst (λ n. IsWith x old (moved w (spare_name x) (backup_name x)) (record f { backup = n }) None) is.spare_is
      (with_backup x old (put w (spare_name x) None) f None (w (spare_name x)) (with_spare x old w f s None is))

-- what the calls below leave, as worlds

module _ (p : Path) (old now : World) where
  at_path : (n : Option Node) → now p ≡ n → ((q : Path) → q ≢ p → now q ≡ old q) → now ≡ put old p n
  at_path n here rest = λ i q. point q i
    where
      point : (q : Path) → now q ≡ put old p n q
      point q = elim (decide q p) [
        | inl same ↦ ap now same ∙ here ∙ sym (put_same old p q n same)
        | inr other ↦ rest q other ∙ sym (put_other old p q n other)
      ]

  pub dropped_world : IsDropped p old now → now ≡ put old p None
  dropped_world is = at_path None is.target is.rest

  pub dropping_world : IsDropping p old now → (now ≡ old) ⊎ (now ≡ put old p None)
  dropping_world is = elim is.target [
    | inl same ↦ inl (at_path (old p) same is.rest ∙ put_here old p (old p) refl)
    | inr none ↦ inr (at_path None none is.rest)
  ]

  pub aside_world : (node : Node) → IsAside p node old now → now ≡ put old p (Some node)
  aside_world node is = at_path (Some node) is.target is.rest

  pub beside_world : IsBeside p old now → now ≡ put old p (now p)
  beside_world is = at_path (now p) refl is.rest

  at_both : ((q : Path) → q ≢ p → q ≢ temporary p → now q ≡ old q) → now ≡ put (put old (temporary p) (now (temporary p))) p (now p)
  at_both rest = λ i q. point q i
    where
      point : (q : Path) → now q ≡ put (put old (temporary p) (now (temporary p))) p (now p) q
      point q = elim (decide q p) [
        | inl same ↦ ap now same ∙ sym (put_same (put old (temporary p) (now (temporary p))) p q (now p) same)
        | inr other ↦ elim (decide q (temporary p)) [
          | inl same ↦ ap now same ∙ sym (put_same old (temporary p) q (now (temporary p)) same) ∙ sym (put_other (put old (temporary p) (now (temporary p))) p q (now p) other)
          | inr apart ↦ rest q other apart ∙ sym (put_other old (temporary p) q (now (temporary p)) apart) ∙ sym (put_other (put old (temporary p) (now (temporary p))) p q (now p) other)
        ]
      ]

  pub replacing_world : (node : Node) → IsReplacing p node old now → now ≡ put (put old (temporary p) (now (temporary p))) p (now p)
  replacing_world node is = at_both is.rest

  pub replaced_world : (node : Node) → IsReplaced p node old now → now ≡ put (put old (temporary p) (now (temporary p))) p (now p)
  replaced_world node is = at_both is.rest

-- the words of contracts from these

pub changed_by : (change : ConffileFiles → ConffileFiles) (x : Path) (old new : World) (f : ConffileFiles) (s : Option Node) → IsWith x old new f s → f ≡ change (files_at old x) → (s ≡ old (spare_name x)) ⊎ (s ≡ None) → HasChanged change x old new
changed_by change x old new f s is fits spare = record {
  files = is.files_are ∙ fits;
  spare = elim spare [ inl same ↦ inl (is.spare_is ∙ same) | inr none ↦ inr (is.spare_is ∙ none) ];
  rest = is.rest;
}

between_at : (old new f g : ConffileFiles) → g ≡ f → IsBetween old new f → IsBetween old new g
between_at old new f g same is = subst (IsBetween old new) (sym same) is

pub changing_by : (change : ConffileFiles → ConffileFiles) (x : Path) (old now : World) (f : ConffileFiles) (s : Option Node) → IsWith x old now f s → IsBetween (files_at old x) (change (files_at old x)) f → NoDirectory s → IsChanging change x old now
changing_by change x old now f s is between none = record {
  files = between_at (files_at old x) (change (files_at old x)) f (files_at now x) is.files_are between;
  spare = subst NoDirectory (sym is.spare_is) none;
  rest = is.rest;
}

pub changing_start : (change : ConffileFiles → ConffileFiles) (x : Path) (w : World) → CanSettle x w → IsChanging change x w w
changing_start change x w can = changing_by change x w w (files_at w x) (w (spare_name x)) (with_start x w) (inl refl) can.spare
