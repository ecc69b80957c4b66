-- One path that was written is put back.
use Rattle.std.proofs.Common.{◌≡◌, ◌⊎◌, is_some, true, false, [], ◌∷◌, ◌++◌, Option, Some, None, inl, inr, refl, sym, ap, subst, ◌∙◌}
use Rattle.std.specs.Prelude.{IsSome}
use Rattle.std.proofs.lemmas.Bool.{true≢false}
use Rattle.host_core.specs.Paths.{Path}
use Rattle.host_core.specs.World.{World, put, moved, IsDirectory, IsLoose, IsBare, HasParent, is_directory, kind_of}
use Rattle.host_core.specs.Tree.{IsTree}
use Rattle.host_core.proofs.WorldLaws.{put_same, put_other}
use Rattle.host_core.specs.Suffixes.{suffix_text}
use Rattle.host_core.specs.declared.node.Access.{Access}
use Rattle.host_core.specs.declared.node.Kind.{Kind}
use Rattle.host_core.specs.declared.node.Kind.TheVariants as kind
use Rattle.host_core.specs.declared.node.Node.{Node}
use Rattle.host_core.specs.declared.node.Node.TheVariants.{File, Dir, Link}
use Rattle.host_core.specs.declared.suffix.Suffix.TheVariants.{New, Tmp}
use Rattle.host_core.proofs.ShipNames.{parent_home_of, parent_beside}
use Rattle.package_files.specs.declared.work.Work.{Work}
use Rattle.package_files.specs.Files.{is_written, cleared, shown, saved, Misses, HasWritten, IsBack, Stays, HasPutBack, PutBack, IsWhole, before, between, behind, IsAmid}
use Rattle.package_files.specs.Free.{IsFree, IsSeen, IsWrittenFrom}
use Rattle.package_files.specs.Names.{IsNamed}
use Rattle.package_files.specs.Apart.{IsApart}
use Rattle.package_files.specs.Back.{restored, CanRestore, GoesBack, IsGoingBack, MakesDirectory}
use Rattle.package_files.proofs.WorkNames.{named_apart}
use Rattle.package_files.proofs.Written.{shown_at, plain_directory, no_directory, loose_at, kind_none, kind_file, kind_link, kind_directory, writes_loose, free_loose, keeps_directory, keeps_link, makes_at_none, makes_over_file, free_over_file, saved_some, written_whole}

-- in a tree the target has its parent, where the backup stands
pub home_by_backup : (w : World) (x : Work) → IsNamed x → IsTree w → IsSome (w x.backup) → HasParent w x.target
home_by_backup w x named tree some =
    let stands : IsSome (w (x.place ++ suffix_text Tmp)) = subst (λ q. IsSome (w q)) named.backup some in
    at named.target stands
  where
    at : (x.target ≡ x.place) ⊎ (x.target ≡ x.place ++ suffix_text New) → IsSome (w (x.place ++ suffix_text Tmp)) → HasParent w x.target
    at (inl e) stands = subst (HasParent w) (sym e) (parent_home_of w x.place Tmp tree named.place stands)
    at (inr e) stands = subst (HasParent w) (sym e) (parent_beside w x.place Tmp New tree named.place stands)

-- what has to be restored can be
can_at : (k : Option Kind) (o t b : Option Node) → k ≡ kind_of o → (IsSome o → IsLoose b) → (IsDirectory t → ⊥) → CanRestore k t b
can_at k None t b is loose over = subst (λ k. CanRestore k t b) (sym is) tt
can_at k (Some (File c m)) t b is loose over = subst (λ k. CanRestore k t b) (sym is) (loose refl, over)
can_at k (Some (Dir m)) t b is loose over = subst (λ k. CanRestore k t b) (sym is) (loose refl, over)
can_at k (Some (Link l)) t b is loose over = subst (λ k. CanRestore k t b) (sym is) (loose refl, over)

restored_none : (k : Option Kind) (o : Option Node) (t b : Path) (u : World) → k ≡ kind_of o → o ≡ None → restored k t b u ≡ u
restored_none k o t b u is none = ap (λ k. restored k t b u) (is ∙ ap kind_of none)

restored_some : (k : Option Kind) (o : Option Node) (t b : Path) (u : World) → k ≡ kind_of o → IsSome o → restored k t b u ≡ moved u b t
restored_some k None t b u is some = absurd (true≢false (sym some))
restored_some k (Some (File c m)) t b u is some = ap (λ k. restored k t b u) is
restored_some k (Some (Dir m)) t b u is some = ap (λ k. restored k t b u) is
restored_some k (Some (Link l)) t b u is some = ap (λ k. restored k t b u) is

nothing_or : (o : Option Node) → (o ≡ None) ⊎ IsSome o
nothing_or None = inl refl
nothing_or (Some n) = inr refl

-- the shipped node is away, or goes as soon as what was there is restored
pub record IsLeaving (x : Work) (was v u : World) : Type 0 where
  pub target : was x.target ≡ None → u x.target ≡ None
  pub loose : IsSome (was x.target) → IsLoose (was x.target)
  pub over : IsDirectory (u x.target) → ⊥
  pub backup : u x.backup ≡ saved true (was x.target) (was x.backup)
  pub spare : IsSome (was x.target) → cleared (was x.backup) ≡ None
  pub fresh : u x.fresh ≡ cleared (was x.fresh)
  pub rest : (q : Path) → Misses x q → u q ≡ v q

module _ (x : Work) (was v u : World) (apart : IsApart x) (seen : IsSeen was x) (leaving : IsLeaving x was v u) where
  pub can_restore : CanRestore x.had (u x.target) (u x.backup)
  can_restore = can_at x.had (was x.target) (u x.target) (u x.backup) seen
      (λ some. subst IsLoose (sym (leaving.backup ∙ saved_some (was x.target) (was x.backup) some)) (leaving.loose some)) leaving.over

  pub put_back_restored : PutBack (x ∷ []) was v (restored x.had x.target x.backup u)
  put_back_restored = elim (nothing_or (was x.target)) [
    | inl none ↦ subst (PutBack (x ∷ []) was v) (sym (restored_none x.had (was x.target) x.target x.backup u seen none)) record {
      each = (
        record {
          is = inl record { target = leaving.target none ∙ sym none; backup = leaving.backup ∙ ap (λ o. saved true o (was x.backup)) none };
          fresh = leaving.fresh;
        },
        tt,
      );
      rest = λ q misses. leaving.rest q misses.0;
    }
    | inr some ↦ subst (PutBack (x ∷ []) was v) (sym (restored_some x.had (was x.target) x.target x.backup u seen some))
        (let one = put u x.backup None in
        record {
          each = (
            record {
              is = inl record {
                target = put_same one x.target x.target (u x.backup) refl ∙ leaving.backup ∙ saved_some (was x.target) (was x.backup) some;
                backup = put_other one x.target x.backup (u x.backup) apart.backup ∙ put_same u x.backup x.backup None refl ∙ sym (leaving.spare some);
              };
              fresh = put_other one x.target x.fresh (u x.backup) apart.fresh ∙ put_other u x.backup x.fresh None apart.spare ∙ leaving.fresh;
            },
            tt,
          );
          rest = λ q misses. put_other one x.target q (u x.backup) misses.0.target ∙ put_other u x.backup q None misses.0.backup ∙ leaving.rest q misses.0;
        })
  ]

-- at the end it is whole

pub back_whole : (old v : World) (y : Work) → HasPutBack old v y → IsWhole old v y
back_whole old v y back = by back.is where
  by : IsBack old v y ⊎ Stays old v y → IsWhole old v y
  by (inl is) = before is.target
  by (inr stays) = behind stays.was (shown_at y.node (v y.target) stays.target) stays.backup

pub back_amid : (x : Work) (was v w : World) → PutBack (x ∷ []) was v w → IsAmid (x ∷ []) was v w
back_amid x was v w back = record { each = (back_whole was w x back.each.0, tt); rest = back.rest }

-- before anything is done

pub amid_written : (x : Work) (was v : World) → IsWrittenFrom (x ∷ []) was v → IsAmid (x ∷ []) was v v
amid_written x was v from = record { each = (written_whole was v x from.has.0, tt); rest = λ q misses. refl }

-- what wasn't written
left_back : (x : Work) (was v : World) → HasWritten was v x → is_written x.node (was x.target) ≡ false → PutBack (x ∷ []) was v v
left_back x was v has left = record {
  each = (
    record {
      is = inl record {
        target = has.target ∙ ap (λ a. shown a x.node (was x.target)) left;
        backup = has.backup ∙ ap (λ a. saved a (was x.target) (was x.backup)) left;
      };
      fresh = has.fresh;
    },
    tt,
  );
  rest = λ q misses. refl;
}

pub left_back_directory : (x : Work) (v : World) → x.had ≡ Some kind.Directory → GoesBack (x ∷ []) v v
left_back_directory x v had was from = left_back x was v from.has.0 (keeps_directory x.node (was x.target) (kind_directory (was x.target) (sym had ∙ from.seen.0)))

pub left_back_link : (x : Work) (v : World) → is_directory (Some x.node) ≡ true → x.had ≡ Some kind.SymbolicLink → GoesBack (x ∷ []) v v
left_back_link x v node had was from = at x.node refl node where
  at : (n : Node) → x.node ≡ n → is_directory (Some n) ≡ true → PutBack (x ∷ []) was v v
  at (File b m) is dir = absurd (true≢false (sym dir))
  at (Dir m) is dir = left_back x was v from.has.0 (ap (λ n. is_written n (was x.target)) is ∙ keeps_link m (was x.target) (sym had ∙ from.seen.0))
  at (Link t) is dir = absurd (true≢false (sym dir))

-- a file or link

module _ (x : Work) (was v : World) (named : IsNamed x) (loose : is_directory (Some x.node) ≡ false) (from : IsWrittenFrom (x ∷ []) was v) where
  module _ (plain : is_directory (was x.target) ≡ false) where
    loose_wrote : is_written x.node (was x.target) ≡ true
    loose_wrote = writes_loose x.node (was x.target) loose plain

    pub loose_there : v x.target ≡ Some x.node
    loose_there = from.has.0.target ∙ ap (λ a. shown a x.node (was x.target)) loose_wrote

    loose_backup : v x.backup ≡ saved true (was x.target) (was x.backup)
    loose_backup = from.has.0.backup ∙ ap (λ a. saved a (was x.target) (was x.backup)) loose_wrote

  -- nothing had stood there
  module _ (had : x.had ≡ None) where
    loose_none : was x.target ≡ None
    loose_none = kind_none (was x.target) (sym had ∙ from.seen.0)

    loose_none_plain : is_directory (was x.target) ≡ false
    loose_none_plain = ap is_directory loose_none

    pub loose_taken_there : IsLoose (v x.target)
    loose_taken_there = loose_at (v x.target) x.node (loose_there loose_none_plain) loose

    pub loose_taken : PutBack (x ∷ []) was v (put v x.target None)
    loose_taken =
        let a = named_apart x named in
        record {
          each = (
            record {
              is = inl record {
                target = put_same v x.target x.target None refl ∙ sym loose_none;
                backup = put_other v x.target x.backup None a.backup ∙ loose_backup loose_none_plain ∙ ap (λ o. saved true o (was x.backup)) loose_none;
              };
              fresh = put_other v x.target x.fresh None a.fresh ∙ from.has.0.fresh;
            },
            tt,
          );
          rest = λ q misses. put_other v x.target q None misses.0.target;
        }

  -- a file or link had
  pub loose_leaving : IsLoose (was x.target) → IsLeaving x was v v
  loose_leaving stood =
      let plain = plain_directory (was x.target) stood.1 in
      record {
        target = λ none. absurd (true≢false (sym stood.0 ∙ ap is_some none));
        loose = λ some. stood;
        over = no_directory (v x.target) (ap is_directory (loose_there plain) ∙ loose);
        backup = loose_backup plain;
        spare = λ some. (free_loose x.node (was x.target) (was x.backup) (was x.fresh) loose plain from.free.0).0;
        fresh = from.has.0.fresh;
        rest = λ q misses. refl;
      }

-- a directory that was made

module _ (x : Work) (was v : World) (named : IsNamed x) (access : Access) (node : x.node ≡ Dir access) (had : (x.had ≡ None) ⊎ (x.had ≡ Some kind.File)) (from : IsWrittenFrom (x ∷ []) was v) where
  stood : (was x.target ≡ None) ⊎ (Some kind.File ≡ kind_of (was x.target))
  stood = elim had [ inl none ↦ inl (kind_none (was x.target) (sym none ∙ from.seen.0)) | inr file ↦ inr (sym file ∙ from.seen.0) ]

  made_wrote : is_written x.node (was x.target) ≡ true
  made_wrote = ap (λ n. is_written n (was x.target)) node ∙ by stood where
    by : (was x.target ≡ None) ⊎ (Some kind.File ≡ kind_of (was x.target)) → is_written (Dir access) (was x.target) ≡ true
    by (inl none) = makes_at_none access (was x.target) none
    by (inr file) = makes_over_file access (was x.target) file

  made_there : v x.target ≡ Some x.node
  made_there = from.has.0.target ∙ ap (λ a. shown a x.node (was x.target)) made_wrote

  pub made_directory : IsDirectory (v x.target)
  made_directory = (access, made_there ∙ ap Some node)

  made_backup : v x.backup ≡ saved true (was x.target) (was x.backup)
  made_backup = from.has.0.backup ∙ ap (λ a. saved a (was x.target) (was x.backup)) made_wrote

  -- something is below it
  pub made_stays : (IsBare v x.target → ⊥) → PutBack (x ∷ []) was v v
  made_stays below = record {
    each = (
      record {
        is = inr record { made = (access, node); was = made_wrote; target = made_there; backup = made_backup; below = below };
        fresh = from.has.0.fresh;
      },
      tt,
    );
    rest = λ q misses. refl;
  }

  -- it is removed
  pub made_leaving : IsLeaving x was v (put v x.target None)
  made_leaving =
      let a = named_apart x named in
      record {
        target = λ none. put_same v x.target x.target None refl;
        loose = λ some. by stood some;
        over = no_directory (put v x.target None x.target) (ap is_directory (put_same v x.target x.target None refl));
        backup = put_other v x.target x.backup None a.backup ∙ made_backup;
        spare = λ some. spare stood some;
        fresh = put_other v x.target x.fresh None a.fresh ∙ from.has.0.fresh;
        rest = λ q misses. put_other v x.target q None misses.target;
      }
    where
      by : (was x.target ≡ None) ⊎ (Some kind.File ≡ kind_of (was x.target)) → IsSome (was x.target) → IsLoose (was x.target)
      by (inl none) some = absurd (true≢false (sym some ∙ ap is_some none))
      by (inr file) some = kind_file (was x.target) file

      spare : (was x.target ≡ None) ⊎ (Some kind.File ≡ kind_of (was x.target)) → IsSome (was x.target) → cleared (was x.backup) ≡ None
      spare (inl none) some = absurd (true≢false (sym some ∙ ap is_some none))
      spare (inr file) some = free_over_file access (was x.target) (was x.backup) (was x.fresh) file (subst (λ n. IsFree n (was x.target) (was x.backup) (was x.fresh)) node from.free.0)

  pub made_between : IsAmid (x ∷ []) was v (put v x.target None)
  made_between = record { each = (by stood, tt); rest = λ q misses. made_leaving.rest q misses.0 } where
    by : (was x.target ≡ None) ⊎ (Some kind.File ≡ kind_of (was x.target)) → IsWhole was (put v x.target None) x
    by (inl none) = before (put_same v x.target x.target None refl ∙ sym none)
    by (inr file) = between access node made_wrote (put_same v x.target x.target None refl) (made_leaving.backup ∙ saved_some (was x.target) (was x.backup) (kind_file (was x.target) file).0)

-- whichever world it was written from

going_back : (x : Work) (v w : World) → GoesBack (x ∷ []) v w → IsGoingBack (x ∷ []) v w
going_back x v w back was from = back_amid x was v w (back was from)

pub going_back_same : (x : Work) (v w : World) → w ≡ v → IsGoingBack (x ∷ []) v w
going_back_same x v w same was from = subst (IsAmid (x ∷ []) was v) (sym same) (amid_written x was v from)

-- a file or link had stood there
pub HadLoose : Work → Type 0
HadLoose x = (x.had ≡ Some kind.File) ⊎ (x.had ≡ Some kind.SymbolicLink)

had_loose : (x : Work) (was : World) → HadLoose x → IsSeen was x → IsLoose (was x.target)
unfolding HadLoose
had_loose x was (inl file) seen = kind_file (was x.target) (sym file ∙ seen)
had_loose x was (inr link) seen = kind_link (was x.target) (sym link ∙ seen)

pub had_file : (x : Work) → x.had ≡ Some kind.File → HadLoose x
unfolding HadLoose
had_file x is = inl is

pub had_link : (x : Work) → x.had ≡ Some kind.SymbolicLink → HadLoose x
unfolding HadLoose
had_link x is = inr is

module _ (x : Work) (v : World) (named : IsNamed x) (loose : is_directory (Some x.node) ≡ false) (had : HadLoose x) where
  pub loose_can : ((was : World) × IsWrittenFrom (x ∷ []) was v) → CanRestore x.had (v x.target) (v x.backup)
  loose_can w = can_restore x w.0 v v (named_apart x named) w.1.seen.0 (loose_leaving x w.0 v named loose w.1 (had_loose x w.0 had w.1.seen.0))

  pub loose_back : GoesBack (x ∷ []) v (restored x.had x.target x.backup v)
  loose_back was from = put_back_restored x was v v (named_apart x named) from.seen.0 (loose_leaving x was v named loose from (had_loose x was had from.seen.0))

  pub loose_going : (w : World) → (w ≡ v) ⊎ (w ≡ restored x.had x.target x.backup v) → IsGoingBack (x ∷ []) v w
  loose_going w (inl same) = going_back_same x v w same
  loose_going w (inr is) = subst (IsGoingBack (x ∷ []) v) (sym is) (going_back x v (restored x.had x.target x.backup v) loose_back)

module _ (x : Work) (v : World) (named : IsNamed x) (loose : is_directory (Some x.node) ≡ false) (none : x.had ≡ None) where
  pub none_there : ((was : World) × IsWrittenFrom (x ∷ []) was v) → IsLoose (v x.target)
  none_there w = loose_taken_there x w.0 v named loose w.1 none

  pub none_back : GoesBack (x ∷ []) v (put v x.target None)
  none_back was from = loose_taken x was v named loose from none

  pub none_going : IsGoingBack (x ∷ []) v (put v x.target None)
  none_going = going_back x v (put v x.target None) none_back

module _ (x : Work) (v u : World) (named : IsNamed x) (made : MakesDirectory x) (gone : u ≡ put v x.target None) where
  pub unmade_there : ((was : World) × IsWrittenFrom (x ∷ []) was v) → IsDirectory (v x.target)
  unmade_there w = made_directory x w.0 v named made.node.0 made.node.1 made.had w.1

  leaves : (was : World) → IsWrittenFrom (x ∷ []) was v → IsLeaving x was v u
  leaves was from = subst (IsLeaving x was v) (sym gone) (made_leaving x was v named made.node.0 made.node.1 made.had from)

  pub unmade_going : IsGoingBack (x ∷ []) v u
  unmade_going was from = subst (IsAmid (x ∷ []) was v) (sym gone) (made_between x was v named made.node.0 made.node.1 made.had from)

  pub unmade_can : ((was : World) × IsWrittenFrom (x ∷ []) was v) → CanRestore x.had (u x.target) (u x.backup)
  unmade_can w = can_restore x w.0 v u (named_apart x named) w.1.seen.0 (leaves w.0 w.1)

  pub unmade_back : GoesBack (x ∷ []) v (restored x.had x.target x.backup u)
  unmade_back was from = put_back_restored x was v u (named_apart x named) from.seen.0 (leaves was from)

  pub unmade_restored : (w : World) → (w ≡ u) ⊎ (w ≡ restored x.had x.target x.backup u) → IsGoingBack (x ∷ []) v w
  unmade_restored w (inl same) = subst (IsGoingBack (x ∷ []) v) (sym same) unmade_going
  unmade_restored w (inr is) = subst (IsGoingBack (x ∷ []) v) (sym is) (going_back x v (restored x.had x.target x.backup u) unmade_back)

pub unmade_stays : (x : Work) (v w : World) → IsNamed x → MakesDirectory x → w ≡ v → (IsBare v x.target → ⊥) → GoesBack (x ∷ []) v w
unmade_stays x v w named made same below was from = subst (PutBack (x ∷ []) was v) (sym same) (made_stays x was v named made.node.0 made.node.1 made.had from below)
