-- What stands at the names beside places once the files were put back.
use Rattle.std.proofs.Common.{◌≡◌, ◌⊎◌, inl, inr, true, false, List, [], ◌++◌, Option, Some, None, refl, sym, ap, subst, ◌∙◌}
use Rattle.std.proofs.lemmas.Bool.{false_from_ne_true}
use Rattle.std.proofs.lemmas.List.{append-nil}
use Rattle.std.proofs.lemmas.List.Sorted.{IsPermutation-sym}
use Rattle.host_core.specs.Paths.{Path}
use Rattle.host_core.specs.World.{World, Change, changed}
use Rattle.host_core.proofs.Scripts.{changed-append, changed_at}
use Rattle.host_core.specs.declared.node.Node.{Node}
use Rattle.administration.specs.Places.{is_within, list_path, tmp_path}
use Rattle.control_members.specs.Stored.{stored_member_path}
use Rattle.file_check.specs.Rearranged.{IsRearranged}
use Rattle.package_files.specs.declared.work.Work.{Work}
use Rattle.package_files.specs.Files.{Each, HasUndone, IsSpared, IsUnwritten, Misses, Stays, cleared, saved}
use Rattle.package_files.specs.Names.{IsNamed}
use Rattle.package_files.proofs.WorkLists.{each_map}
use Rattle.listed_files.proofs.Apart.{apart, list_below}
use Rattle.unpack_steps.specs.Clearing.{IsBesideOwn}
use Rattle.unpack_steps.specs.Task.{Task}
use Rattle.unpack_steps.specs.Trail.{HasGoneBack}
use Rattle.unpack_steps.proofs.Rearranged.{each_rearranged}
use Rattle.unpack_engine.specs.Units.{Given}
use Rattle.unpack_engine.proofs.Apart.{tmp_beside}
use Rattle.unpack_laws.specs.Marked.{IsNameBack}
use Rattle.unpack_laws.proofs.Clear.{clear_at, name_clear}
use Rattle.unpack_laws.proofs.Targets.{IsUndoneSince, Known, gone_back_since, hits_backup, hits_fresh, hits_target, known, name_apart, name_unnoted}

-- a target is no list or control file of the package
pub target_beside : (x : Work) → IsNamed x → (owner : Path) → IsBesideOwn owner x.target
target_beside x named owner = record {
  list = name_apart x named x.target (hits_target x) (list_path owner) (list_below owner);
  members = λ member is. name_apart x named x.target (hits_target x) (stored_member_path owner member) refl;
}

pub target_out_tmp : (x : Work) → IsNamed x → is_within tmp_path x.target ≡ false
target_out_tmp x named = false_from_ne_true (is_within tmp_path x.target) (λ within. hits_target x (apart x x.target named (tmp_beside [] x.target within).below))

module _ (g : Given) where
  -- what scripts made of what had stood at a name, or of what is left of it
  abbrev pub IsNameThen : World → World → Change → Work → Path → Type 0
  IsNameThen old now change x q = (now q ≡ changed change old q) ⊎ IsNameBack g old now change x.target x.backup x.node q

  -- both names of a work
  pub record IsBesideBack (old now : World) (change : Change) (x : Work) : Type 0 where
    pub backup : IsNameThen old now change x x.backup
    pub fresh : IsNameThen old now change x x.fresh

  -- in a world where the same stood at the target, and in a later one where the same stands at the name

  rebased_name : (x : Work) (q : Path) (old begun now : World) (c : Change) → begun x.target ≡ old x.target → IsNameBack g begun now c x.target x.backup x.node q → IsNameBack g old now c x.target x.backup x.node q
  rebased_name x q old begun now c same (IsNameBack.clear early late are mid is at) = IsNameBack.clear early late are mid is at
  rebased_name x q old begun now c same (IsNameBack.kept access dir backup early late are mid is at) = IsNameBack.kept access dir backup early late are mid (is ∙ changed_at early begun old x.target same) at

  name_then : (x : Work) (q : Path) (old last now : World) (c : Change) → now q ≡ last q → IsNameBack g old last c x.target x.backup x.node q → IsNameBack g old now c x.target x.backup x.node q
  name_then x q old last now c same (IsNameBack.clear early late are mid is at) = IsNameBack.clear early late are mid is (same ∙ at)
  name_then x q old last now c same (IsNameBack.kept access dir backup early late are mid is at) = IsNameBack.kept access dir backup early late are mid is (same ∙ at)

  moved_name : (x : Work) (q : Path) (old begun last now : World) (c : Change) → begun x.target ≡ old x.target → now q ≡ last q → IsNameThen begun last c x q → (now q ≡ changed c begun q) ⊎ IsNameBack g old now c x.target x.backup x.node q
  moved_name x q old begun last now c target same (inl is) = inl (same ∙ is)
  moved_name x q old begun last now c target same (inr is) = inr (name_then x q old last now c same (rebased_name x q old begun last c target is))

  -- the name that q is
  pub name_at : (x : Work) (q : Path) (old begun last now : World) (c : Change) → begun x.target ≡ old x.target → now q ≡ last q → IsBesideBack begun last c x → (q ≡ x.backup) ⊎ (q ≡ x.fresh)
      → (now q ≡ changed c begun q) ⊎ IsNameBack g old now c x.target x.backup x.node q
  name_at x q old begun last now c target same back (inl at) = moved_name x q old begun last now c target same (subst (λ r. IsNameThen begun last c x r) (sym at) back.backup)
  name_at x q old begun last now c target same back (inr at) = moved_name x q old begun last now c target same (subst (λ r. IsNameThen begun last c x r) (sym at) back.fresh)

  -- one work, from the world in which its file was begun

  module _ (x : Work) (start mid back now : World) (early late change : Change) (are : change ≡ early ++ late) where
    spared_there : (q : Path) → mid q ≡ changed early start q → now q ≡ changed late back q → IsSpared (mid q) (back q) → IsNameThen start now change x q
    spared_there q was at (inl same) =
        inl (at ∙ changed_at late back (changed early start) q (same ∙ was) ∙ ap (λ (v : World). v q) (sym (changed-append early late start)) ∙ ap (λ c. changed c start q) (sym are))
    spared_there q was at (inr is) = inr (IsNameBack.clear early late are back (clear_at (back q) (cleared (mid q)) is (name_clear (mid q))) at)

    module _ (was : mid x.target ≡ changed early start x.target) (was_backup : mid x.backup ≡ changed early start x.backup) (was_fresh : mid x.fresh ≡ changed early start x.fresh) (undone : HasUndone mid back x)
        (at_backup : now x.backup ≡ changed late back x.backup) (at_fresh : now x.fresh ≡ changed late back x.fresh) where
      stayed_there : Stays mid back x → IsNameBack g start now change x.target x.backup x.node x.backup
      stayed_there stays = by (mid x.target) refl
        where
          by : (had : Option Node) → mid x.target ≡ had → IsNameBack g start now change x.target x.backup x.node x.backup
          by None e = IsNameBack.clear early late are back
              (clear_at (back x.backup) (cleared (mid x.backup)) (stays.backup ∙ ap (λ (o : Option Node). saved true o (mid x.backup)) e) (name_clear (mid x.backup))) at_backup
          by (Some node) e =
              IsNameBack.kept stays.made.0 stays.made.1 refl early late are back (stays.backup ∙ ap (λ (o : Option Node). saved true o (mid x.backup)) e ∙ sym e ∙ was) at_backup

      backup_there : IsUnwritten mid back x ⊎ Stays mid back x → IsNameThen start now change x x.backup
      backup_there (inl is) = spared_there x.backup was_backup at_backup is.backup
      backup_there (inr stays) = inr (stayed_there stays)

      beside_back : IsBesideBack start now change x
      beside_back = record { backup = backup_there undone.is; fresh = spared_there x.fresh was_fresh at_fresh undone.fresh }

  module _ (t : Task) (all_named : Each IsNamed t.works) (works : List Work) (moved : IsRearranged t.works works) where
    unmoved_names : (c : Change) (now : World) → Each (IsBesideBack t.start.world now c) works → Each (IsBesideBack t.start.world now c) t.works
    unmoved_names c now all = each_rearranged (IsBesideBack t.start.world now c) (λ x is. record { backup = is.backup; fresh = is.fresh }) (λ x is. record { backup = is.backup; fresh = is.fresh }) works t.works (IsPermutation-sym _ _ moved) all

    -- nothing is left of them, and only calls came since
    names_set : (early late c : Change) → c ≡ early ++ late → (back now : World) → ((x : Work) → IsNamed x → (q : Path) → (Misses x q → ⊥) → now q ≡ changed late back q) → IsUndoneSince t all_named works moved early back
        → Each (IsBesideBack t.start.world now c) t.works
    names_set early late c are back now since undone = unmoved_names c now
        (each_map (Known t all_named works moved) (HasUndone undone.mid undone.last) (IsBesideBack t.start.world now c)
        (λ x known_x it.
        beside_back x t.start.world undone.mid undone.last now early late c are (undone.target x known_x) (undone.backup x known_x) (undone.fresh x known_x) it
        (since x known_x.0 x.backup (hits_backup x) ∙ changed_at late back undone.last x.backup (undone.rest x known_x.0 x.backup (hits_backup x)))
        (since x known_x.0 x.fresh (hits_fresh x) ∙ changed_at late back undone.last x.fresh (undone.rest x known_x.0 x.fresh (hits_fresh x))))
        works (known t all_named works moved) undone.each)

    pub names_since : (c : Change) (now : World) → IsUndoneSince t all_named works moved c now → Each (IsBesideBack t.start.world now c) t.works
    names_since c now undone = names_set c [] c (sym (append-nil c)) now now (λ x named q hits. refl) undone

    pub names_gone_back : (c : Change) (w : World) → HasGoneBack t works c w → Each (IsBesideBack t.start.world w c) t.works
    names_gone_back c w has = names_set has.early has.late c has.changes has.back w (λ x named q hits. has.since.rest q (name_unnoted x named q hits)) (gone_back_since t all_named works moved c w has)
