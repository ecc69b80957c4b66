-- Of paths that are prepared one after another one isn't: those before it are put back.
use Rattle.std.proofs.Common.{◌≡◌, ◌⊎◌, List, [], ◌∷◌, ◌++◌, inl, inr, sym, ap, subst, ◌∙◌}
use Rattle.host_core.specs.Paths.{Path}
use Rattle.host_core.specs.World.{World}
use Rattle.package_files.specs.declared.work.Work.{Work}
use Rattle.package_files.specs.Files.{cleared, Each, Misses, IsBack, Stays, HasPutBack, PutBack, HasUndone, IsUnwritten, Undone, IsWhole, before, IsAmid}
use Rattle.package_files.specs.Free.{IsFreeIn, IsSeen}
use Rattle.package_files.specs.Names.{IsNamed, IsBefore, AllInOrder}
use Rattle.package_files.specs.Apart.{Differ}
use Rattle.package_files.specs.Laid.{HasPrepared, Prepared, IsUnderWay, IsUnderWayFrom, CanUndo, Undoes, IsUndoing}
use Rattle.package_files.specs.Steps.{AreCleared}
use Rattle.package_files.proofs.WorkNames.{named_apart, IsNotBelow}
use Rattle.package_files.proofs.WorkLists.{each_map, each_of, each_front, each_later, each_join, order_across, differ_earlier, differ_back, Agree, agree_by, agree_all}
use Rattle.package_files.proofs.Laid.{prepared_new}
use Rattle.package_files.proofs.WriteLists.{earlier, later, agree_at}

agree_then : (u v w : World) (x : Work) → Agree u v x → Agree v w x → Agree u w x
agree_then u v w x first second = record { target = first.target ∙ second.target; backup = first.backup ∙ second.backup; fresh = first.fresh ∙ second.fresh }

-- what was put back is undone
undone_back : (old new : World) (y : Work) → HasPutBack old new y → HasUndone old new y
undone_back old new y back = record { is = by back.is; fresh = inr back.fresh } where
  by : IsBack old new y ⊎ Stays old new y → IsUnwritten old new y ⊎ Stays old new y
  by (inl is) = inl record { target = is.target; backup = inr is.backup }
  by (inr stays) = inr stays

-- what wasn't reached is as it was
undone_same : (old new : World) (y : Work) → Agree new old y → HasUndone old new y
undone_same old new y same = record { is = inl record { target = same.target; backup = inl same.backup }; fresh = inl same.fresh }

module _ (a : List Work) (x : Work) (b : List Work) (named : Each IsNamed (a ++ x ∷ b)) (order : AllInOrder (a ++ x ∷ b)) (w v u : World) (prepared : Prepared a w v) (clear : AreCleared x v u) where
  name : IsNamed x
  name = (each_later IsNamed a (x ∷ b) named).0

  kept : (q : Path) → Misses x q → u q ≡ v q
  kept q misses = clear.rest q misses.backup misses.fresh

  -- the later works differ from all before
  apart_from : Each (λ z. Each (λ y. Differ y z) a) b
  apart_from = each_map IsNamed (λ z. Each (λ y. IsBefore y z) a) (λ z. Each (λ y. Differ y z) a) (λ z other less. differ_earlier a z (each_front IsNamed a (x ∷ b) named) other less) b
      (each_later IsNamed a (x ∷ b) named).1 (order_across a (x ∷ b) order).1

  pub from_front : Each (IsFreeIn w) (a ++ x ∷ b) → Each (IsSeen w) (a ++ x ∷ b) → IsUnderWayFrom a w u
  from_front free seen = record {
    free = each_front (IsFreeIn w) a (x ∷ b) free;
    seen = each_front (IsSeen w) a (x ∷ b) seen;
    has = each_map (λ y. Differ y x) (HasPrepared w v) (IsUnderWay w u) (λ y d has. inr (prepared_new w v u y (agree_by u v x y kept (differ_back y x d)) has)) a (earlier a x b named order) prepared.each;
  }

  module _ (c : World) (rest : (q : Path) → Each (λ y. Misses y q) a → c q ≡ u q) where
    at_target : c x.target ≡ w x.target
    at_target = let n = named_apart x name in
        (agree_all c u x a rest (earlier a x b named order)).target ∙ clear.rest x.target (λ e. n.backup (sym e)) (λ e. n.fresh (sym e)) ∙ (agree_at a x b named order w v prepared).target

    at_it : HasUndone w c x
    at_it =
        let last = agree_all c u x a rest (earlier a x b named order) in
        let first = agree_at a x b named order w v prepared in
        record {
          is = inl record { target = at_target; backup = inr (last.backup ∙ clear.backup ∙ ap cleared first.backup) };
          fresh = inr (last.fresh ∙ clear.fresh ∙ ap cleared first.fresh);
        }

    behind_it : Each (Agree c w) b
    behind_it = each_map (λ z. Differ x z × IsNotBelow x z) (λ z. Each (λ y. Differ y z) a) (Agree c w)
        (λ z d before_z. agree_then c u w z (agree_all c u z a rest before_z) (agree_then u v w z (agree_by u v x z kept d.0) (agree_all v w z a prepared.rest before_z)))
        b (later a x b named order) apart_from

    all_rest : (q : Path) → Each (λ y. Misses y q) (a ++ x ∷ b) → c q ≡ w q
    all_rest q misses =
        let front = each_front (λ y. Misses y q) a (x ∷ b) misses in
        rest q front ∙ kept q (each_later (λ y. Misses y q) a (x ∷ b) misses).0 ∙ prepared.rest q front

  pub undone_all : (c : World) → PutBack a w u c → Undone (a ++ x ∷ b) w c
  undone_all c back = record {
    each = each_join (HasUndone w c) a (x ∷ b) (each_of (HasPutBack w c) (HasUndone w c) (λ y. undone_back w c y) a back.each)
        (at_it c back.rest, each_of (Agree c w) (HasUndone w c) (λ z. undone_same w c z) b (behind_it c back.rest));
    rest = all_rest c back.rest;
  }

  -- while they are put back
  pub amid_undoing : (c : World) → IsAmid a w u c → IsAmid (a ++ x ∷ b) w w c
  amid_undoing c amid = record {
    each = each_join (IsWhole w c) a (x ∷ b) amid.each
        (before (at_target c amid.rest), each_of (Agree c w) (IsWhole w c) (λ z same. before same.target) b (behind_it c amid.rest));
    rest = all_rest c amid.rest;
  }

-- in a list of which they are the first

module _ (works a : List Work) (x : Work) (b : List Work) (is : works ≡ a ++ x ∷ b) (named : Each IsNamed works) (order : AllInOrder works) (w v u : World) (prepared : Prepared a w v) (clear : AreCleared x v u) (free : Each (IsFreeIn w) works) (seen : Each (IsSeen w) works) where
  from_it : IsUnderWayFrom a w u
  from_it = from_front a x b (subst (Each IsNamed) is named) (subst AllInOrder is order) w v u prepared clear (subst (Each (IsFreeIn w)) is free) (subst (Each (IsSeen w)) is seen)

  pub can_undo : CanUndo a u
  can_undo = (w, from_it)

  pub undone_here : (c : World) → Undoes a u c → Undone works w c
  undone_here c back = subst (λ l. Undone l w c) (sym is)
      (undone_all a x b (subst (Each IsNamed) is named) (subst AllInOrder is order) w v u prepared clear c (back w from_it))

  pub undoing_here : (c : World) → IsUndoing a u c → IsAmid works w w c
  undoing_here c going = subst (λ l. IsAmid l w w c) (sym is)
      (amid_undoing a x b (subst (Each IsNamed) is named) (subst AllInOrder is order) w v u prepared clear c (going w from_it))

pub order_front : (a b : List Work) → AllInOrder (a ++ b) → AllInOrder a
order_front [] b all = tt
order_front (y ∷ a) b all = (each_front (IsBefore y) a b all.0, order_front a b all.1)

-- all have come some way, and are put back

module _ (works : List Work) (was u : World) (from : IsUnderWayFrom works was u) (rest : (q : Path) → Each (λ y. Misses y q) works → u q ≡ was q) where
  pub undone_from : (c : World) → Undoes works u c → Undone works was c
  undone_from c back = let put = back was from in
      record { each = each_of (HasPutBack was c) (HasUndone was c) (λ y. undone_back was c y) works put.each; rest = λ q misses. put.rest q misses ∙ rest q misses }

  pub undoing_from : (c : World) → IsUndoing works u c → IsAmid works was was c
  undoing_from c going = let amid = going was from in record { each = amid.each; rest = λ q misses. amid.rest q misses ∙ rest q misses }

pub under_way_prepared : (works : List Work) (was u : World) → Each (IsFreeIn was) works → Each (IsSeen was) works → Prepared works was u → IsUnderWayFrom works was u
under_way_prepared works was u free seen prepared = record { free = free; seen = seen; has = each_of (HasPrepared was u) (IsUnderWay was u) (λ y has. inr has) works prepared.each }
