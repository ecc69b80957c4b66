-- The next path of a list that is put back from its end.
use Rattle.std.proofs.Common.{◌≡◌, ◌⊎◌, ℕ, ◌+◌, ◌<◌, Bool, List, [], ◌∷◌, ◌++◌, length, get_or, drop, inl, inr, refl, sym, subst, ◌∙◌, arith}
use Rattle.std.proofs.lemmas.List.{drop_all}
use Rattle.std.proofs.Math.Seq.{drop-cons}
use Rattle.std.proofs.Math.Numerals.{add-one}
use Rattle.host_core.specs.Paths.{Path}
use Rattle.host_core.specs.World.{World, SameOn}
use Rattle.package_files.specs.declared.work.Work.{Work}
use Rattle.package_files.specs.Files.{Each, Misses, HasWritten, Written, IsBack, Stays, HasPutBack, PutBack, IsWhole, IsAmid}
use Rattle.package_files.specs.Free.{IsFreeIn, IsSeen, IsWrittenFrom}
use Rattle.package_files.specs.Names.{IsNamed, IsBefore, AllInOrder}
use Rattle.package_files.specs.Apart.{Differ, HasNames}
use Rattle.package_files.specs.Back.{IsGoingBack}
use Rattle.package_files.specs.Laid.{IsUnderWay, IsUnderWayFrom, CanUndo, Undoes, IsUndoing}
use Rattle.package_files.proofs.WorkNames.{IsNotBelow}
use Rattle.package_files.proofs.WorkLists.{each_map, each_of, each_front, each_later, each_join, order_later, order_down, differ_later, differ_of, differ_back, Agree, new_agree, agree_by, agree_all}
use Rattle.package_files.proofs.Written.{written_whole, whole_new}
use Rattle.package_files.proofs.Laid.{under_way_new, under_way_whole}
use Rattle.package_files.proofs.BackOne.{back_whole}

-- a later change that misses y and all below it leaves what was said of y
back_agree : (old v w : World) (y : Work) → Agree w v y → ((rest : List ℕ) → w (y.target ++ 47 ∷ rest) ≡ v (y.target ++ 47 ∷ rest)) → HasPutBack old v y → HasPutBack old w y
back_agree old v w y same below has = record { is = of_is has.is; fresh = same.fresh ∙ has.fresh } where
  of_is : (IsBack old v y ⊎ Stays old v y) → IsBack old w y ⊎ Stays old w y
  of_is (inl back) = inl record { target = same.target ∙ back.target; backup = same.backup ∙ back.backup }
  of_is (inr stays) = inr record {
    made = stays.made;
    was = stays.was;
    target = same.target ∙ stays.target;
    backup = same.backup ∙ stays.backup;
    below = λ bare. stays.below (λ rest. sym (below rest) ∙ bare rest);
  }

module _ (a : List Work) (x : Work) (b : List Work) (named : Each IsNamed (a ++ x ∷ b)) (order : AllInOrder (a ++ x ∷ b)) where
  named_a : Each IsNamed a
  named_a = each_front IsNamed a (x ∷ b) named

  named_b : Each IsNamed (x ∷ b)
  named_b = each_later IsNamed a (x ∷ b) named

  order_b : AllInOrder (x ∷ b)
  order_b = order_later a (x ∷ b) order

  later : Each (λ y. Differ x y × IsNotBelow x y) b
  later = differ_later x b named_b.0 named_b.1 order_b.0

  -- a work of the front differs from all that come after
  behind_it : (y : Work) → IsNamed y → Each (IsBefore y) (x ∷ b) → Each (λ z. Differ z y) (x ∷ b)
  behind_it y name less = each_map IsNamed (IsBefore y) (λ z. Differ z y) (λ z other before. differ_back y z (differ_of y z name other before)) (x ∷ b) named_b less

  module _ (was mid v : World) (from : IsUnderWayFrom (a ++ x ∷ b) was mid) (more : PutBack b was mid v) where
    pub from_at : IsUnderWayFrom (x ∷ []) was v
    from_at = record {
      free = ((each_later (IsFreeIn was) a (x ∷ b) from.free).0, tt);
      seen = ((each_later (IsSeen was) a (x ∷ b) from.seen).0, tt);
      has = (under_way_new was mid v x (agree_all v mid x b more.rest (each_of (λ y. Differ x y × IsNotBelow x y) (λ y. Differ y x) (λ y d. differ_back x y d.0) b later)) (each_later (IsUnderWay was mid) a (x ∷ b) from.has).0, tt);
    }

    -- one path more
    pub back_more : (w : World) → PutBack (x ∷ []) was v w → PutBack (x ∷ b) was mid w
    back_more w one =
        let same : (q : Path) → Misses x q → w q ≡ v q = λ q miss. one.rest q (miss, tt) in
        record {
          each = (one.each.0, each_map (λ y. Differ x y × IsNotBelow x y) (HasPutBack was v) (HasPutBack was w) (λ y d. back_agree was v w y (agree_by w v x y same d.0) (λ rest. same _ (d.1 rest))) b later more.each);
          rest = λ q misses. one.rest q (misses.0, tt) ∙ more.rest q misses.1;
        }

    -- while it is put back
    pub going_more : (c : World) → IsAmid (x ∷ []) was v c → IsAmid (a ++ x ∷ b) was mid c
    going_more c amid =
        let same : (q : Path) → Each (λ z. Misses z q) (x ∷ b) → c q ≡ mid q = λ q misses. amid.rest q (misses.0, tt) ∙ more.rest q misses.1 in
        record {
          each = each_join (IsWhole was c) a (x ∷ b)
              (each_map (IsUnderWay was mid) (λ y. IsNamed y × Each (IsBefore y) (x ∷ b)) (IsWhole was c)
              (λ y has name. under_way_whole was c y (under_way_new was mid c y (agree_all c mid y (x ∷ b) same (behind_it y name.0 name.1)) has)) a
              (each_front (IsUnderWay was mid) a (x ∷ b) from.has)
              (each_map IsNamed (λ y. Each (IsBefore y) (x ∷ b)) (λ y. IsNamed y × Each (IsBefore y) (x ∷ b)) (λ y name less. (name, less)) a named_a (order_down a (x ∷ b) order))) (
                amid.each.0,
                each_map (λ y. Differ x y × IsNotBelow x y) (HasPutBack was v) (IsWhole was c) (λ y d back. whole_new was v c y (agree_by c v x y (λ q miss. amid.rest q (miss, tt)) d.0) (back_whole was v y back)) b later more.each,
              );
          rest = λ q misses. same q (each_later (λ y. Misses y q) a (x ∷ b) misses);
        }

-- whichever world they were written from

module _ (works a : List Work) (x : Work) (b : List Work) (is : works ≡ a ++ x ∷ b) (named : Each IsNamed works) (order : AllInOrder works) (mid v : World) (more : (was : World) → IsUnderWayFrom works was mid → PutBack b was mid v) where
  from_here : (was : World) → IsUnderWayFrom works was mid → IsUnderWayFrom (x ∷ []) was v
  from_here was from = from_at a x b (subst (Each IsNamed) is named) (subst AllInOrder is order) was mid v (subst (λ l. IsUnderWayFrom l was mid) is from) (more was from)

  pub can_here : CanUndo works mid → CanUndo (x ∷ []) v
  can_here w = (w.0, from_here w.0 w.1)

  pub back_here : (w : World) → Undoes (x ∷ []) v w → (was : World) → IsUnderWayFrom works was mid → PutBack (x ∷ b) was mid w
  back_here w back was from =
      back_more a x b (subst (Each IsNamed) is named) (subst AllInOrder is order) was mid v (subst (λ l. IsUnderWayFrom l was mid) is from)
      (more was from) w (back was (from_here was from))

  pub going_here : (c : World) → IsUndoing (x ∷ []) v c → IsUndoing works mid c
  going_here c going was from = subst (λ l. IsAmid l was mid c) (sym is)
      (going_more a x b (subst (Each IsNamed) is named) (subst AllInOrder is order) was mid v (subst (λ l. IsUnderWayFrom l was mid) is from)
      (more was from) c (going was (from_here was from)))

-- nothing is put back yet

pub back_none : (works : List Work) (was mid : World) → PutBack (drop (length works) works) was mid mid
back_none works was mid = subst (λ l. PutBack l was mid mid) (sym (drop_all (length works) works (omega arith))) record { each = tt; rest = λ q misses. refl }

pub undoing_none : (works : List Work) (mid : World) → IsUndoing works mid mid
undoing_none works mid was from = record { each = each_of (IsUnderWay was mid) (IsWhole was mid) (λ y. under_way_whole was mid y) works from.has; rest = λ q misses. refl }

pub going_none : (works : List Work) (mid : World) → IsGoingBack works mid mid
going_none works mid was from = record { each = each_of (HasWritten was mid) (IsWhole was mid) (λ y. written_whole was mid y) works from.has; rest = λ q misses. refl }

pub rest_at : (works : List Work) (i : ℕ) (x : Work) → i < length works → x ≡ get_or works i x → drop i works ≡ x ∷ drop (i + 1) works
rest_at works i x within at = drop-cons works i x within ∙ (λ j. sym at j ∷ drop (sym (add-one i) j) works)

-- scripts that leave the names alone leave what was written

pub written_later : (works : List Work) (kept : Path → Bool) (old mid later : World) → Each (HasNames kept) works → Each (IsFreeIn old) works → Each (IsSeen old) works → Written works old mid → SameOn kept mid later → IsWrittenFrom works old later
written_later works kept old mid later names free seen written same = record {
  free = free;
  seen = seen;
  has = each_map (HasNames kept) (HasWritten old mid) (HasWritten old later) (λ y has written. new_agree old mid later y record { target = same y.target has.target; backup = same y.backup has.backup; fresh = same y.fresh has.fresh } written) works names written.each;
}
