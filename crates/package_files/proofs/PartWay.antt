-- Paths that were prepared take their places one after another.
use Rattle.std.proofs.Common.{◌≡◌, ◌⊎◌, Bool, true, false, List, [], ◌∷◌, ◌++◌, Option, Some, None, inl, inr, refl, sym, ap, subst, ◌∙◌}
use Rattle.std.specs.Prelude.{ℕ, MatchOption}
use Rattle.host_core.specs.Paths.{Path}
use Rattle.host_core.specs.World.{World, is_directory, kind_of}
use Rattle.host_core.specs.declared.node.Node.{Node}
use Rattle.package_files.specs.declared.work.Work.{Work}
use Rattle.package_files.specs.Files.{is_written, cleared, shown, saved, Each, Misses, HasWritten, Written, Undone, IsWhole, before, IsAmid}
use Rattle.package_files.specs.Free.{IsFreeIn, IsSeen}
use Rattle.package_files.specs.Laid.{is_exchanged, HasPrepared, Prepared, IsUnderWay, IsUnderWayFrom, CanUndo, Undoes, IsUndoing, CanTakePlace, HasTakenPlace, CanTake, CanCommit, Takes, Commits, IsTakingPlace, IsTaking, IsCommitting, IsSame, IsPreparedFrom, CommitsAll}
use Rattle.package_files.specs.Names.{IsNamed, AllInOrder}
use Rattle.package_files.specs.Apart.{Differ}
use Rattle.package_files.proofs.WorkNames.{named_apart, IsNotBelow}
use Rattle.package_files.proofs.WorkLists.{each_map, each_of, each_front, each_later, each_join, differ_back, Agree, new_agree, agree_by}
use Rattle.package_files.proofs.Written.{writes_loose, written_whole, whole_new}
use Rattle.package_files.proofs.Laid.{exchanged_there, exchanged_free, prepared_laid, prepared_written, prepared_new, prepared_whole}
use Rattle.package_files.proofs.WriteLists.{earlier, later}
use Rattle.package_files.proofs.Undoing.{undone_from, undoing_from}

-- one path

module _ (x : Work) (was v : World) (named : IsNamed x) (free : IsFreeIn was x) (seen : IsSeen was x) (has : HasPrepared was v x) where
  pub can_commit : CanCommit x v
  can_commit = by (is_exchanged x.node x.had) refl where
    by : (b : Bool) → is_exchanged x.node x.had ≡ b → CanTake b x v
    by true is =
        let laid = prepared_laid was v x is has in
        let nodes = exchanged_there was x seen is in
        record {
          loose = nodes.0;
          seen = seen ∙ ap kind_of (sym laid.target);
          over = ap is_directory laid.target ∙ nodes.1;
          fresh = laid.fresh;
        }
    by false is = tt

  taken_written : is_exchanged x.node x.had ≡ true → (u : World) → HasTakenPlace x v u → HasWritten was u x
  taken_written is u taken =
      let laid = prepared_laid was v x is has in
      let nodes = exchanged_there was x seen is in
      let names = named_apart x named in
      let wrote : is_written x.node (was x.target) ≡ true = writes_loose x.node (was x.target) nodes.0 nodes.1 in
      record {
        target = taken.target ∙ ap (λ a. shown a x.node (was x.target)) (sym wrote);
        backup = taken.rest x.backup names.backup (λ e. names.spare (sym e)) ∙ laid.backup ∙ ap (λ a. saved a (was x.target) (was x.backup)) (sym wrote);
        fresh = taken.fresh ∙ sym (exchanged_free was x seen is free).1;
      }

  pub committed : (u : World) → Commits x v u → HasWritten was u x
  committed u commits = by (is_exchanged x.node x.had) refl commits where
    by : (b : Bool) → is_exchanged x.node x.had ≡ b → Takes b x v u → HasWritten was u x
    by true is taken = taken_written is u taken
    by false is same = subst (λ w. HasWritten was w x) (sym same) (prepared_written was v x is has)

  -- at each moment of that
  pub committing_whole : (c : World) → IsCommitting x v c → IsWhole was c x
  committing_whole c committing = by (is_exchanged x.node x.had) refl committing where
    by : (b : Bool) → is_exchanged x.node x.had ≡ b → IsTaking b x v c → IsWhole was c x
    by true is (inl same) = subst (λ w. IsWhole was w x) (sym same) (prepared_whole was v x has)
    by true is (inr taken) = written_whole was c x (taken_written is c taken)
    by false is same = subst (λ w. IsWhole was w x) (sym same) (prepared_whole was v x has)

pub commits_rest : (x : Work) (v u : World) → Commits x v u → (q : Path) → Misses x q → u q ≡ v q
commits_rest x v u commits = by (is_exchanged x.node x.had) commits where
  by : (b : Bool) → Takes b x v u → (q : Path) → Misses x q → u q ≡ v q
  by true taken q misses = taken.rest q misses.target misses.fresh
  by false same q misses = ap (λ w. w q) same

committing_rest : (x : Work) (v c : World) → IsCommitting x v c → (q : Path) → Misses x q → c q ≡ v q
committing_rest x v c committing = by (is_exchanged x.node x.had) committing where
  by : (b : Bool) → IsTaking b x v c → (q : Path) → Misses x q → c q ≡ v q
  by true (inl same) q misses = ap (λ w. w q) same
  by true (inr taken) q misses = taken.rest q misses.target misses.fresh
  by false same q misses = ap (λ w. w q) same

-- what was to take a place, and where nothing is to be done
pub taken_commits : (x : Work) (v u : World) → is_exchanged x.node x.had ≡ true → HasTakenPlace x v u → Commits x v u
taken_commits x v u is taken = subst (λ b. Takes b x v u) (sym is) taken

pub same_commits : (x : Work) (v u : World) → is_exchanged x.node x.had ≡ false → u ≡ v → Commits x v u
same_commits x v u is same = subst (λ b. Takes b x v u) (sym is) same

pub taking_commits : (x : Work) (v c : World) → is_exchanged x.node x.had ≡ true → IsTakingPlace x v c → IsCommitting x v c
taking_commits x v c is taking = subst (λ b. IsTaking b x v c) (sym is) taking

pub same_committing : (x : Work) (v c : World) → is_exchanged x.node x.had ≡ false → c ≡ v → IsCommitting x v c
same_committing x v c is same = subst (λ b. IsTaking b x v c) (sym is) same

pub can_take : (x : Work) (v : World) → is_exchanged x.node x.had ≡ true → CanCommit x v → CanTakePlace x v
can_take x v is can = subst (λ b. CanTake b x v) is can

-- a list of which the first have taken their places

pub record IsPartWay (front back : List Work) (was now : World) : Type 0 where
  pub done : Each (HasWritten was now) front
  pub todo : Each (HasPrepared was now) back
  pub rest : (q : Path) → Each (λ x. Misses x q) front → Each (λ x. Misses x q) back → now q ≡ was q

pub part_none : (works : List Work) (was now : World) → Prepared works was now → IsPartWay [] works was now
part_none works was now prepared = record { done = tt; todo = prepared.each; rest = λ q none misses. prepared.rest q misses }

pub part_all : (works : List Work) (was now : World) → IsPartWay works [] was now → Written works was now
part_all works was now part = record { each = part.done; rest = λ q misses. part.rest q misses tt }

module _ (a : List Work) (x : Work) (b : List Work) (named : Each IsNamed (a ++ x ∷ b)) (order : AllInOrder (a ++ x ∷ b)) (was v : World) (free : Each (IsFreeIn was) (a ++ x ∷ b)) (seen : Each (IsSeen was) (a ++ x ∷ b)) (part : IsPartWay a (x ∷ b) was v) where
  name : IsNamed x
  name = (each_later IsNamed a (x ∷ b) named).0

  free_x : IsFreeIn was x
  free_x = (each_later (IsFreeIn was) a (x ∷ b) free).0

  seen_x : IsSeen was x
  seen_x = (each_later (IsSeen was) a (x ∷ b) seen).0

  pub can_at : CanCommit x v
  can_at = can_commit x was v name free_x seen_x part.todo.0

  before_it : Each (λ y. Differ y x) a
  before_it = earlier a x b named order

  behind_it : Each (λ z. Differ x z × IsNotBelow x z) b
  behind_it = later a x b named order

  -- one path more
  pub part_more : (u : World) → Commits x v u → IsPartWay (a ++ x ∷ []) b was u
  part_more u commits =
      let same = commits_rest x v u commits in
      record {
        done = each_join (HasWritten was u) a (x ∷ [])
            (each_map (λ y. Differ y x) (HasWritten was v) (HasWritten was u) (λ y d has. new_agree was v u y (agree_by u v x y same (differ_back y x d)) has) a before_it part.done)
            (committed x was v name free_x seen_x part.todo.0 u commits, tt);
        todo = each_map (λ z. Differ x z × IsNotBelow x z) (HasPrepared was v) (HasPrepared was u) (λ z d has. prepared_new was v u z (agree_by u v x z same d.0) has) b behind_it part.todo.1;
        rest = λ q front back.
            let here = (each_later (λ y. Misses y q) a (x ∷ []) front).0 in
            same q here ∙ part.rest q (each_front (λ y. Misses y q) a (x ∷ []) front) (here, back);
      }

  -- while it takes its place
  pub amid_part : (c : World) → IsCommitting x v c → IsAmid (a ++ x ∷ b) was was c
  amid_part c committing =
      let same = committing_rest x v c committing in
      record {
        each = each_join (IsWhole was c) a (x ∷ b)
            (each_map (λ y. Differ y x) (HasWritten was v) (IsWhole was c) (λ y d has. written_whole was c y (new_agree was v c y (agree_by c v x y same (differ_back y x d)) has)) a before_it part.done) (
              committing_whole x was v name free_x seen_x part.todo.0 c committing,
              each_map (λ z. Differ x z × IsNotBelow x z) (HasPrepared was v) (IsWhole was c) (λ z d has. prepared_whole was c z (prepared_new was v c z (agree_by c v x z same d.0) has)) b behind_it part.todo.1,
            );
        rest = λ q misses.
            let back = each_later (λ y. Misses y q) a (x ∷ b) misses in
            same q back.0 ∙ part.rest q (each_front (λ y. Misses y q) a (x ∷ b) misses) back;
      }

  -- it doesn't
  module _ (u : World) (left : IsSame v u) where
    agree : (y : Work) → Agree u v y
    agree y = record { target = left y.target; backup = left y.backup; fresh = left y.fresh }

    pub under_way : IsUnderWayFrom (a ++ x ∷ b) was u
    under_way = record {
      free = free;
      seen = seen;
      has = each_join (IsUnderWay was u) a (x ∷ b) (each_of (HasWritten was v) (IsUnderWay was u) (λ y has. inl (new_agree was v u y (agree y) has)) a part.done)
          (each_of (HasPrepared was v) (IsUnderWay was u) (λ z has. inr (prepared_new was v u z (agree z) has)) (x ∷ b) part.todo);
    }

    pub left_rest : (q : Path) → Each (λ y. Misses y q) (a ++ x ∷ b) → u q ≡ was q
    left_rest q misses = left q ∙ part.rest q (each_front (λ y. Misses y q) a (x ∷ b) misses) (each_later (λ y. Misses y q) a (x ∷ b) misses)

pub amid_prepared : (works : List Work) (was now : World) → Prepared works was now → IsAmid works was was now
amid_prepared works was now prepared = record { each = each_of (HasPrepared was now) (IsWhole was now) (λ y. prepared_whole was now y) works prepared.each; rest = prepared.rest }

-- in a list of which they are the first

module _ (works a : List Work) (x : Work) (b : List Work) (is : works ≡ a ++ x ∷ b) (named : Each IsNamed works) (order : AllInOrder works) (was mid v : World) (from : IsPreparedFrom works was mid) (part : IsPartWay a (x ∷ b) was v) where
  pub can_here : CanCommit x v
  can_here = can_at a x b (subst (Each IsNamed) is named) (subst AllInOrder is order) was v (subst (Each (IsFreeIn was)) is from.free) (subst (Each (IsSeen was)) is from.seen) part

  pub part_here : (u : World) → Commits x v u → IsPartWay (a ++ x ∷ []) b was u
  part_here u commits = part_more a x b (subst (Each IsNamed) is named) (subst AllInOrder is order) was v (subst (Each (IsFreeIn was)) is from.free) (subst (Each (IsSeen was)) is from.seen) part u commits

  pub amid_here : (c : World) → IsCommitting x v c → IsAmid works was was c
  amid_here c committing = subst (λ l. IsAmid l was was c) (sym is)
      (amid_part a x b (subst (Each IsNamed) is named) (subst AllInOrder is order) was v (subst (Each (IsFreeIn was)) is from.free) (subst (Each (IsSeen was)) is from.seen) part c committing)

  module _ (u : World) (left : IsSame v u) where
    under_way_here : IsUnderWayFrom works was u
    under_way_here = subst (λ l. IsUnderWayFrom l was u) (sym is)
        (under_way a x b (subst (Each IsNamed) is named) (subst AllInOrder is order) was v (subst (Each (IsFreeIn was)) is from.free) (subst (Each (IsSeen was)) is from.seen) part u left)

    rest_here : (q : Path) → Each (λ y. Misses y q) works → u q ≡ was q
    rest_here = subst (λ l. (q : Path) → Each (λ y. Misses y q) l → u q ≡ was q) (sym is)
        (left_rest a x b (subst (Each IsNamed) is named) (subst AllInOrder is order) was v (subst (Each (IsFreeIn was)) is from.free) (subst (Each (IsSeen was)) is from.seen) part u left)

    pub can_undo_here : CanUndo works u
    can_undo_here = (was, under_way_here)

    pub undone_here : (c : World) → Undoes works u c → Undone works was c
    undone_here c back = undone_from works was u under_way_here rest_here c back

    pub undoing_here : (c : World) → IsUndoing works u c → IsAmid works was was c
    undoing_here c going = undoing_from works was u under_way_here rest_here c going

pub committed_all : (declined : Option ℕ) (works : List Work) (was mid new : World) → IsPreparedFrom works was mid → CommitsAll declined works mid new
    → MatchOption declined (Written works was new) (λ k. Undone works was new)
committed_all None works was mid new from commits = commits was from
committed_all (Some k) works was mid new from commits = commits was from
