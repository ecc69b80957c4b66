-- What was left under a name goes.
use Rattle.std.proofs.Common.{◌≡◌, ◌≢◌, ◌⊎◌, ◌&&◌, inl, inr, not, Bool, true, false, cond, List, [], ◌∷◌, Option, Some, None, IsTrue, refl, sym, ap, subst, ◌∙◌}
use Rattle.std.specs.Prelude.{IsSome, Contains}
use Rattle.std.proofs.lemmas.Bool.{false≢true}
use Rattle.host_core.specs.Paths.{Path}
use Rattle.host_core.specs.World.{World}
use Rattle.host_core.specs.declared.node.Node.{Node}
use Rattle.administration.specs.Files.{IsDropped, IsDropping}
use Rattle.administration.specs.Places.{list_path}
use Rattle.control_members.specs.Names.{is_member_name}
use Rattle.control_members.specs.Stored.{AreStoredNames, AreTaken, AreTaking, goes, is_among, stored_member_path}
use Rattle.control_members.proofs.Apart.{no_list}
use Rattle.control_members.proofs.Drawn.{contains_any}
use Rattle.host_core.specs.Host.{State, AtEachMoment, Reads}
use Rattle.host_core.proofs.Moments.{since_reads}
use Rattle.listed_files.proofs.Moments.{then_at_each}
use Rattle.unpack_steps.specs.Clearing.{IsBesideOwn, IsCleared, IsClearing}

by_gone : (b : Bool) (was now : Option Node) → now ≡ cond b None was → (now ≡ was) ⊎ (now ≡ None)
by_gone true was now e = inr e
by_gone false was now e = inl e

or_gone : (b : Bool) (was now : Option Node) → (now ≡ was) ⊎ (now ≡ cond b None was) → (now ≡ was) ⊎ (now ≡ None)
or_gone b was now (inl same) = inl same
or_gone b was now (inr gone) = by_gone b was now gone

-- what stands there is among the names that go
none_left : (among : Bool) (was now : Option Node) → now ≡ cond (among && not (false && true)) None was → (IsSome was → among ≡ true) → now ≡ None
none_left true was now e has = e
none_left false None now e has = e
none_left false (Some node) now e has = absurd (false≢true (has refl))

module _ (name : Path) (old : World) where
  pub clearing_start : IsClearing name old old
  clearing_start = record { list = inl refl; members = λ member is. inl refl; rest = λ q beside. refl }

  pub clearing_taking : (gone : Path → Bool) (now : World) → AreTaking name gone old now → IsClearing name old now
  clearing_taking gone now taking = record {
    list = inl (taking.rest (list_path name) (λ member is e. no_list name name member is (sym e)));
    members = λ member is. or_gone (gone member) (old (stored_member_path name member)) (now (stored_member_path name member)) (taking.own member is);
    rest = λ q beside. taking.rest q beside.members;
  }

  pub clearing_dropping : (gone : Path → Bool) (mid now : World) → AreTaken name gone old mid → IsDropping (list_path name) mid now → IsClearing name old now
  clearing_dropping gone mid now taken dropping = record {
    list = elim dropping.target [
      | inl same ↦ inl (same ∙ taken.rest (list_path name) (λ member is e. no_list name name member is (sym e)))
      | inr none ↦ inr none
    ];
    members = λ member is. by_gone (gone member) (old (stored_member_path name member)) (now (stored_member_path name member))
        (dropping.rest (stored_member_path name member) (no_list name name member is) ∙ taken.stands member is);
    rest = λ q beside. dropping.rest q beside.list ∙ taken.rest q beside.members;
  }

  pub cleared_dropped : (names : List Path) (mid new : World) → AreStoredNames old name names → AreTaken name (goes names false) old mid → IsDropped (list_path name) mid new → IsCleared name old new
  cleared_dropped names mid new stored taken dropped = record {
    list = dropped.target;
    members = λ member is. none_left (is_among names member) (old (stored_member_path name member)) (new (stored_member_path name member))
        (dropped.rest (stored_member_path name member) (no_list name name member is) ∙ taken.stands member is)
        (λ some. contains_any names member ((stored.exact member).1 (is, some)));
    rest = λ q beside. dropped.rest q beside.list ∙ taken.rest q beside.members;
  }

module _ (name : Path) (a b : State) (reads : Reads a b) where
  moved : (now : World) → IsClearing name b.world now → IsClearing name a.world now
  moved now is = subst (λ w. IsClearing name w now) reads.world is

  pub since_looked : AtEachMoment (IsClearing name) a b
  since_looked = since_reads (λ so_far. IsClearing name a.world) a b reads (λ fs all. clearing_start name a.world)

  pub since_taking : (gone : Path → Bool) (c : State) → AtEachMoment (AreTaking name gone) b c → AtEachMoment (IsClearing name) a c
  since_taking gone c taking =
      then_at_each (IsClearing name) (AreTaking name gone) (IsClearing name) a b c (λ now is. is) (λ h now is. moved now (clearing_taking name b.world gone now is)) since_looked taking

  pub since_dropping : (gone : Path → Bool) (c d : State) (path : Path) → AtEachMoment (AreTaking name gone) b c → (IsTrue c.honest → AreTaken name gone b.world c.world) → path ≡ list_path name → AtEachMoment (IsDropping path) c d → AtEachMoment (IsClearing name) a d
  since_dropping gone c d path taking taken is dropping =
      then_at_each (IsClearing name) (IsDropping path) (IsClearing name) a c d (λ now is. is)
      (λ h now drop. moved now (clearing_dropping name b.world gone c.world now (taken (dropping.honest h)) (subst (λ p. IsDropping p c.world now) is drop))) (since_taking gone c taking) dropping

  pub clears : (names : List Path) (c d : State) (path : Path) → AreStoredNames a.world name names → AreTaken name (goes names false) b.world c.world → path ≡ list_path name → IsDropped path c.world d.world → IsCleared name a.world d.world
  clears names c d path stored taken is dropped =
      cleared_dropped name a.world names c.world d.world stored (subst (λ w. AreTaken name (goes names false) w c.world) reads.world taken) (subst (λ p. IsDropped p c.world d.world) is dropped)
