-- New control files in the place of the old ones.
use Rattle.std.proofs.Common.{subst, ◌≡◌, ◌⊎◌, inl, inr, Bool, true, false, not, ◌&&◌, cond, List, Option, Some, None, is_some, IsTrue, refl, sym, ap, ◌∙◌}
use Rattle.std.proofs.lemmas.Bool.{true≢false}
use Rattle.host_core.proofs.Nodes.{none_there}
use Rattle.host_core.specs.Paths.{Path}
use Rattle.host_core.specs.World.{World, IsDirectory}
use Rattle.host_core.specs.Host.{State, Since}
use Rattle.host_core.proofs.Moments.{since_then, since_weaker, since_weaker_if}
use Rattle.host_core.specs.declared.node.Node.{Node}
use Rattle.administration.specs.Places.{info_path, temporary}
use Rattle.administration.specs.Files.{NoDirectory}
use Rattle.administration.proofs.WholeFiles.{no_directory_none, no_directory_at}
use Rattle.control_members.specs.Names.{is_member_name}
use Rattle.control_members.specs.Members.{member_node}
use Rattle.control_members.specs.Stored.{stored_member_path, AreStoredNames, AreReplaced, AreReplacing, AreTaken, AreTaking, AreStored, is_among, over, IsSpare, IsMembersReady}
use Rattle.control_members.specs.Written.{AreWritten, AreWriting}
use Rattle.control_members.specs.declared.member.Member.{Member}
use Rattle.control_members.proofs.Drawn.{contains_any}
use Rattle.control_members.proofs.Lookup.{loose_at}
use Rattle.control_members.proofs.Writing.{keeps_info, spare_free}
use Rattle.control_members.proofs.Apart.{spare_apart}

-- the names that go: those of old ones that no new one has
abbrev pub lacking : List Member → List Path → Path → Bool
lacking new old name = is_among old name && not (is_some (member_node new name))

after_both : (new : Option Node) (among : Bool) (before : Option Node) → cond (among && not (is_some new)) None (over new before) ≡ over new (cond among None before)
after_both None true before = refl
after_both None false before = refl
after_both (Some n) true before = refl
after_both (Some n) false before = refl

module _ (owner : Path) (new : List Member) (old : List Path) where
  pub replaced_both : (u v w : World) → AreWritten owner new u v → AreTaken owner (lacking new old) v w → AreReplaced owner new old u w
  replaced_both u v w written taken = record {
    stands = λ name member. taken.stands name member ∙ ap (cond (lacking new old name) None) (written.stands name member)
        ∙ after_both (member_node new name) (is_among old name) (u (stored_member_path owner name));
    spares = λ name member. taken.rest _ (λ word more e. spare_apart owner word name more e) ∙ written.spares name member;
    rest = λ q out. taken.rest q (λ name member. (out name member).0) ∙ written.rest q out;
  }

  -- at each moment of the first part
  first_own : (n : Option Node) (among : Bool) (before now : Option Node) → (now ≡ before) ⊎ (now ≡ over n before) → (now ≡ before) ⊎ (now ≡ over n (cond among None before))
  first_own n among before now (inl e) = inl e
  first_own None among before now (inr e) = inl e
  first_own (Some x) among before now (inr e) = inr e

  pub replacing_first : (u now : World) → AreWriting owner new u now → AreReplacing owner new old u now
  replacing_first u now is = record {
    own = λ name member. first_own (member_node new name) (is_among old name) (u (stored_member_path owner name)) (now (stored_member_path owner name)) (is.own name member);
    spares = is.spares;
    rest = is.rest;
  }

  -- and of the second
  second_own : (n : Option Node) (among : Bool) (before mid now : Option Node) → mid ≡ over n before → (now ≡ mid) ⊎ (now ≡ cond (among && not (is_some n)) None mid) → (now ≡ before) ⊎ (now ≡ over n (cond among None before))
  second_own (Some x) true before mid now e (inl same) = inr (same ∙ e)
  second_own (Some x) false before mid now e (inl same) = inr (same ∙ e)
  second_own (Some x) true before mid now e (inr gone) = inr (gone ∙ e)
  second_own (Some x) false before mid now e (inr gone) = inr (gone ∙ e)
  second_own None among before mid now e (inl same) = inl (same ∙ e)
  second_own None true before mid now e (inr gone) = inr gone
  second_own None false before mid now e (inr gone) = inr (gone ∙ e)

  second_spare : (n : Option Node) (before mid now : Option Node) → mid ≡ cond (is_some n) None before → now ≡ mid → IsSpare n before now
  second_spare None before mid now e same = same ∙ e
  second_spare (Some x) before mid now e same = no_directory_at now None (same ∙ e) no_directory_none

  pub replacing_second : (u v now : World) → AreWritten owner new u v → AreTaking owner (lacking new old) v now → AreReplacing owner new old u now
  replacing_second u v now written is = record {
    own = λ name member. second_own (member_node new name) (is_among old name) (u (stored_member_path owner name)) (v (stored_member_path owner name)) (now (stored_member_path owner name)) (written.stands name member) (is.own name member);
    spares = λ name member. second_spare (member_node new name) _ _ _ (written.spares name member) (is.rest _ (λ word more e. spare_apart owner word name more e));
    rest = λ q out. is.rest q (λ name member. (out name member).0) ∙ written.rest q out;
  }

  pub since_first : (a b : State) → Since (λ so_far. AreWriting owner new a.world) a b → Since (λ so_far. AreReplacing owner new old a.world) a b
  since_first a b since = since_weaker _ _ a b (λ so_far now is. replacing_first a.world now is) since

  pub since_both : (a b c : State) → Since (λ so_far. AreWriting owner new a.world) a b → (IsTrue b.honest → AreWritten owner new a.world b.world) → Since (λ so_far. AreTaking owner (lacking new old) b.world) b c → Since (λ so_far. AreReplacing owner new old a.world) a c
  since_both a b c first written second = since_then _ a b c (since_first a b first) (since_weaker_if _ _ b c (λ h so_far now is. replacing_second a.world b.world now (written (second.honest h)) is) second)

-- where the old names are all that were stored, the new ones are all that are
pub stored_whole : (owner : Path) (new : List Member) (names : List Path) (before now : World) → AreStoredNames before owner names → AreReplaced owner new names before now → AreStored owner new now
stored_whole owner new names before now stored replaced = λ name member. replaced.stands name member ∙ at name member (member_node new name) (is_among names name) refl
  where
    at : (name : Path) → is_member_name name ≡ true → (n : Option Node) (among : Bool) → is_among names name ≡ among → over n (cond among None (before (stored_member_path owner name))) ≡ n
    at name member (Some x) among e = refl
    at name member None true e = refl
    at name member None false e = none_there (before (stored_member_path owner name)) (λ some. true≢false (sym (contains_any names name ((stored.exact name).1 (member, some))) ∙ e))

-- still no directory is in the way

replaced_free : (n : Option Node) (among : Bool) (before now : Option Node) → NoDirectory n → NoDirectory before → (now ≡ before) ⊎ (now ≡ over n (cond among None before)) → NoDirectory now
replaced_free n among before now whole free (inl e) = no_directory_at now before e free
replaced_free (Some x) among before now whole free (inr e) = no_directory_at now (Some x) e whole
replaced_free None true before now whole free (inr e) = no_directory_at now None e no_directory_none
replaced_free None false before now whole free (inr e) = no_directory_at now before e free

pub replacing_ready : (owner : Path) (new : List Member) (names : List Path) (before now : World) → AreReplacing owner new names before now → IsMembersReady owner before → IsMembersReady owner now
replacing_ready owner new names before now is ready = record {
  info = subst IsDirectory (sym (keeps_info owner before now is.rest)) ready.info;
  own = λ name member. replaced_free (member_node new name) (is_among names name) (before (stored_member_path owner name)) (now (stored_member_path owner name)) (loose_at new name) (ready.own name member) (is.own name member);
  spares = λ name member. spare_free owner (member_node new name) _ _ (ready.spares name member) (is.spares name member);
}

pub ready_beside : (owner : Path) (before now : World) → now info_path ≡ before info_path
    → ((name : Path) → is_member_name name ≡ true → (now (stored_member_path owner name) ≡ before (stored_member_path owner name)) × (now (temporary (stored_member_path owner name)) ≡ before (temporary (stored_member_path owner name))))
    → IsMembersReady owner before → IsMembersReady owner now
ready_beside owner before now info same ready = record {
  info = subst IsDirectory (sym info) ready.info;
  own = λ name member. no_directory_at _ _ (same name member).0 (ready.own name member);
  spares = λ name member. no_directory_at _ _ (same name member).1 (ready.spares name member);
}
