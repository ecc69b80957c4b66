-- Control files that are written one after another.
use Rattle.std.proofs.Common.{◌≡◌, ◌⊎◌, inl, inr, cond, List, [], ◌∷◌, ◌++◌, Option, Some, None, is_some, IsTrue, refl, sym, ap, subst, ◌∙◌}
use Rattle.host_core.proofs.Paths.{decide}
use Rattle.host_core.specs.Paths.{Path}
use Rattle.host_core.specs.World.{World, IsDirectory}
use Rattle.host_core.specs.Host.{State, Since}
use Rattle.host_core.proofs.Moments.{since_then, since_weaker_if}
use Rattle.host_core.specs.declared.node.Node.{Node}
use Rattle.administration.specs.Places.{info_path, temporary}
use Rattle.administration.specs.Files.{NoDirectory, IsReplaced, IsReplacing}
use Rattle.administration.proofs.WholeFiles.{no_directory_none, no_directory_at}
use Rattle.control_members.specs.Members.{AreInOrder, names_of, member_of, node_of, member_node}
use Rattle.control_members.specs.Stored.{stored_member_path, IsMembersReady, over, replaced_spare, IsSpare, KeepsBesideWritten}
use Rattle.control_members.specs.Written.{AreWritten, AreWriting}
use Rattle.control_members.specs.declared.member.Member.{Member}
use Rattle.control_members.proofs.Apart.{same_name, same_temporary, no_temporary, spare_apart, info_other, info_no_temporary}
use Rattle.control_members.proofs.Lookup.{member_of-append, or_else, found_here, pushed_here, pushed_other, none_before, loose_at}

pub keeps_info : (owner : Path) (before now : World) → KeepsBesideWritten owner before now → now info_path ≡ before info_path
keeps_info owner before now rest = rest info_path (λ name member. (info_other owner name, info_no_temporary owner name))

module _ (owner : Path) where
  pub written_start : (w : World) → AreWritten owner [] w w
  written_start w = record { stands = λ name member. refl; spares = λ name member. refl; rest = λ q out. refl }

  -- one more
  pub written_more : (ms : List Member) (m : Member) (u v w : World) → member_of ms m.name ≡ None → AreWritten owner ms u v → IsReplaced (stored_member_path owner m.name) m.node v w → AreWritten owner (ms ++ m ∷ []) u w
  written_more ms m u v w none written replaced = record {
    stands = λ name member. elim (decide m.name name) [
      | inl e ↦ subst (λ n. w (stored_member_path owner n) ≡ over (member_node (ms ++ m ∷ []) n) (u (stored_member_path owner n))) e
          (replaced.target ∙ sym (ap (λ o. over (node_of o) (u (stored_member_path owner m.name))) (pushed_here ms m none)))
      | inr ne ↦ replaced.rest _ (λ e. ne (sym (same_name owner name m.name e))) (no_temporary owner name (stored_member_path owner m.name) member)
          ∙ written.stands name member ∙ sym (ap (λ o. over (node_of o) (u (stored_member_path owner name))) (pushed_other ms m name ne))
    ];
    spares = λ name member. elim (decide m.name name) [
      | inl e ↦ subst (λ n. w (temporary (stored_member_path owner n)) ≡ replaced_spare (ms ++ m ∷ []) n (u (temporary (stored_member_path owner n)))) e
          (replaced.spare ∙ sym (ap (λ o. cond (is_some (node_of o)) None (u (temporary (stored_member_path owner m.name)))) (pushed_here ms m none)))
      | inr ne ↦ replaced.rest _ (spare_apart owner m.name name m.named) (λ e. ne (sym (same_temporary owner name m.name e)))
          ∙ written.spares name member ∙ sym (ap (λ o. cond (is_some (node_of o)) None (u (temporary (stored_member_path owner name)))) (pushed_other ms m name ne))
    ];
    rest = λ q out. replaced.rest q (out m.name m.named).0 (out m.name m.named).1 ∙ written.rest q out;
  }

  -- at each moment, of all

  pub writing_start : (ms : List Member) (w : World) → IsMembersReady owner w → AreWriting owner ms w w
  writing_start ms w ready = record {
    own = λ name member. inl refl;
    spares = λ name member. at (member_node ms name) (w (temporary (stored_member_path owner name))) (ready.spares name member);
    rest = λ q out. refl;
  }
    where
      at : (n before : Option Node) → NoDirectory before → IsSpare n before before
      at None before free = refl
      at (Some x) before free = free

  in_front_own : (front all : Option Member) (rest before now : Option Node) → ((m : Member) → front ≡ Some m → all ≡ Some m) → now ≡ over (node_of front) before → (now ≡ before) ⊎ (now ≡ over (node_of all) before)
  in_front_own None all rest before now so e = inl e
  in_front_own (Some m) all rest before now so e = inr (e ∙ sym (ap (λ o. over (node_of o) before) (so m refl)))

  in_front_spare : (front all : Option Member) (before now : Option Node) → ((m : Member) → front ≡ Some m → all ≡ Some m) → NoDirectory before → now ≡ cond (is_some (node_of front)) None before → IsSpare (node_of all) before now
  in_front_spare None None before now so free e = e
  in_front_spare None (Some x) before now so free e = no_directory_at now before e free
  in_front_spare (Some m) None before now so free e = (let no : None ≡ Some m = so m refl in absurd cc)
  in_front_spare (Some m) (Some x) before now so free e = no_directory_at now None e no_directory_none

  still : (front back : List Member) (name : Path) (m : Member) → member_of front name ≡ Some m → member_of (front ++ back) name ≡ Some m
  still front back name m e = member_of-append front back name ∙ ap (λ o. or_else o (member_of back name)) e

  pub writing_more : (front back : List Member) (m : Member) (u v now : World) → AreInOrder (names_of (front ++ m ∷ back)) → IsMembersReady owner u → AreWritten owner front u v
      → IsReplacing (stored_member_path owner m.name) m.node v now → AreWriting owner (front ++ m ∷ back) u now
  writing_more front back m u v now order ready written is = record {
    own = λ name member. elim (decide m.name name) [
      | inl e ↦ subst (λ n. (now (stored_member_path owner n) ≡ u (stored_member_path owner n)) ⊎ (now (stored_member_path owner n) ≡ over (member_node (front ++ m ∷ back) n) (u (stored_member_path owner n)))) e here
      | inr ne ↦ in_front_own (member_of front name) (member_of (front ++ m ∷ back) name) None (u (stored_member_path owner name)) (now (stored_member_path owner name)) (λ x. still front (m ∷ back) name x)
          (is.rest _ (λ e. ne (sym (same_name owner name m.name e))) (no_temporary owner name (stored_member_path owner m.name) member) ∙ written.stands name member)
    ];
    spares = λ name member. elim (decide m.name name) [
      | inl e ↦ subst (λ n. IsSpare (member_node (front ++ m ∷ back) n) (u (temporary (stored_member_path owner n))) (now (temporary (stored_member_path owner n)))) e
          (subst (λ o. IsSpare (node_of o) (u (temporary (stored_member_path owner m.name))) (now (temporary (stored_member_path owner m.name)))) (sym found) is.spare)
      | inr ne ↦ in_front_spare (member_of front name) (member_of (front ++ m ∷ back) name) (u (temporary (stored_member_path owner name))) (now (temporary (stored_member_path owner name))) (λ x. still front (m ∷ back) name x) (ready.spares name member)
          (is.rest _ (spare_apart owner m.name name m.named) (λ e. ne (sym (same_temporary owner name m.name e))) ∙ written.spares name member)
    ];
    rest = λ q out. is.rest q (out m.name m.named).0 (out m.name m.named).1 ∙ written.rest q out;
  }
    where
      none : member_of front m.name ≡ None
      none = none_before front back m order

      found : member_of (front ++ m ∷ back) m.name ≡ Some m
      found = member_of-append front (m ∷ back) m.name ∙ ap (λ o. or_else o (member_of (m ∷ back) m.name)) none ∙ found_here back m m.name refl

      here : (now (stored_member_path owner m.name) ≡ u (stored_member_path owner m.name)) ⊎ (now (stored_member_path owner m.name) ≡ over (member_node (front ++ m ∷ back) m.name) (u (stored_member_path owner m.name)))
      here = elim is.target [
        | inl same ↦ inl (same ∙ written.stands m.name m.named ∙ ap (λ o. over (node_of o) (u (stored_member_path owner m.name))) none)
        | inr whole ↦ inr (whole ∙ sym (ap (λ o. over (node_of o) (u (stored_member_path owner m.name))) found))
      ]

  -- still no directory is in the way

  own_free : (n before now : Option Node) → NoDirectory n → NoDirectory before → (now ≡ before) ⊎ (now ≡ over n before) → NoDirectory now
  own_free n before now whole free (inl e) = no_directory_at now before e free
  own_free None before now whole free (inr e) = no_directory_at now before e free
  own_free (Some x) before now whole free (inr e) = no_directory_at now (Some x) e whole

  pub spare_free : (n before now : Option Node) → NoDirectory before → IsSpare n before now → NoDirectory now
  spare_free None before now free e = no_directory_at now before e free
  spare_free (Some x) before now free e = e

  pub writing_ready : (ms : List Member) (w now : World) → IsMembersReady owner w → AreWriting owner ms w now → IsMembersReady owner now
  writing_ready ms w now ready is = record {
    info = subst IsDirectory (sym (keeps_info owner w now is.rest)) ready.info;
    own = λ name member. own_free (member_node ms name) (w (stored_member_path owner name)) (now (stored_member_path owner name)) (loose_at ms name) (ready.own name member) (is.own name member);
    spares = λ name member. spare_free (member_node ms name) (w (temporary (stored_member_path owner name))) (now (temporary (stored_member_path owner name))) (ready.spares name member) (is.spares name member);
  }

  pub since_writing : (ms front back : List Member) (m : Member) (s a b : State) → front ++ m ∷ back ≡ ms → AreInOrder (names_of ms) → (IsTrue s.honest → IsMembersReady owner s.world) → (IsTrue a.honest → AreWritten owner front s.world a.world)
      → Since (λ so_far. AreWriting owner ms s.world) s a → Since (λ so_far. IsReplacing (stored_member_path owner m.name) m.node a.world) a b → Since (λ so_far. AreWriting owner ms s.world) s b
  since_writing ms front back m s a b whole order ready written first second = since_then _ s a b first
      (since_weaker_if _ _ a b (λ h so_far now is. let h1 = second.honest h in
      subst (λ l. AreWriting owner l s.world now) whole
      (writing_more front back m s.world a.world now (subst (λ l. AreInOrder (names_of l)) (sym whole) order) (ready (first.honest h1)) (written h1) is)) second)
