-- Stored control files that are removed one after another.
use Rattle.std.proofs.Common.{◌≡◌, ◌⊎◌, ◌&&◌, ◌||◌, ◌+◌, ◌<◌, not, inl, inr, ℕ, Bool, true, false, cond, List, [], take, drop, length, get_or, Option, None, IsTrue, refl, sym, ap, subst, ◌∙◌}
use Rattle.std.specs.List.{list_any}
use Rattle.std.specs.Str.{bytes_eq}
use Rattle.std.proofs.lemmas.Bool.{true≢false, and_parts}
use Rattle.std.proofs.lemmas.List.{take-append-drop}
use Rattle.std.proofs.lemmas.List.Folds.{list_any-append, list_any_more, list_any_at}
use Rattle.std.proofs.lemmas.Slice.Eq.{bytes_eq-Decides}
use Rattle.host_core.proofs.Paths.{decide}
use Rattle.host_core.specs.Paths.{Path}
use Rattle.host_core.specs.World.{World, IsDirectory}
use Rattle.host_core.specs.Host.{State, Since}
use Rattle.host_core.proofs.Moments.{since_then, since_weaker_if, since_now}
use Rattle.host_core.specs.declared.node.Node.{Node}
use Rattle.administration.specs.Places.{info_path, temporary}
use Rattle.administration.specs.Files.{NoDirectory, IsDropped, IsDropping}
use Rattle.administration.proofs.WholeFiles.{no_directory_none, no_directory_at}
use Rattle.control_members.specs.Names.{is_member_name}
use Rattle.control_members.specs.Stored.{stored_member_path, IsMembersReady, AreTaken, AreTaking, is_among}
use Rattle.control_members.proofs.Apart.{same_name, spare_apart, info_other}

-- the names among these that don't stay
abbrev pub leaving : (Path → Bool) → List Path → Path → Bool
leaving stays names name = is_among names name && not (stays name)

-- a name more

or_true : (x : Bool) → (x || true) ≡ true
or_true true = refl
or_true false = refl

or_false : (x : Bool) → (x || false) ≡ x
or_false true = refl
or_false false = refl

and_false : (x : Bool) → (x && false) ≡ false
and_false true = refl
and_false false = refl

module _ (stays : Path → Bool) (names : List Path) (i : ℕ) (d : Path) (lt : i < length names) (at : d ≡ get_or names i d) where
  more : (name : Path) → is_among (take (i + 1) names) name ≡ (is_among (take i names) name || bytes_eq name d)
  more name = list_any_more (bytes_eq name) names i d lt ∙ ap (λ x. is_among (take i names) name || bytes_eq name x) (sym at)

  -- that stays
  pub leaving_same : stays d ≡ true → (name : Path) → leaving stays (take (i + 1) names) name ≡ leaving stays (take i names) name
  leaving_same kept name = ap (λ b. b && not (stays name)) (more name) ∙ by (bytes_eq name d) refl
    where
      by : (b : Bool) → bytes_eq name d ≡ b → ((is_among (take i names) name || b) && not (stays name)) ≡ leaving stays (take i names) name
      by false e = ap (λ b. b && not (stays name)) (or_false (is_among (take i names) name))
      by true e =
          let here : not (stays name) ≡ false = ap not (ap stays ((bytes_eq-Decides name d).0 e) ∙ kept) in
          ap (λ b. (is_among (take i names) name || true) && b) here ∙ and_false (is_among (take i names) name || true)
          ∙ sym (ap (λ b. is_among (take i names) name && b) here ∙ and_false (is_among (take i names) name))

  -- that goes
  pub leaving_more : stays d ≡ false → (name : Path) → leaving stays (take (i + 1) names) name ≡ cond (bytes_eq name d) true (leaving stays (take i names) name)
  leaving_more goes name = ap (λ b. b && not (stays name)) (more name) ∙ by (bytes_eq name d) refl
    where
      by : (b : Bool) → bytes_eq name d ≡ b → ((is_among (take i names) name || b) && not (stays name)) ≡ cond b true (leaving stays (take i names) name)
      by false e = ap (λ b. b && not (stays name)) (or_false (is_among (take i names) name))
      by true e = ap (λ b. b && not (stays name)) (or_true (is_among (take i names) name)) ∙ ap not (ap stays ((bytes_eq-Decides name d).0 e) ∙ goes)

  pub leaves : stays d ≡ false → leaving stays names d ≡ true
  leaves goes = ap (λ b. b && not (stays d)) (list_any_at (bytes_eq d) names i d lt ((bytes_eq-Decides d (get_or names i d)).1 at)) ∙ ap not goes

-- what left of the first of them leaves of all
pub leaving_all : (stays : Path → Bool) (names : List Path) (i : ℕ) (name : Path) → leaving stays (take i names) name ≡ true → leaving stays names name ≡ true
leaving_all stays names i name is =
    let parts = and_parts (is_among (take i names) name) (not (stays name)) is in
    ap (λ b. b && not (stays name)) (ap (list_any (bytes_eq name)) (sym (take-append-drop i names)) ∙ list_any-append (bytes_eq name) (take i names) (drop i names) ∙ ap (λ b. b || is_among (drop i names) name) parts.0) ∙ parts.1

module _ (owner : Path) where
  pub taken_start : (stays : Path → Bool) (w : World) → AreTaken owner (leaving stays []) w w
  taken_start stays w = record { stands = λ name member. refl; rest = λ q out. refl }

  pub taken_same : (first second : Path → Bool) (u v : World) → ((name : Path) → second name ≡ first name) → AreTaken owner first u v → AreTaken owner second u v
  taken_same first second u v same taken = record {
    stands = λ name member. taken.stands name member ∙ ap (λ b. cond b None (u (stored_member_path owner name))) (sym (same name));
    rest = taken.rest;
  }

  pub taken_more : (first second : Path → Bool) (d : Path) (u v w : World) → is_member_name d ≡ true → ((name : Path) → second name ≡ cond (bytes_eq name d) true (first name)) → AreTaken owner first u v → IsDropped (stored_member_path owner d) v w → AreTaken owner second u w
  taken_more first second d u v w named same taken dropped = record {
    stands = λ name member. by name member (bytes_eq name d) refl;
    rest = λ q out. dropped.rest q (out d named) ∙ taken.rest q out;
  }
    where
      by : (name : Path) → is_member_name name ≡ true → (b : Bool) → bytes_eq name d ≡ b → w (stored_member_path owner name) ≡ cond (second name) None (u (stored_member_path owner name))
      by name member true e =
          ap (λ n. w (stored_member_path owner n)) ((bytes_eq-Decides name d).0 e) ∙ dropped.target
          ∙ sym (ap (λ b. cond b None (u (stored_member_path owner name))) (same name ∙ ap (λ b. cond b true (first name)) e))
      by name member false e =
          dropped.rest _ (λ is. true≢false (sym ((bytes_eq-Decides name d).1 (same_name owner name d is)) ∙ e)) ∙ taken.stands name member
          ∙ sym (ap (λ b. cond b None (u (stored_member_path owner name))) (same name ∙ ap (λ b. cond b true (first name)) e))

  -- at each moment

  pub taking_start : (gone : Path → Bool) (w : World) → AreTaking owner gone w w
  taking_start gone w = record { own = λ name member. inl refl; rest = λ q out. refl }

  before_or_gone : (first all : Bool) (before now : Option Node) → (first ≡ true → all ≡ true) → now ≡ cond first None before → (now ≡ before) ⊎ (now ≡ cond all None before)
  before_or_gone false all before now so e = inl e
  before_or_gone true all before now so e = inr (e ∙ sym (ap (λ b. cond b None before) (so refl)))

  pub taking_more : (first all : Path → Bool) (d : Path) (u v now : World) → is_member_name d ≡ true → all d ≡ true → ((name : Path) → first name ≡ true → all name ≡ true) → AreTaken owner first u v → IsDropping (stored_member_path owner d) v now → AreTaking owner all u now
  taking_more first all d u v now named goes so taken is = record {
    own = λ name member. elim (decide name d) [
      | inl e ↦ subst (λ n. (now (stored_member_path owner n) ≡ u (stored_member_path owner n)) ⊎ (now (stored_member_path owner n) ≡ cond (all n) None (u (stored_member_path owner n)))) (sym e) here
      | inr ne ↦ before_or_gone (first name) (all name) (u (stored_member_path owner name)) (now (stored_member_path owner name)) (so name) (is.rest _ (λ e. ne (same_name owner name d e)) ∙ taken.stands name member)
    ];
    rest = λ q out. is.rest q (out d named) ∙ taken.rest q out;
  }
    where
      here : (now (stored_member_path owner d) ≡ u (stored_member_path owner d)) ⊎ (now (stored_member_path owner d) ≡ cond (all d) None (u (stored_member_path owner d)))
      here = elim is.target [
        | inl same ↦ before_or_gone (first d) (all d) (u (stored_member_path owner d)) (now (stored_member_path owner d)) (so d) (same ∙ taken.stands d named)
        | inr gone ↦ inr (gone ∙ sym (ap (λ b. cond b None (u (stored_member_path owner d))) goes))
      ]

  less_free : (gone : Bool) (before now : Option Node) → NoDirectory before → (now ≡ before) ⊎ (now ≡ cond gone None before) → NoDirectory now
  less_free gone before now free (inl e) = no_directory_at now before e free
  less_free true before now free (inr e) = no_directory_at now None e no_directory_none
  less_free false before now free (inr e) = no_directory_at now before e free

  pub taking_ready : (gone : Path → Bool) (w now : World) → IsMembersReady owner w → AreTaking owner gone w now → IsMembersReady owner now
  taking_ready gone w now ready is = record {
    info = subst IsDirectory (sym (is.rest info_path (λ name member. info_other owner name))) ready.info;
    own = λ name member. less_free (gone name) (w (stored_member_path owner name)) (now (stored_member_path owner name)) (ready.own name member) (is.own name member);
    spares = λ name member. no_directory_at _ _ (is.rest (temporary (stored_member_path owner name)) (λ word more. spare_apart owner word name more)) (ready.spares name member);
  }

  pub since_ready : (gone : Path → Bool) (s a : State) → (IsTrue s.honest → IsMembersReady owner s.world) → Since (λ so_far. AreTaking owner gone s.world) s a → IsTrue a.honest → IsMembersReady owner a.world
  since_ready gone s a ready since h = taking_ready gone s.world a.world (ready (since.honest h)) (since_now _ s a since h)

  pub since_taking : (first all : Path → Bool) (d : Path) (s a b : State) → is_member_name d ≡ true → all d ≡ true → ((name : Path) → first name ≡ true → all name ≡ true) → (IsTrue a.honest → AreTaken owner first s.world a.world)
      → Since (λ so_far. AreTaking owner all s.world) s a → Since (λ so_far. IsDropping (stored_member_path owner d) a.world) a b → Since (λ so_far. AreTaking owner all s.world) s b
  since_taking first all d s a b named goes so taken before second = since_then _ s a b before
      (since_weaker_if _ _ a b (λ h so_far now is. taking_more first all d s.world a.world now named goes so (taken (second.honest h)) is) second)
