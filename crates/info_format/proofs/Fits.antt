-- What the test of the two names tells.
use Rattle.std.proofs.Common.{◌≡◌, ◌⊎◌, ◌&&◌, inl, inr, ℕ, Bool, true, false, List, Option, Some, None, refl, sym, ap, subst, ◌∙◌}
use Rattle.std.specs.Prelude.{IsSome}
use Rattle.std.specs.Str.{bytes_eq}
use Rattle.std.proofs.lemmas.Bool.{and_parts, false≢true, true≢false}
use Rattle.std.proofs.lemmas.Slice.Eq.{bytes_eq-Decides}
use Rattle.host_core.specs.declared.node.Access.{Access}
use Rattle.host_core.specs.declared.node.Node.{Node}
use Rattle.host_core.specs.declared.node.Node.TheVariants.{File, Dir, Link}
use Rattle.host_core.specs.Nodes.{same_access, same_node}
use Rattle.host_core.specs.World.{IsLoose}
use Rattle.host_core.proofs.Nodes.{same_access_is, same_node_itself}
use Rattle.administration.specs.Files.{NoDirectory}
use Rattle.info_format.specs.Format.{AreAlike, IsFit}
use Rattle.info_format.specs.Tests.{is_double, is_fit, is_no_directory}

loose_file : (bytes : List ℕ) (access : Access) → NoDirectory (Some (File bytes access))
loose_file bytes access d = absurd (let e : Some (File bytes access) ≡ Some (Dir d.0) = d.1 in cc)

loose_link : (target : List ℕ) → NoDirectory (Some (Link target))
loose_link target d = absurd (let e : Some (Link target) ≡ Some (Dir d.0) = d.1 in cc)

loose_none : NoDirectory None
loose_none d = absurd (let e : None ≡ Some (Dir d.0) = d.1 in cc)

pub fit_is : (long short : Option Node) → is_fit long short ≡ true → IsFit long short
fit_is None short is = record { loose = loose_none; same = λ some. absurd (false≢true some) }
fit_is (Some (File bytes access)) None is = record { loose = loose_file bytes access; same = λ some. inl refl }
fit_is (Some (Dir access)) None is = absurd (false≢true is)
fit_is (Some (Link target)) None is = record { loose = loose_link target; same = λ some. inl refl }
fit_is (Some (File bytes access)) (Some (File others owned)) is =
    let both = and_parts (bytes_eq bytes others) (same_access access owned) is in
    let b = (bytes_eq-Decides bytes others).0 both.0 in
    let a = same_access_is access owned both.1 in
    record { loose = loose_file bytes access; same = λ some. inr (λ i. Some (File (sym b i) (sym a i))) }
fit_is (Some (File bytes access)) (Some (Dir owned)) is = absurd (false≢true is)
fit_is (Some (File bytes access)) (Some (Link target)) is = absurd (false≢true is)
fit_is (Some (Dir access)) (Some (File others owned)) is = absurd (false≢true is)
fit_is (Some (Dir access)) (Some (Dir owned)) is = absurd (false≢true is)
fit_is (Some (Dir access)) (Some (Link target)) is = absurd (false≢true is)
fit_is (Some (Link target)) (Some (File others owned)) is = absurd (false≢true is)
fit_is (Some (Link target)) (Some (Dir owned)) is = absurd (false≢true is)
fit_is (Some (Link target)) (Some (Link aimed)) is = record { loose = loose_link target; same = λ some. inr (ap (λ (t : List ℕ). Some (Link t)) (sym ((bytes_eq-Decides target aimed).0 is))) }

itself : (node : Node) → NoDirectory (Some node) → (is_no_directory node && same_node node node) ≡ true
itself (File bytes access) loose = same_node_itself (File bytes access)
itself (Dir access) loose = absurd (loose (access, refl))
itself (Link target) loose = same_node_itself (Link target)

alone : (node : Node) → NoDirectory (Some node) → is_no_directory node ≡ true
alone (File bytes access) loose = refl
alone (Dir access) loose = absurd (loose (access, refl))
alone (Link target) loose = refl

none_fits : (short : Option Node) → is_fit None short ≡ true
none_fits None = refl
none_fits (Some there) = refl

is_fit_of : (long short : Option Node) → NoDirectory long → (IsSome long → (short ≡ None) ⊎ (short ≡ long)) → is_fit long short ≡ true
is_fit_of None short loose same = none_fits short
is_fit_of (Some node) short loose same = elim (same refl) [
  | inl none ↦ ap (is_fit (Some node)) none ∙ alone node loose
  | inr is ↦ ap (is_fit (Some node)) is ∙ itself node loose
]

pub unfit_not : (long short : Option Node) → is_fit long short ≡ false → IsFit long short → ⊥
unfit_not long short is fit = true≢false (sym (is_fit_of long short fit.loose fit.same) ∙ is)

pub unfit_stands : (long short : Option Node) → is_fit long short ≡ false → IsSome long
unfit_stands None short is = absurd (true≢false (sym (none_fits short) ∙ is))
unfit_stands (Some node) short is = refl

-- the same of format 0

pub alike_is : (long short : Option Node) → is_double long short ≡ true → IsSome long → IsSome short → AreAlike long short
alike_is None short is some there = absurd (false≢true some)
alike_is (Some node) None is some there = absurd (false≢true there)
alike_is (Some (File bytes access)) (Some (File others owned)) is some there = inl (bytes, access, owned, refl, ap (λ (b : List ℕ). Some (File b owned)) (sym ((bytes_eq-Decides bytes others).0 is)))
alike_is (Some (File bytes access)) (Some (Dir owned)) is some there = absurd (false≢true is)
alike_is (Some (File bytes access)) (Some (Link target)) is some there = absurd (false≢true is)
alike_is (Some (Dir access)) (Some (File others owned)) is some there = absurd (false≢true is)
alike_is (Some (Dir access)) (Some (Dir owned)) is some there = absurd (false≢true is)
alike_is (Some (Dir access)) (Some (Link target)) is some there = absurd (false≢true is)
alike_is (Some (Link target)) (Some (File others owned)) is some there = absurd (false≢true is)
alike_is (Some (Link target)) (Some (Dir owned)) is some there = absurd (false≢true is)
alike_is (Some (Link target)) (Some (Link aimed)) is some there = inr (target, refl, ap (λ (t : List ℕ). Some (Link t)) (sym ((bytes_eq-Decides target aimed).0 is)))

pub unalike_not : (long short : Option Node) → is_double long short ≡ false → AreAlike long short → ⊥
unalike_not long short is (inl (bytes, access, owned, first, second)) =
    true≢false (sym (ap (λ (n : Option Node). is_double n short) first ∙ ap (λ (n : Option Node). is_double (Some (File bytes access)) n) second ∙ (bytes_eq-Decides bytes bytes).1 refl) ∙ is)
unalike_not long short is (inr (target, first, second)) =
    true≢false (sym (ap (λ (n : Option Node). is_double n short) first ∙ ap (λ (n : Option Node). is_double (Some (Link target)) n) second ∙ (bytes_eq-Decides target target).1 refl) ∙ is)

pub unalike_stand : (long short : Option Node) → is_double long short ≡ false → IsSome long × IsSome short
unalike_stand None None is = absurd (true≢false is)
unalike_stand None (Some there) is = absurd (true≢false is)
unalike_stand (Some node) None is = absurd (true≢false is)
unalike_stand (Some node) (Some there) is = (refl, refl)

pub alike_itself : (node : Option Node) → IsLoose node → AreAlike node node
alike_itself None loose = absurd (false≢true loose.0)
alike_itself (Some (File bytes access)) loose = inl (bytes, access, access, refl, refl)
alike_itself (Some (Dir access)) loose = absurd (loose.1 (access, refl))
alike_itself (Some (Link target)) loose = inr (target, refl, refl)

pub alike_loose : (long short : Option Node) → AreAlike long short → IsLoose long
alike_loose long short (inl (bytes, access, owned, first, second)) = subst IsLoose (sym first) (refl, loose_file bytes access)
alike_loose long short (inr (target, first, second)) = subst IsLoose (sym first) (refl, loose_link target)
