-- Paths that the check found sound leave the files of other packages alone.
use Rattle.std.proofs.Common.{◌≡◌, ◌≢◌, ◌⊎◌, ◌&&◌, ◌||◌, inl, inr, not, ℕ, zero, suc, Bool, true, false, cond, List, [], ◌∷◌, ◌++◌, Option, Some, None, Contains, is_some, refl, sym, ap, subst, ◌∙◌, arith}
use Rattle.std.specs.List.{list_any}
use Rattle.std.specs.Str.{bytes_eq}
use Rattle.std.specs.Ordering.{is_lt, nat_cmp}
use Rattle.std.specs.Cmp.Lexicographic.{slice_cmp}
use Rattle.std.proofs.lemmas.Bool.{false_from_ne_true, true≢false}
use Rattle.std.proofs.lemmas.List.Elements.{Contains-append_right}
use Rattle.std.proofs.lemmas.Slice.Eq.{bytes_eq-Decides}
use Rattle.host_core.specs.Paths.{Path, has_reserved_suffix}
use Rattle.host_core.specs.World.{World, IsLoose, kind_of}
use Rattle.host_core.specs.Suffixes.{suffix_text}
use Rattle.host_core.specs.declared.suffix.Suffix.TheVariants.{New, Tmp, Inst}
use Rattle.host_core.specs.declared.node.Node.{Node}
use Rattle.host_core.specs.declared.node.Node.TheVariants.{File, Dir, Link}
use Rattle.host_core.proofs.Nodes.{none_stands}
use Rattle.host_core.proofs.ShipNames.{plain_other}
use Rattle.file_check.specs.Clashes.{Owning, claims, first_clash, first_rival, is_rival, rival, some_if}
use Rattle.file_check.specs.Sound.{AreSound, IsSound}
use Rattle.file_lists.specs.Owners.{owners_of}
use Rattle.file_lists.specs.declared.paths.Listed.{Listed}
use Rattle.package_files.specs.declared.work.Work.{Work}
use Rattle.package_files.specs.Files.{Each, Misses, is_written}
use Rattle.package_files.specs.Names.{IsNamed}
use Rattle.unpack_engine.specs.Units.{Given}
use Rattle.unpack_laws.specs.InHand.{unit_name, unit_yields}
use Rattle.kept_files.specs.Kept.{IsHeldPlace, unit_owning}
use Rattle.kept_files.proofs.Works.{Spares}

-- a rival is found

no_some : (n : List ℕ) → Some n ≡ None → ⊥
no_some n e = true≢false (ap is_some e)

both : (a b : Bool) → a ≡ true → b ≡ true → a && b ≡ true
both true b first second = second
both false b first second = first

has_rival : (o : Owning) (xs : List Listed) (x : Listed) → Contains xs x → is_rival o x.name ≡ true → first_rival o xs ≡ None → ⊥
has_rival o [] x there is none = absurd (omega (arith, there.1))
has_rival o (y ∷ ys) x (zero, lt, at) is none =
    no_some y.name (ap (λ b. cond b (Some y.name) (first_rival o ys)) (sym (ap (λ (l : Listed). is_rival o l.name) at ∙ is)) ∙ none)
has_rival o (y ∷ ys) x (suc k, lt, at) is none = by (is_rival o y.name) none (has_rival o ys x (k, omega (arith, lt), at) is)
  where
    by : (b : Bool) → cond b (Some y.name) (first_rival o ys) ≡ None → (first_rival o ys ≡ None → ⊥) → ⊥
    by true found later = no_some y.name found
    by false found later = later found

-- a clash with another package is told

no_clash : (other itself : Option (List ℕ)) → first_clash other itself ≡ None → other ≡ None
no_clash None itself none = refl
no_clash (Some a) None none = none
no_clash (Some a) (Some b) none = by (is_lt (slice_cmp nat_cmp a b)) none
  where
    by : (t : Bool) → cond t (Some a) (Some b) ≡ None → Some a ≡ None
    by true is = is
    by false is = absurd (no_some b is)

unclaimed_by : (claiming : Bool) (found : Option (List ℕ)) → (found ≡ None → ⊥) → some_if claiming found ≡ None → claiming ≡ false
unclaimed_by true found there none = absurd (there none)
unclaimed_by false found there none = refl

pub sound_at : (o : Owning) (made twice : Path → Bool) (w : World) (works : List Work) (x : Work) → AreSound o made twice w works → Contains works x → IsSound o made twice w x
sound_at o made twice w [] x all there = absurd (omega (arith, there.1))
sound_at o made twice w (y ∷ ys) x all (zero, lt, at) = subst (IsSound o made twice w) at all.0
sound_at o made twice w (y ∷ ys) x all (suc k, lt, at) = sound_at o made twice w ys x all.1 (k, omega (arith, lt), at)

-- a held place has a rival

among_has : (names : List (List ℕ)) (n : List ℕ) → list_any (bytes_eq n) names ≡ true → Contains names n
among_has [] n any = absurd (true≢false (sym any))
among_has (m ∷ names) n any = by (bytes_eq n m) refl any (among_has names n)
  where
    by : (b : Bool) → bytes_eq n m ≡ b → b || list_any (bytes_eq n) names ≡ true → (list_any (bytes_eq n) names ≡ true → Contains names n) → Contains (m ∷ names) n
    by true is some rest = (zero, omega arith, sym ((bytes_eq-Decides n m).0 is))
    by false is some rest = Contains-append_right (m ∷ []) names n (rest some)

not_among : (names : List (List ℕ)) (n : List ℕ) → (Contains names n → ⊥) → not (list_any (bytes_eq n) names) ≡ true
not_among names n none = ap not (false_from_ne_true (list_any (bytes_eq n) names) (λ any. none (among_has names n any)))

module _ (g : Given) (q : Path) (held : IsHeldPlace g q) where
  rival_there : rival (unit_owning g) q ≡ None → ⊥
  rival_there none =
      let owner = held.held.owner in
      has_rival (unit_owning g) (owners_of g.ways g.lists q) owner held.held.lies
      (both (not (bytes_eq owner.name (unit_name g))) (not (list_any (bytes_eq owner.name) (unit_yields g)))
      (ap not (false_from_ne_true (bytes_eq owner.name (unit_name g)) (λ e. held.held.other ((bytes_eq-Decides owner.name (unit_name g)).0 e)))) (not_among (unit_yields g) owner.name held.stays)) none

  pub unclaimed : (made twice : Path → Bool) (w : World) (x : Work) → x.place ≡ q → IsSound (unit_owning g) made twice w x → claims x.node (kind_of (w q)) ≡ false
  unclaimed made twice w x at sound =
      ap (λ p. claims x.node (kind_of (w p))) (sym at)
      ∙ unclaimed_by (claims x.node (kind_of (w x.place))) (rival (unit_owning g) x.place) (λ none. rival_there (ap (rival (unit_owning g)) (sym at) ∙ none))
      (no_clash (some_if (claims x.node (kind_of (w x.place))) (rival (unit_owning g) x.place)) _ sound.clash)

-- what claims no place of a file or link isn't written there
pub unwritten_at : (node : Node) (there : Option Node) → IsLoose there → claims node (kind_of there) ≡ false → is_written node there ≡ false
unwritten_at node None loose un = absurd (none_stands None refl loose.0)
unwritten_at node (Some (Dir access)) loose un = absurd (loose.1 (access, refl))
unwritten_at (Dir m) (Some (File b k)) loose un = absurd (true≢false un)
unwritten_at (Dir m) (Some (Link l)) loose un = refl
unwritten_at (File b m) (Some (File c k)) loose un = absurd (true≢false un)
unwritten_at (File b m) (Some (Link l)) loose un = absurd (true≢false un)
unwritten_at (Link t) (Some (File c k)) loose un = absurd (true≢false un)
unwritten_at (Link t) (Some (Link l)) loose un = absurd (true≢false un)

-- a path without a reserved ending is none of the names beside a place

module _ (q : Path) (plain : has_reserved_suffix q ≡ false) (node : Option Node) (x : Work) (named : IsNamed x) where
  missed : q ≢ x.target → Spares q node x
  missed other = Spares.misses (record {
    target = other;
    backup = λ e. plain_other q x.place Tmp plain (e ∙ named.backup);
    fresh = λ e. plain_other q x.place Inst plain (e ∙ named.fresh);
  })

  pub spares_by : (x.place ≡ q → is_written x.node node ≡ false) → Spares q node x
  spares_by un = elim named.target [
    | inl same ↦ by (bytes_eq q x.place) refl same
    | inr beside ↦ missed (λ e. plain_other q x.place New plain (e ∙ beside))
  ]
    where
      by : (b : Bool) → bytes_eq q x.place ≡ b → x.target ≡ x.place → Spares q node x
      by true is same = let at : q ≡ x.place = (bytes_eq-Decides q x.place).0 is in Spares.stays (at ∙ sym same) (un (sym at))
      by false is same = missed (λ e. true≢false (sym ((bytes_eq-Decides q x.place).1 (e ∙ same)) ∙ is))

-- so all works leave the file alone
module _ (g : Given) (q : Path) (plain : has_reserved_suffix q ≡ false) (held : IsHeldPlace g q) (made twice : Path → Bool) (w : World) (loose : IsLoose (w q)) where
  pub spares_sound : (works : List Work) → Each IsNamed works → AreSound (unit_owning g) made twice w works → Each (Spares q (w q)) works
  spares_sound [] named sound = tt
  spares_sound (x ∷ xs) named sound =
      (spares_by q plain (w q) x named.0 (λ at. unwritten_at x.node (w q) loose (unclaimed g q held made twice w x at sound.0)), spares_sound xs named.1 sound.1)
