-- Lines that name what isn't shipped, and flagged paths that are.
use Rattle.std.proofs.Common.{◌≡◌, ◌↔◌, ◌<◌, ◌≤◌, ◌+◌, ℕ, suc, Bool, true, false, List, [], ◌∷◌, ◌++◌, Option, Some, take, drop, length, get_or, refl, sym, ap, subst, ◌∙◌, inl, inr, IsTrue}
use Rattle.std.specs.Prelude.{Contains, MatchBool}
use Rattle.std.proofs.Math.Seq.{split_at}
use Rattle.std.proofs.lemmas.Bool.{false≢true, true≢false}
use Rattle.std.proofs.lemmas.Grind.{take_at_read}
use Rattle.std.proofs.lemmas.List.{take_all}
use Rattle.std.proofs.lemmas.List.Elements.{Contains-append_cases}
use Rattle.host_core.specs.Paths.{Path}
use Rattle.host_core.specs.World.{World, kind_of}
use Rattle.host_core.specs.declared.node.Kind.{Kind}
use Rattle.host_core.specs.declared.node.Kind.TheVariants.{File}
use Rattle.package_tree.specs.Conffiles.{HasNoEntry}
use Rattle.package_tree.specs.ConffileFaults.{IsAstray, IsOfBoth}
use Rattle.package_tree.specs.ShipMap.{ShipsFile}
use Rattle.package_tree.specs.Shipped.{AreInOrder, AreShipped, IsFirstPath}
use Rattle.package_tree.specs.declared.conffile_lines.Entry.{Entry}
use Rattle.package_tree.proofs.Collected.{all_push}
use Rattle.package_tree.proofs.Firsts.{first_in_order}
use Rattle.package_tree.proofs.Ordered.{none_in, first_or_later}

pub told_true : (told : Bool) (A B : Type 0) → told ≡ true → MatchBool told A B → A
told_true true A B is says = says
told_true false A B is says = absurd (false≢true is)

pub told_false : (told : Bool) (A B : Type 0) → told ≡ false → MatchBool told A B → B
told_false true A B is says = absurd (true≢false is)
told_false false A B is says = says

pub ships_told : (w : World) (paths : List Path) (q found : Path) (kind : Option Kind) (told : Bool) → AreShipped w paths → found ≡ q → Contains paths q → kind ≡ kind_of (w found) → IsTrue told ↔ (kind ≡ Some File)
    → MatchBool told (ShipsFile w q) (ShipsFile w q → ⊥)
ships_told w paths q found kind true are same has is says = record { shipped = are.only q has; file = ap (λ (p : Path). kind_of (w p)) (sym same) ∙ sym is ∙ says.0 refl }
ships_told w paths q found kind false are same has is says = λ ships. false≢true (says.1 (is ∙ ap (λ (p : Path). kind_of (w p)) same ∙ ships.file))

-- no line more is astray
pub none_more : (w v : World) (entries : List Entry) (i : ℕ) (entry : Entry) (told : Bool) → i < length entries → entry ≡ get_or entries i entry → v ≡ w → HasNoEntry (IsAstray w) (take i entries) → told ≡ false → MatchBool told (IsAstray v entry) (IsAstray v entry → ⊥)
    → HasNoEntry (IsAstray w) (take (i + 1) entries)
none_more w v entries i entry told lt is same all fine says =
    subst (HasNoEntry (IsAstray w)) (ap (λ (e : Entry). take i entries ++ e ∷ []) is ∙ sym (take_at_read entries i entry lt).1)
    (all_push (λ e. IsAstray w e → ⊥) (take i entries) entry all (subst (λ (x : World). IsAstray x entry → ⊥) same (told_false told (IsAstray v entry) (IsAstray v entry → ⊥) fine says)))

-- the first flagged path that is shipped
pub first_of_both : (flagged paths : List Path) (i : ℕ) (path : Path) → AreInOrder flagged → i < length flagged → path ≡ get_or flagged i path → ((q : Path) → Contains (take i flagged) q → Contains paths q → ⊥) → Contains paths path
    → IsFirstPath (IsOfBoth flagged paths) path
first_of_both flagged paths i path order lt is none has =
    let whole : flagged ≡ take i flagged ++ path ∷ drop (suc i) flagged = split_at flagged i path lt ∙ ap (λ (p : Path). take i flagged ++ p ∷ drop (suc i) flagged) (sym is) in
    first_in_order (IsOfBoth flagged paths) (take i flagged) (drop (suc i) flagged) path (subst AreInOrder whole order) (λ q both. subst (λ (l : List Path). Contains l q) whole both.0)
    ((i, lt, sym is), has)
    (λ q ahead both. none q ahead both.1)

pub none_of_both_more : (flagged paths : List Path) (i : ℕ) (path : Path) → i < length flagged → path ≡ get_or flagged i path → ((q : Path) → Contains (take i flagged) q → Contains paths q → ⊥) → (Contains paths path → ⊥)
    → (q : Path) → Contains (take (i + 1) flagged) q → Contains paths q → ⊥
none_of_both_more flagged paths i path lt is none lacks q has there =
    let whole : take (i + 1) flagged ≡ take i flagged ++ path ∷ [] = (take_at_read flagged i path lt).1 ∙ ap (λ (p : Path). take i flagged ++ p ∷ []) (sym is) in
    elim (Contains-append_cases (take i flagged) (path ∷ []) q (subst (λ (l : List Path). Contains l q) whole has)) [
      | inl old ↦ none q old there
      | inr new ↦ elim (first_or_later path [] q new) [
        | inl same ↦ lacks (subst (Contains paths) (sym same) there)
        | inr later ↦ none_in q later
      ]
    ]

pub none_of_both : (flagged paths : List Path) (i : ℕ) → length flagged ≤ i → ((q : Path) → Contains (take i flagged) q → Contains paths q → ⊥) → (q : Path) → IsOfBoth flagged paths q → ⊥
none_of_both flagged paths i done none q both = none q (subst (λ (l : List Path). Contains l q) (sym (take_all i flagged done)) both.0) both.1
