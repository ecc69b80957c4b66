-- Names that files declare.
use Rattle.std.proofs.Common.{◌≡◌, ◌==◌, not, ℕ, true, List, [], ◌∷◌, length, Option, Some, None, codes, nat_eq}
use Rattle.std.specs.List.{AllByRecursion, list_any, slice_split, starts_with}
use Rattle.control_fields.specs.Names.{is_blank}
use Rattle.texts.specs.PackageNames.{is_package_name}
use Rattle.host_core.specs.World.{World}
use Rattle.host_core.specs.declared.node.Node.{Node}
use Rattle.host_core.specs.declared.node.Node.TheVariants.{File, Dir, Link}
use Rattle.diversions.specs.Lines.{lines_in}
use Rattle.trigger_interests.specs.Interests.{declared, declared_at, interest_of, interests_by, interests_of, is_interest, or_none, triggers_path}
use Rattle.trigger_interests.specs.Lines.{declarations_by, declarations_of, declares, is_faulty_line, line_by, line_from, line_of}
use Rattle.trigger_interests.specs.Words.{directive_of, is_trigger_name}
use Rattle.trigger_interests.specs.declared.interests.Interest.{Interest}
use Rattle.trigger_interests.specs.declared.lines.Declaration.{Declaration}
use Rattle.trigger_interests.specs.declared.words.Directive.{Directive}
use Rattle.trigger_watch.proofs.All.{all_filter, all_flat_map, all_map, chosen, kept_pass}

-- a name has one sign and more, all printed
pub record IsSound (name : List ℕ) : Type 0 where
  pub signs : is_trigger_name name ≡ true
  pub some : not (length name == 0) ≡ true

abbrev pub IsSoundInterest : Interest → Type 0
IsSoundInterest interest = IsSound interest.name

abbrev IsSoundly : Declaration → Type 0
IsSoundly d = IsSound d.name

abbrev IsSome : List ℕ → Type 0
IsSome word = not (length word == 0) ≡ true

by_directive : (directive : Option Directive) (name : List ℕ) → IsSome name → AllByRecursion IsSoundly (declarations_by (declares directive name))
by_directive None name some = tt
by_directive (Some directive) name some = chosen (λ line. AllByRecursion IsSoundly (declarations_by line)) (is_trigger_name name) _ _ (λ e. (record { signs = e; some = some }, tt)) (λ e. tt)

behind_word : (word : List ℕ) (names : List (List ℕ)) → AllByRecursion IsSome names → AllByRecursion IsSoundly (declarations_by (line_from word names))
behind_word word [] h = tt
behind_word word (name ∷ []) h = by_directive (directive_of word) name h.0
behind_word word (name ∷ more ∷ names) h = tt

by_words : (words : List (List ℕ)) → AllByRecursion IsSome words → AllByRecursion IsSoundly (declarations_by (line_by words))
by_words [] some = tt
by_words (word ∷ rest) some = chosen (λ line. AllByRecursion IsSoundly (declarations_by line)) (starts_with nat_eq word (codes "#")) _ _ (λ e. tt) (λ e. behind_word word rest some.1)

by_line : (line : List ℕ) → AllByRecursion IsSoundly (declarations_by (line_of line))
by_line line = by_words _ (kept_pass (λ word. not (length word == 0)) (slice_split is_blank line))

by_lines : (lines : List (List ℕ)) → AllByRecursion IsSoundly (or_none (declarations_of lines))
by_lines lines = chosen (λ read. AllByRecursion IsSoundly (or_none read)) (list_any is_faulty_line lines) _ _ (λ e. tt) (λ e. all_flat_map IsSoundly (λ line. declarations_by (line_of line)) by_line lines)

by_node : (node : Option Node) → AllByRecursion IsSoundly (declared_at node)
by_node None = tt
by_node (Some (File bytes access)) = by_lines (lines_in bytes)
by_node (Some (Dir access)) = tt
by_node (Some (Link target)) = tt

by_package : (w : World) (name : List ℕ) → AllByRecursion IsSoundly (declared w name)
by_package w name = chosen (AllByRecursion IsSoundly) (is_package_name name) (declared_at (w (triggers_path name))) [] (λ e. by_node (w (triggers_path name))) (λ e. tt)

pub sound_interests : (w : World) (names : List (List ℕ)) → AllByRecursion IsSoundInterest (interests_of w names)
sound_interests w names = all_flat_map IsSoundInterest (λ name. interests_by name (declared w name))
    (λ name. all_map IsSoundInterest (interest_of name) _ (all_filter IsSoundly (λ d. is_interest d.directive) (declared w name) (by_package w name))) names
