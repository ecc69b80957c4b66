-- Rounds of an install, one after another.
use Rattle.std.proofs.Common.{◌≡◌, ◌-◌, ◌++◌, ◌∷◌, ◌∙◌, [], ℕ, Bool, true, false, length, map, append_assoc, List, Option, Some, None, Result, ap, arith, refl, subst, suc, sym}
use Rattle.std.specs.Prelude.{MatchOption, OnOk, is_some}
use Rattle.std.specs.List.{flat_map}
use Rattle.std.proofs.lemmas.Result.{on_ok_weaker}
use Rattle.std.proofs.lemmas.List.{length-append}
use Rattle.host_core.specs.Host.{State}
use Rattle.configure_run.specs.declared.options.ConfigureOptions.{ConfigureOptions}
use Rattle.package_tree.specs.declared.control_file.ControlFile.{ControlFile}
use Rattle.unit_reports.specs.Held.{Held}
use Rattle.unit_reports.specs.declared.report.Unit.{Unit as AUnit}
use Rattle.dpkg_session.specs.Installs.{last_of}
use Rattle.dpkg_session.specs.declared.installing.Installed.{Installed}
use Rattle.command_words.specs.declared.unpacking.Unpacking.{Unpacking}
use Rattle.command_line.specs.Order.{AreLookedAt, HasLooked}
use Rattle.command_line.specs.Printing.{last_of_round, last_of_rounds}
use Rattle.command_line.specs.Reading.{words_before}
use Rattle.command_line.specs.Roots.{Around}
use Rattle.command_line.specs.Unpacks.{HasInstalledRound, HasInstalledRounds}
use Rattle.command_line.proofs.Trees.{Within, before_left, looked_within, looks_within, round_within, rounds_within}

-- the words of a round, behind those of earlier rounds
module _ (all : List (List ℕ)) (left later : ℕ) (round rest : List (List ℕ)) (behind : all ≡ words_before all left ++ (round ++ rest)) (is_left : left ≡ length (round ++ rest)) (is_later : later ≡ left - length round) where
  pub later_words : later ≡ length rest
  later_words = omega (arith, is_left, is_later, length-append round rest)

  split : all ≡ (words_before all left ++ round) ++ rest
  split = behind ∙ sym (append_assoc (words_before all left) round rest)

  pub to_round : words_before all later ≡ words_before all left ++ round
  to_round =
      ap (λ (n : ℕ). words_before all n) later_words ∙ ap (λ (l : List (List ℕ)). words_before l (length rest)) split ∙ before_left (words_before all left ++ round) rest

  pub earlier_words : words_before (words_before all later) (length round) ≡ words_before all left
  earlier_words = ap (λ (l : List (List ℕ)). words_before l (length round)) to_round ∙ before_left (words_before all left) round

  pub round_behind : words_before all later ≡ words_before (words_before all later) (length round) ++ round
  round_behind = to_round ∙ ap (λ (l : List (List ℕ)). l ++ round) (sym earlier_words)

  pub rest_behind : all ≡ words_before all later ++ rest
  rest_behind = split ∙ ap (λ (l : List (List ℕ)). l ++ rest) (sym to_round)

-- at a pattern that isn't Some
pub none_cases : {X : Type 0} (o : Option X) (A : Type 0) (Q : X → Type 0) → ((x : X) → o ≡ Some x → ⊥) → MatchOption o A Q → A
none_cases None A Q not h = h
none_cases (Some x) A Q not h = absurd (not x refl)

pub none_of : {A : Type 0} (o : Option A) → is_some o ≡ false → o ≡ None
none_of None e = refl
none_of (Some x) e = cc

at_none : {A : Type 0} (o : Option A) (P : Type 0) (Q : A → Type 0) → o ≡ None → P → MatchOption o P Q
at_none o P Q e p = subst (λ x. MatchOption x P Q) (sym e) p

at_some : {A : Type 0} (o : Option A) (P Q : Type 0) → is_some o ≡ true → Q → MatchOption o P (λ x. Q)
at_some None P Q e q = cc
at_some (Some x) P Q e q = q

-- one round, and those behind it
pub rounds_then : (outer first rest : Around) → Within outer first → Within outer rest → (u : Unpacking) (options : ConfigureOptions) (earlier words : List (List ℕ)) (rounds : List (List (List ℕ))) (came : Installed) (more : List Installed) (before mid after : Held) (s m end : State)
    → HasInstalledRound first u options earlier words came before mid s m → last_of_round came ≡ None → HasInstalledRounds rest u options (earlier ++ words) rounds more mid after m end
    → HasInstalledRounds outer u options earlier (words ∷ rounds) (came ∷ more) before after s end
rounds_then outer first rest in_first in_rest u options earlier words rounds came more before mid after s m end round none behind = (
  mid,
  m,
  round_within outer first in_first u options earlier words came before mid s m round,
  at_none (last_of_round came) _ (λ broken. (more ≡ []) × (end ≡ m) × (after ≡ mid)) none (rounds_within outer rest in_rest u options (earlier ++ words) rounds more mid after m end behind),
)

-- one round of which a unit was broken off
pub rounds_broken : (a : Around) (u : Unpacking) (options : ConfigureOptions) (earlier words : List (List ℕ)) (rounds : List (List (List ℕ))) (came : Installed) (before mid : Held) (s m : State)
    → HasInstalledRound a u options earlier words came before mid s m → is_some (last_of_round came) ≡ true → HasInstalledRounds a u options earlier (words ∷ rounds) (came ∷ []) before mid s m
rounds_broken a u options earlier words rounds came before mid s m round broken = (
  mid,
  m,
  round,
  at_some (last_of_round came) _ (◌≡◌ {A = List Installed} [] [] × (m ≡ m) × (mid ≡ mid)) broken (refl, refl, refl),
)

pub last_alone : (o : Option AUnit) → is_some (last_of o None) ≡ is_some o
last_alone None = refl
last_alone (Some u) = refl

pub last_behind : (o second : Option AUnit) → o ≡ None → last_of o second ≡ second
last_behind o second none = ap (λ (x : Option AUnit). last_of x second) none

pub rounds_none : {V : Type 0} (items : V → List (List ℕ)) (a : Around) (u : Unpacking) (options : ConfigureOptions) (earlier : List (List ℕ)) (rounds : List V) (before : Held) (s : State) → rounds ≡ []
    → HasInstalledRounds a u options earlier (map items rounds) [] before before s s
rounds_none items a u options earlier rounds before s none = subst (λ r. HasInstalledRounds a u options earlier (map items r) [] before before s s) (sym none) (refl, refl)

pub round_from : (a : Around) (u : Unpacking) (options : ConfigureOptions) (e earlier words : List (List ℕ)) (came : Installed) (before mid : Held) (s m : State) → e ≡ earlier
    → HasInstalledRound a u options e words came before mid s m → HasInstalledRound a u options earlier words came before mid s m
round_from a u options e earlier words came before mid s m same round = subst (λ x. HasInstalledRound a u options x words came before mid s m) same round

-- the next of rounds
module _ {V : Type 0} (items : V → List (List ℕ)) (old : List V) (round : V) (rest : List V) (next : old ≡ round ∷ rest) where
  pub one_broken : (a : Around) (u : Unpacking) (options : ConfigureOptions) (earlier : List (List ℕ)) (came : Installed) (before mid : Held) (s m : State)
      → HasInstalledRound a u options earlier (items round) came before mid s m → is_some (last_of_round came) ≡ true → HasInstalledRounds a u options earlier (map items old) (came ∷ []) before mid s m
  one_broken a u options earlier came before mid s m has broken =
      subst (λ (r : List V). HasInstalledRounds a u options earlier (map items r) (came ∷ []) before mid s m) (sym next)
      (rounds_broken a u options earlier (items round) (map items rest) came before mid s m has broken)

  pub one_then : (outer first behind : Around) → Within outer first → Within outer behind → (u : Unpacking) (options : ConfigureOptions) (earlier later : List (List ℕ)) (came : Installed) (more : List Installed) (before mid after : Held) (s m end : State)
      → later ≡ earlier ++ items round → HasInstalledRound first u options earlier (items round) came before mid s m → last_of_round came ≡ None → HasInstalledRounds behind u options later (map items rest) more mid after m end
      → HasInstalledRounds outer u options earlier (map items old) (came ∷ more) before after s end
  one_then outer first behind in_first in_behind u options earlier later came more before mid after s m end is has none others =
      subst (λ (r : List V). HasInstalledRounds outer u options earlier (map items r) (came ∷ more) before after s end) (sym next)
      (rounds_then outer first behind in_first in_behind u options earlier (items round) (map items rest) came more before mid after s m end has none
      (subst (λ e. HasInstalledRounds behind u options e (map items rest) more mid after m end) is others))

  -- where the words of earlier rounds end
  module _ (all : List (List ℕ)) (left later : ℕ) (behind : all ≡ words_before all left ++ flat_map items old) (is_left : left ≡ length (flat_map items old)) (is_later : later ≡ left - length (items round)) where
    opened : all ≡ words_before all left ++ (items round ++ flat_map items rest)
    opened = behind ∙ ap (λ (l : List V). words_before all left ++ flat_map items l) next

    counted : left ≡ length (items round ++ flat_map items rest)
    counted = is_left ∙ ap (λ (l : List V). length (flat_map items l)) next

    pub left_then : later ≡ length (flat_map items rest)
    left_then = later_words all left later (items round) (flat_map items rest) opened counted is_later

    pub earlier_then : words_before all later ≡ words_before all left ++ items round
    earlier_then = to_round all left later (items round) (flat_map items rest) opened counted is_later

    pub earlier_before : words_before (words_before all later) (length (items round)) ≡ words_before all left
    earlier_before = earlier_words all left later (items round) (flat_map items rest) opened counted is_later

    pub round_last : words_before all later ≡ words_before (words_before all later) (length (items round)) ++ items round
    round_last = round_behind all left later (items round) (flat_map items rest) opened counted is_later

    pub behind_then : all ≡ words_before all later ++ flat_map items rest
    behind_then = rest_behind all left later (items round) (flat_map items rest) opened counted is_later

-- one look more
pub looks_more : {T E : Type 0} (r : Result T E) (outer first rest : Around) → Within outer first → Within outer rest → (old pushed new : List (Option ControlFile)) (word : List ℕ) (words all : List (List ℕ)) (found : Option ControlFile)
    → all ≡ word ∷ words → pushed ≡ old ++ found ∷ [] → HasLooked first word found → OnOk r ((more : List (Option ControlFile)) × (new ≡ pushed ++ more) × AreLookedAt rest words more)
    → OnOk r ((more : List (Option ControlFile)) × (new ≡ old ++ more) × AreLookedAt outer all more)
looks_more r outer first rest in_first in_rest old pushed new word words all found is grown looked h =
    on_ok_weaker r (λ (m : (more : List (Option ControlFile)) × (new ≡ pushed ++ more) × AreLookedAt rest words more). (
      found ∷ m.0,
      m.1 ∙ ap (λ (l : List (Option ControlFile)). l ++ m.0) grown ∙ append_assoc old (found ∷ []) m.0,
      subst (λ (ws : List (List ℕ)). AreLookedAt outer ws (found ∷ m.0)) (sym is) (looked_within outer first in_first word found looked, looks_within outer rest in_rest words m.0 m.2),
    )) h

-- what is found is as long as the words
pub looks_length : (a : Around) (words : List (List ℕ)) (found : List (Option ControlFile)) → AreLookedAt a words found → length found ≡ length words
looks_length a [] [] h = refl
looks_length a [] (l ∷ ls) h = absurd h
looks_length a (word ∷ words) [] h = absurd h
looks_length a (word ∷ words) (l ∷ ls) h = ap suc (looks_length a words ls h.1)
