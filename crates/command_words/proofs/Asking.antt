-- What words ask for, by what clap says of them.
use Rattle.std.proofs.Common.{arith, ◌≡◌, ◌<◌, ◌≤◌, List, [], ◌∷◌, length, ℕ, Option, Some, None, Bool, true, false, Result, Ok, Err, nat_le, if◌then◌else◌, refl, sym, ap, subst, ◌∙◌}
use Rattle.std.specs.Option.{option_or}
use Rattle.std.specs.Prelude.{IfOk}
use Rattle.command_words.specs.Rehearsals.{Rehearsed}
use Rattle.clap.specs.Words.{App, HasMatchesOf, IsAmong, Kinds, Text, fault_of, is_simple_and_free, subcommand_rows_of}
use Rattle.clap.specs.declared.error.kind.ErrorKind.{ErrorKind}
use Rattle.clap.specs.declared.parser.matches.ArgMatches.{ArgMatches}
use Rattle.command_words.specs.CommandLine.{whole_app}
use Rattle.command_words.specs.Commands.{asked_in, asked_of, entered, flagged, parsed_of, rehearsal_of, rehearsed_beside, rehearsed_in, unless_faulty, unless_flagged}
use Rattle.command_words.specs.declared.words.Asked.{Asked}
use Rattle.command_words.specs.declared.words.Asked.TheVariants.{Names}

names_value : (few : Bool) (other : Option Asked) → few ≡ true → (if few then Some Names else other) ≡ Some Names
names_value few other e = rw e refl

more_value : (few : Bool) (flag other : Option Asked) → few ≡ false → (if few then Some Names else option_or flag other) ≡ option_or flag other
more_value few flag other e = rw e refl

taken_value : (kinds : Kinds) (asked : Option Asked) → kinds ≡ [] → unless_faulty kinds asked ≡ asked
taken_value kinds asked none = rw none refl

faulty_none : (kinds : Kinds) (asked : Option Asked) (k : ErrorKind) → IsAmong k kinds → unless_faulty kinds asked ≡ None
faulty_none [] asked k among = absurd among
faulty_none (x ∷ xs) asked k among = refl

few_words : (n : ℕ) → n ≤ 1 → nat_le n 1 ≡ true
few_words n h = grind arith

more_words : (n : ℕ) → 1 < n → nat_le n 1 ≡ false
more_words n h = grind arith

pub asked_names : (words : List Text) → length words ≤ 1 → asked_of words ≡ Some Names
unfolding asked_of
asked_names words few = names_value (nat_le (length words) 1) _ (few_words _ few)

pub asked_flagged : (words : List Text) (asked : Asked) → 1 < length words → flagged words ≡ Some asked → asked_of words ≡ Some asked
unfolding asked_of
asked_flagged words asked more flag =
    more_value (nat_le (length words) 1) (flagged words) (parsed_of words) (more_words _ more) ∙ ap (λ (f : Option Asked). option_or f (parsed_of words)) flag

pub asked_parsed : (words : List Text) → 1 < length words → flagged words ≡ None → asked_of words ≡ parsed_of words
unfolding asked_of
asked_parsed words more none =
    more_value (nat_le (length words) 1) (flagged words) (parsed_of words) (more_words _ more) ∙ ap (λ (f : Option Asked). option_or f (parsed_of words)) none

pub parsed_taken : (a : App) (words : List Text) (m : ArgMatches) → a ≡ whole_app → HasMatchesOf a words m
    → (is_simple_and_free a ≡ true → fault_of a words ≡ []) → parsed_of words ≡ asked_in (subcommand_rows_of m)
unfolding parsed_of
parsed_taken a words m e matches kinds =
    let rows = subst (λ x. HasMatchesOf x words m) e matches refl in
    let none = subst (λ x. is_simple_and_free x ≡ true → fault_of x words ≡ []) e kinds refl in
    taken_value (fault_of whole_app words) (asked_in (entered words)) none ∙ ap asked_in (sym rows.1)

pub parsed_refused : (a : App) (words : List Text) (k : ErrorKind) → a ≡ whole_app → IsAmong k (fault_of a words) → parsed_of words ≡ None
unfolding parsed_of
parsed_refused a words k e among =
    faulty_none (fault_of whole_app words) (asked_in (entered words)) k (subst (λ x. IsAmong k (fault_of x words)) e among)

pub whole_is_simple : (a : App) → a ≡ whole_app → is_simple_and_free a ≡ true
whole_is_simple a e = subst (λ x. is_simple_and_free x ≡ true) (sym e) refl

-- What is said of a rehearsal.

rehearsed_by : (words : List Text) (asked : Asked) → asked_of words ≡ Some asked → rehearsal_of words ≡ rehearsed_beside (Some asked) words
unfolding rehearsal_of
rehearsed_by words asked is = ap (λ a. rehearsed_beside a words) is

few_rehearsed : (few : Bool) (other : Option Rehearsed) → few ≡ true → (if few then None else other) ≡ None
few_rehearsed few other e = rw e refl

more_rehearsed : (few : Bool) (other : Option Rehearsed) → few ≡ false → (if few then None else other) ≡ other
more_rehearsed few other e = rw e refl

pub rehearsed_names : (words : List Text) → length words ≤ 1 → rehearsal_of words ≡ None
rehearsed_names words few = rehearsed_by words Names (asked_names words few) ∙ few_rehearsed (nat_le (length words) 1) _ (few_words _ few)

pub rehearsed_flagged : (words : List Text) (asked : Asked) → 1 < length words → flagged words ≡ Some asked → rehearsal_of words ≡ None
rehearsed_flagged words asked more flag =
    rehearsed_by words asked (asked_flagged words asked more flag)
    ∙ more_rehearsed (nat_le (length words) 1) _ (more_words _ more)
    ∙ ap (λ f. unless_flagged f (rehearsed_in (entered words))) flag

-- what is read of words without such a flag
pub rehearsed_parsed : {C E : Type 0} (words : List Text) → 1 < length words → flagged words ≡ None → (asked : C → Asked) (failing : C → Option Rehearsed) (r : Result C E)
    → IfOk r (λ c. parsed_of words ≡ Some (asked c)) → IfOk r (λ c. failing c ≡ rehearsed_in (entered words)) → IfOk r (λ c. failing c ≡ rehearsal_of words)
rehearsed_parsed words more none asked failing (Err e) is told = tt
rehearsed_parsed words more none asked failing (Ok c) is told =
    told ∙ sym (rehearsed_by words (asked c) (asked_parsed words more none ∙ is) ∙ more_rehearsed (nat_le (length words) 1) _ (more_words _ more) ∙ ap (λ f. unless_flagged f (rehearsed_in (entered words))) none)

pub rehearsed_taken : (a : App) (words : List Text) (m : ArgMatches) → a ≡ whole_app → HasMatchesOf a words m → rehearsed_in (entered words) ≡ rehearsed_in (subcommand_rows_of m)
rehearsed_taken a words m e matches =
    let rows = subst (λ x. HasMatchesOf x words m) e matches refl in
    ap rehearsed_in (sym rows.1)

-- words that ask for nothing rehearse nothing
pub rehearsed_none : (words : List Text) → asked_of words ≡ None → rehearsal_of words ≡ None
unfolding rehearsal_of
rehearsed_none words none = ap (λ a. rehearsed_beside a words) none
