-- Who owns the diversions that words ask for: the administrator, or a package by its name.
use Rattle.std.proofs.Common.{◌≡◌, ℕ, Bool, true, false, List, [], ◌∷◌, Option, Some, None, length, nat_le, if◌then◌else◌, codes, refl, subst}
use Rattle.std.specs.Prelude.{◌&&◌, option_map}
use Rattle.std.specs.Option.{option_or}
use Rattle.std.specs.Str.{bytes_eq}
use Rattle.texts.specs.PackageNames.{is_package_name}
use Rattle.clap.specs.Words.{Kinds, Row, Text, fault_of, first_of}
use Rattle.diversions.specs.Entries.{is_owner}
use Rattle.command_words.specs.CommandLine.{whole_app}
use Rattle.command_words.specs.Commands.{asked_by, asked_in, asked_of, comparison_of, configure_asked, entered, flagged, flagged_by, parsed_of, unless_faulty}
use Rattle.command_words.specs.Filters.{has_filters}
use Rattle.command_words.specs.Frontends.{has_descriptors}
use Rattle.command_words.specs.Packages.{configuring_of, removing_of}
use Rattle.command_words.specs.Selecting.{removing_selected_of, selecting_of}
use Rattle.command_words.specs.Unpacks.{unpacking_of}
use Rattle.command_words.specs.Verifications.{verifying_of}
use Rattle.command_words.specs.Diversions.{owner_from, owner_of, undiverting_from, undiverting_of, with_target}
use Rattle.command_words.specs.Given.{is_absolute, is_set}
use Rattle.command_words.specs.Rehearsals.{is_rehearsable}
use Rattle.command_words.specs.Queries.{query_of}
use Rattle.command_words.specs.Waits.{wait_of}
use Rattle.command_words.specs.Triggers.{is_of_triggers_only, processing_of}
use Rattle.command_words.specs.Topics.{has_help_flag, is_help_flag, topic_in, topic_of}
use Rattle.command_words.specs.declared.diverting.Diverting.{Diverting}
use Rattle.command_words.specs.declared.diverting.Undiverting.{Undiverting}
use Rattle.command_words.specs.declared.help.Topic.TheVariants.{Program}
use Rattle.command_words.specs.declared.words.Asked.{Asked}
use Rattle.command_words.specs.declared.words.Asked.TheVariants.{CompareVersions, Configure, Divert, Help, Install, Names, ProcessTriggers, Purge, Query, Remove, RemoveSelected, Select, Undivert, Unpack, Verify, Version}
use Rattle.command_line.specs.Changes.{owner_in}

abbrev IsNamed : Asked → Type 0
IsNamed Names = Unit {0}
IsNamed Version = Unit {0}
IsNamed (Help topic) = Unit {0}
IsNamed (CompareVersions c) = Unit {0}
IsNamed (Divert d) = is_owner (owner_in d.owner) ≡ true
IsNamed (Undivert u) = is_owner (owner_in u.owner) ≡ true
IsNamed (Unpack u) = Unit {0}
IsNamed (Install u) = Unit {0}
IsNamed (Configure c) = Unit {0}
IsNamed (ProcessTriggers p) = Unit {0}
IsNamed (Remove r) = Unit {0}
IsNamed (Purge r) = Unit {0}
IsNamed (Select x) = Unit {0}
IsNamed (RemoveSelected x) = Unit {0}
IsNamed (Query q) = Unit {0}
IsNamed (Verify v) = Unit {0}

abbrev Named : Option Asked → Type 0
Named None = Unit {0}
Named (Some asked) = IsNamed asked

if_named : (b : Bool) (x y : Option Asked) → Named x → Named y → Named (if b then x else y)
if_named true x y first second = first
if_named false x y first second = second

-- an owner that words name

abbrev OwnerNamed : Option (Option Text) → Type 0
OwnerNamed None = Unit {0}
OwnerNamed (Some owner) = is_owner (owner_in owner) ≡ true

owner_if : (name : Text) (b : Bool) → is_package_name name ≡ b → OwnerNamed (if b then Some (Some name) else None)
owner_if name true is = is
owner_if name false is = tt

owner_named : (name : Option Text) (local : Bool) → OwnerNamed (owner_from name local)
owner_named (Some name) false = owner_if name (is_package_name name) refl
owner_named (Some name) true = tt
owner_named None true = refl
owner_named None false = tt

abbrev UndivertNamed : Option Undiverting → Type 0
UndivertNamed None = Unit {0}
UndivertNamed (Some u) = is_owner (owner_in u.owner) ≡ true

undivert_if : (b : Bool) (u : Undiverting) → is_owner (owner_in u.owner) ≡ true → UndivertNamed (if b then Some u else None)
undivert_if true u named = named
undivert_if false u named = tt

undivert_named : (root : Option Text) (owner : Option (Option Text)) (rename : Bool) (path : Option Text) (wait : Option ℕ) → OwnerNamed owner
    → UndivertNamed (undiverting_from root owner rename path wait)
undivert_named None owner rename path wait named = tt
undivert_named (Some root) None rename path wait named = tt
undivert_named (Some root) (Some owner) rename None wait named = tt
undivert_named (Some root) (Some owner) rename (Some path) None named = tt
undivert_named (Some root) (Some owner) rename (Some path) (Some wait) named =
    undivert_if (is_absolute root) (record { root = root; owner = owner; rename = rename; path = path; wait = wait }) named

undivert_asked : (o : Option Undiverting) → UndivertNamed o → Named (option_map Undivert o)
undivert_asked None named = tt
undivert_asked (Some u) named = named

divert_asked : (target : Option Text) (o : Option Undiverting) → UndivertNamed o → Named (option_map Divert (option_map (with_target target) o))
divert_asked target None named = tt
divert_asked target (Some u) named = named

-- nothing else names one

map_named : {T : Type 0} (f : T → Asked) (o : Option T) → ((x : T) → IsNamed (f x)) → Named (option_map f o)
map_named f None named = tt
map_named f (Some x) named = named x

configure_named : (rows : List Row) → Named (configure_asked rows)
configure_named rows = if_named (is_of_triggers_only rows) _ _ (map_named ProcessTriggers (processing_of rows) (λ p. tt)) (map_named Configure (configuring_of rows) (λ c. tt))

by_named : (name : Text) (rows : List Row) → Named (asked_by name rows)
by_named name rows =
    let undivert = undivert_named (first_of (codes "root") rows) (owner_of rows) (is_set (first_of (codes "rename") rows)) (first_of (codes "PATH") rows) (wait_of rows) (owner_named (first_of (codes "package") rows) (is_set (first_of (codes "local") rows))) in
    if_named (bytes_eq name (codes "compare-versions")) _ _ (map_named CompareVersions (comparison_of rows) (λ c. tt))
    (if_named (bytes_eq name (codes "configure")) _ _ (configure_named rows)
    (if_named (bytes_eq name (codes "divert")) _ _ (divert_asked (first_of (codes "divert") rows) (undiverting_of rows) undivert)
    (if_named (bytes_eq name (codes "help")) _ _ (map_named Help (topic_in (first_of (codes "COMMAND") rows)) (λ t. tt))
    (if_named (bytes_eq name (codes "install")) _ _ (map_named Install (unpacking_of rows) (λ u. tt))
    (if_named (bytes_eq name (codes "purge")) _ _ (map_named Purge (removing_of rows) (λ r. tt))
    (if_named (bytes_eq name (codes "remove")) _ _ (map_named Remove (removing_of rows) (λ r. tt))
    (if_named (bytes_eq name (codes "remove-selected")) _ _ (map_named RemoveSelected (removing_selected_of rows) (λ x. tt))
    (if_named (bytes_eq name (codes "select")) _ _ (map_named Select (selecting_of rows) (λ x. tt))
    (if_named (bytes_eq name (codes "undivert")) _ _ (undivert_asked (undiverting_of rows) undivert)
    (if_named (bytes_eq name (codes "unpack")) _ _ (map_named Unpack (unpacking_of rows) (λ u. tt))
    (if_named (bytes_eq name (codes "verify")) _ _ (map_named Verify (verifying_of rows) (λ v. tt))
    (map_named Query (query_of name rows) (λ q. tt)))))))))))))

in_named : (sub : Option (Text × List Row)) → Named (asked_in sub)
in_named None = tt
in_named (Some sub) = if_named (has_descriptors sub.1 && has_filters sub.1 && is_rehearsable sub.1) _ None (by_named sub.0 sub.1) tt

faulty_named : (kinds : Kinds) (asked : Option Asked) → Named asked → Named (unless_faulty kinds asked)
faulty_named [] asked named = named
faulty_named (kind ∷ kinds) asked named = tt

parsed_named : (words : List Text) → Named (parsed_of words)
unfolding parsed_of
parsed_named words = faulty_named (fault_of whole_app words) (asked_in (entered words)) (in_named (entered words))

flag_named : (word : Text) (rest : List Text) → Named (flagged_by word rest)
flag_named word rest =
    if_named (bytes_eq word (codes "--version")) (Some Version) _ tt
    (if_named (is_help_flag word) (Some (Help Program)) _ tt
    (if_named (has_help_flag rest) _ None (map_named Help (topic_of word) (λ t. tt)) tt))

flagged_named : (words : List Text) → Named (flagged words)
flagged_named [] = tt
flagged_named (program ∷ []) = tt
flagged_named (program ∷ word ∷ rest) = flag_named word rest

or_named : (first second : Option Asked) → Named first → Named second → Named (option_or first second)
or_named None second a b = b
or_named (Some asked) second a b = a

words_named : (words : List Text) → Named (asked_of words)
unfolding asked_of
words_named words = if_named (nat_le (length words) 1) (Some Names) _ tt (or_named (flagged words) (parsed_of words) (flagged_named words) (parsed_named words))

pub divert_owner : (words : List Text) (d : Diverting) → asked_of words ≡ Some (Divert d) → is_owner (owner_in d.owner) ≡ true
divert_owner words d is = subst Named is (words_named words)
