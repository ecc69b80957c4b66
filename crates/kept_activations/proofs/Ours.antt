-- Our lines in the journal are found by the next command.
use Rattle.std.proofs.Common.{◌≡◌, inl, inr, ◌||◌, ℕ, zero, suc, Bool, true, false, List, [], ◌∷◌, map, filter, Option, Contains, IsTrue, refl, sym, ap, subst, ◌∙◌, arith}
use Rattle.std.specs.Prelude.{MatchBool}
use Rattle.std.specs.List.{list_any}
use Rattle.std.specs.Str.{bytes_eq}
use Rattle.std.proofs.lemmas.Bool.{or_left, or_right}
use Rattle.std.proofs.lemmas.List.Folds.{list_any-append}
use Rattle.host_core.specs.Host.{State}
use Rattle.host_core.specs.World.{World}
use Rattle.host_core.specs.declared.node.Node.{Node}
use Rattle.status_db.specs.Order.{name_of}
use Rattle.status_records.specs.declared.record.Record.{Record}
use Rattle.trigger_interests.specs.Hits.{is_hit}
use Rattle.trigger_interests.specs.Interests.{declared, interests_by, interests_of}
use Rattle.trigger_interests.specs.declared.interests.Interest.{Interest}
use Rattle.trigger_journal.specs.Ahead.{has_files, missing, names_ahead, packages_with_files}
use Rattle.trigger_journal.specs.Asked.{is_for, is_found}
use Rattle.trigger_journal.specs.Places.{journal_path}
use Rattle.trigger_journal.specs.Read.{AddsRequests, IsEachFound, own_request}
use Rattle.trigger_journal.specs.Requests.{requests_in, requests_of, text_at}
use Rattle.trigger_journal.specs.Writing.{IsAhead, IsUnwritten}
use Rattle.trigger_journal.specs.declared.requests.Request.{Request}
use Rattle.unit_reports.specs.Held.{Held}
use Rattle.command_line.specs.Triggering.{HasForeseen}
use Rattle.kept_activations.specs.Commands.{IsBegun, Moment}
use Rattle.kept_activations.specs.Journal.{AsksStill, IsSomeInterested, StandsStill}
use Rattle.kept_activations.specs.Known.{Known}
use Rattle.kept_activations.proofs.Interests.{IsOne, declared_one, found_in, one_named}
use Rattle.kept_activations.proofs.Members.{IsIn, in_filter, in_flat_map, in_map, once_in, passes_any}

in_contains : {X : Type 0} (xs : List X) (x : X) → IsIn x xs → Contains xs x
in_contains [] x there = absurd there
in_contains (y ∷ xs) x (inl e) = (zero, omega arith, e)
in_contains (y ∷ xs) x (inr there) = (let more = in_contains xs x there in (suc more.0, omega (arith, more.1), more.2))

pub contains_any : {X : Type 0} (p : X → Bool) (xs : List X) (x : X) → Contains xs x → p x ≡ true → list_any p xs ≡ true
contains_any p [] x has on = absurd (omega (arith, has.1))
contains_any p (y ∷ xs) x (zero, lt, e) on = or_left (p y) (list_any p xs) (ap p e ∙ on)
contains_any p (y ∷ xs) x (suc k, lt, e) on = or_right (p y) (list_any p xs) (contains_any p xs x (k, omega (arith, lt), e) on)

-- what is found is found while it stands

asks_later : (name : List ℕ) (earlier later : Request) → AsksStill earlier later → earlier.ours || is_for name earlier ≡ true → later.ours || is_for name later ≡ true
asks_later name earlier later asks on = by earlier.ours refl
  where
    by : (t : Bool) → earlier.ours ≡ t → later.ours || is_for name later ≡ true
    by true e = or_left later.ours (is_for name later) (asks.ours e)
    by false e = or_right later.ours (is_for name later)
        (ap (λ (n : List ℕ). bytes_eq n name || is_hit name n) asks.name ∙ (sym (ap (λ (t : Bool). t || is_for name earlier) e) ∙ on))

pub found_still : (old new : World) → StandsStill old new → (name : List ℕ) → is_found (requests_of old) name ≡ true → is_found (requests_of new) name ≡ true
found_still old new stands name found =
    let test = λ (request : Request). request.ours || is_for name request in
    let one = passes_any test (requests_of old) found in
    let later = stands one.one (in_contains (requests_of old) one.one one.there) in
    contains_any test (requests_of new) later.0 later.1 (asks_later name one.one later.0 later.2 one.on)

-- a trigger in which a package with files is interested is written ahead
some_ahead : (w : World) (records : List Record) → (some : IsSomeInterested w records) → Contains (names_ahead w records) some.trigger
some_ahead w records some =
    let test = λ (r : Record). has_files r.state in
    let found = found_in records some.owner some.entry some.found in
    let packages = packages_with_files records in
    let here : IsIn some.owner packages = subst (λ (n : List ℕ). IsIn n packages) found.named (in_map name_of (filter test records) some.entry (in_filter test records some.entry found.there some.files)) in
    let one = declared_one some.owner some.trigger (declared w some.owner) some.interest in
    let interest : IsOne (interests_of w packages) some.owner some.trigger = record {
      interest = one.interest;
      there = in_flat_map (λ name. interests_by name (declared w name)) packages some.owner one.interest here one.there;
      owned = one.owned;
      named = one.named;
    } in
    in_contains (names_ahead w records) some.trigger
    (once_in (map (λ (i : Interest). i.name) (interests_of w packages)) some.trigger (one_named (interests_of w packages) some.owner some.trigger interest))

module _ (adds : (w : World) (records : List Record) (text : List ℕ) → AddsRequests w records text) (each : (w : World) (records : List Record) (text : List ℕ) → IsEachFound w records text) where
  module _ (found : List Request) (before : Held) (s begun : State) (has : HasForeseen found before s begun) (honest : IsTrue begun.honest) (name : List ℕ) where
    abbrev text : List ℕ
    text = text_at (has.read.world journal_path)

    pub foreseen_found : has.written ≡ true → IsSomeInterested s.world before.records.records → is_found (requests_of begun.world) name ≡ true
    foreseen_found written some =
        let ahead = subst (λ (b : Bool). MatchBool b (IsAhead before.records.records has.read.world begun.world) (IsUnwritten has.read.world begun.world)) written (has.ahead honest) in
        let there = subst (λ (w : World). IsSomeInterested w before.records.records) (sym has.requested.reads.world) some in
        ap (λ (t : List ℕ). is_found (requests_in t) name) ahead.stands ∙ each has.read.world before.records.records text there.trigger name (some_ahead has.read.world before.records.records there)

    keeps_by : (b : Bool) → MatchBool b (IsAhead before.records.records has.read.world begun.world) (IsUnwritten has.read.world begun.world) → is_found (requests_in text) name ≡ true → is_found (requests_of begun.world) name ≡ true
    keeps_by true ahead is =
        let names = names_ahead has.read.world before.records.records in
        let ours = map own_request (missing (requests_in text) names) in
        ap (λ (t : List ℕ). is_found (requests_in t) name) ahead.stands ∙ ap (λ (rs : List Request). is_found rs name) (adds has.read.world before.records.records text)
        ∙ list_any-append (λ (request : Request). request.ours || is_for name request) ours (requests_in text) ∙ or_right (is_found ours name) (is_found (requests_in text) name) is
    keeps_by false unwritten is = ap (λ (node : Option Node). is_found (requests_in (text_at node)) name) unwritten.journal ∙ is

    pub foreseen_keeps : is_found (requests_of s.world) name ≡ true → is_found (requests_of begun.world) name ≡ true
    foreseen_keeps is = keeps_by has.written (has.ahead honest) (subst (λ (w : World). is_found (requests_of w) name ≡ true) (sym has.requested.reads.world) is)

  module _ (by_files : Bool) (known : Known) (old : Moment) (before : Held) (begun : State) (first : IsBegun by_files known old before begun) (honest : IsTrue begun.honest) where
    from : first.begins.seen.world ≡ old.world
    from = first.begins.watched.reads.world ∙ first.world

    -- where our lines are written ahead, each trigger is asked for
    pub begun_found : first.begins.foreseen.written ≡ true → IsSomeInterested old.world old.records → (name : List ℕ) → is_found (requests_of begun.world) name ≡ true
    begun_found written some name =
        foreseen_found known.found.items before first.begins.seen begun first.begins.foreseen honest name written
        (subst (λ (w : World). IsSomeInterested w before.records.records) (sym from) (subst (λ (rs : List Record). IsSomeInterested old.world rs) (sym first.records) some))

    -- and what was asked for before is so still
    pub begun_keeps : (name : List ℕ) → is_found (requests_of old.world) name ≡ true → is_found (requests_of begun.world) name ≡ true
    begun_keeps name is =
        foreseen_keeps known.found.items before first.begins.seen begun first.begins.foreseen honest name (subst (λ (w : World). is_found (requests_of w) name ≡ true) (sym from) is)

-- a command knows what the journal had
pub known_found : (by_files : Bool) (known : Known) (old : Moment) (before : Held) (begun : State) → (first : IsBegun by_files known old before begun) → IsTrue begun.honest → known.found.items ≡ requests_of old.world
known_found by_files known old before begun first honest =
    let foreseen = first.begins.foreseen in
    foreseen.requested.found (foreseen.any_moment.honest honest) ∙ ap requests_of (first.begins.watched.reads.world ∙ first.world)
