-- What is changed of a record: what is wanted of its package, or the triggers that it is to process, or not any more, or those that it
-- awaits (deb-triggers).
use Rattle.std.specs.Prelude.{◌≡◌, ◌==◌, ◌&&◌, ◌||◌, ℕ, Bool, true, false, not, cond, List, [], ◌∷◌, ◌++◌, Option, Some, None, is_some, codes}
use Rattle.std.specs.List.{list_all, list_any, slice_split}
use Rattle.std.specs.Str.{bytes_eq}
use Rattle.std.proofs.Common.{refl}
use Rattle.status_records.specs.Standings.{standing_as, version_beside, wanting}
use Rattle.status_records.specs.Triggers.{is_configured, left_may_stand, triggers_beside}
use Rattle.status_records.specs.Words.{is_installed}
use Rattle.status_records.specs.declared.record.Record.{Record}
use Rattle.status_records.specs.declared.triggers.Triggers.{Triggers}
use Rattle.status_records.specs.declared.words.State.{State}
use Rattle.status_records.specs.declared.words.State.TheVariants as state
use Rattle.record_changes.specs.declared.change.Change.{Change}
use Rattle.record_changes.specs.declared.change.Change.TheVariants as change

-- the words of a text: what stands between spaces
abbrev pub words_of : List ℕ → List (List ℕ)
words_of text = slice_split (λ byte. byte == 32) text

-- It is one of its words. Between two spaces stands nothing, which is no name that could be missing.
abbrev pub has_name : List ℕ → List ℕ → Bool
has_name text [] = true
has_name text (b ∷ bs) = list_any (bytes_eq (b ∷ bs)) (words_of text)

-- a name behind those of a text, with a space between
abbrev pub behind : List ℕ → List ℕ → List ℕ
behind [] name = name
behind (b ∷ bs) name = (b ∷ bs) ++ codes " " ++ name

-- a text with a name behind its words, where it isn't one of them
abbrev pub with_name : List ℕ → List ℕ → List ℕ
with_name text name = cond (has_name text name) text (behind text name)

-- with each of these names, in their order
abbrev pub with_names : List ℕ → List (List ℕ) → List ℕ
with_names text [] = text
with_names text (name ∷ names) = with_names (with_name text name) names

-- what is pending
abbrev pub pending_text : Option (List ℕ) → List ℕ
pending_text None = []
pending_text (Some text) = text

-- the names of a text are pending too
abbrev pub with_pending : List ℕ → Triggers → Triggers
with_pending names t = record { pending = Some (with_names (pending_text t.pending) (words_of names)); awaited = t.awaited }

-- an activated record has a version last configured beside its own where it had one
pub still_one_version : (s : State) (names : List ℕ) (t : Triggers) (last : Bool) → is_configured s t && last ≡ false → is_configured s (triggers_beside s (with_pending names t)) && last ≡ false
still_one_version state.NotInstalled names t last e = refl
still_one_version state.ConfigFiles names t last e = refl
still_one_version state.HalfInstalled names t last e = refl
still_one_version state.Unpacked names t last e = refl
still_one_version state.HalfConfigured names t last e = refl
still_one_version state.Installed names t last e = e

-- Activated: the names are behind those that were pending, where it is installed. All else of it is as before.
abbrev pub activated : List ℕ → Record → Record
activated names r = record r {
  triggers = triggers_beside r.state (with_pending names r.triggers);
  current = still_one_version r.state names r.triggers (is_some r.config_version) r.current;
  beside = left_may_stand r.state (with_pending names r.triggers);
}

-- Abandoned: half-configured, with the flag as it is, and without pending names. Configuring it does what they would.
abbrev pub abandoned : Record → Record
abandoned r = standing_as r.flag state.HalfConfigured r

-- what is left of the triggers in its state where the package awaits what is pending of these
abbrev pub awaiting_triggers : Option (List ℕ) → Record → Triggers
awaiting_triggers names r = triggers_beside r.state (record { pending = r.triggers.pending; awaited = names })

-- what is kept of a record beside these triggers, where they are others
abbrev pub kept_beside : Triggers → Record → Record
kept_beside t r = cond (is_configured r.state t) (standing_as r.flag r.state r) r

-- a configured package has no version last configured beside its own
pub none_beside : (configured : Bool) (last : Option (List ℕ)) → configured && is_some (version_beside configured last) ≡ false
none_beside true last = refl
none_beside false last = refl

-- It awaits what is pending of these. All else of it is as before, but that its version is the one last configured where it is
-- installed and awaits nothing any more.
abbrev pub awaiting : Option (List ℕ) → Record → Record
awaiting names r = record r {
  config_version = version_beside (is_configured r.state (awaiting_triggers names r)) r.config_version;
  current = none_beside (is_configured r.state (awaiting_triggers names r)) r.config_version;
  triggers = awaiting_triggers names r;
  beside = left_may_stand r.state (record { pending = r.triggers.pending; awaited = names });
}

-- a record that is changed
abbrev pub changed : Change → Record → Record
changed (change.Want want) r = wanting want r
changed (change.Activate names) r = activated names r
changed (change.Abandon trigger) r = abandoned r
changed (change.Await names) r = awaiting names r

-- Nothing is to be done: what is asked is wanted already; or the package isn't installed, or each of the names is pending; or none is;
-- or these are awaited. Only of an installed package names are pending.
abbrev pub IsMade : Change → Record → Type 0
IsMade (change.Want want) r = r.want ≡ want
IsMade (change.Activate names) r = not (is_installed r.state) || list_all (has_name (pending_text r.triggers.pending)) (words_of names) ≡ true
IsMade (change.Abandon trigger) r = not (is_some r.triggers.pending) ≡ true
IsMade (change.Await names) r = r.triggers.awaited ≡ names
