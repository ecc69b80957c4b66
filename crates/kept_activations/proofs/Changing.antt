-- What a change of a record leaves of triggers.
use Rattle.std.proofs.Common.{◌≡◌, ◌⊎◌, inl, inr, ◌||◌, not, ℕ, Bool, true, false, cond, List, Option, Some, None, refl, sym, ap, subst, ◌∙◌}
use Rattle.std.specs.List.{list_all}
use Rattle.std.specs.Str.{bytes_eq}
use Rattle.std.proofs.lemmas.Bool.{true≢false}
use Rattle.std.proofs.lemmas.Slice.Eq.{bytes_eq-Decides}
use Rattle.host_core.specs.Host.{State}
use Rattle.record_changes.specs.Activated.{IsMade, activated, changed, has_name, pending_text, with_pending, words_of}
use Rattle.record_changes.specs.Units.{IsChange}
use Rattle.record_changes.specs.declared.change.Change.{Change}
use Rattle.record_changes.specs.declared.change.Change.TheVariants as change
use Rattle.record_changes.specs.declared.change.RecordChange.{RecordChange}
use Rattle.status_records.specs.Records.{put_record, record_in}
use Rattle.status_records.specs.Triggers.{triggers_beside}
use Rattle.status_records.specs.Words.{is_installed}
use Rattle.status_records.specs.declared.record.Record.{Record}
use Rattle.status_records.specs.declared.triggers.Triggers.{Triggers}
use Rattle.status_records.specs.declared.words.State.{State as AState}
use Rattle.status_records.specs.declared.words.State.TheVariants as state
use Rattle.status_records.proofs.Tables.{record_in-put_record}
use Rattle.trigger_watch.specs.Names.{is_among}
use Rattle.trigger_watch.specs.declared.activating.Activation.{Activation}
use Rattle.dpkg_session.specs.Activated.{change_by}
use Rattle.unit_reports.specs.Held.{Held}
use Rattle.unit_reports.specs.declared.report.Unit.{Unit as AUnit}
use Rattle.kept_activations.specs.Pending.{IsInstalled, IsPending, IsUnfinished}
use Rattle.kept_activations.proofs.Interests.{found_in}
use Rattle.kept_activations.proofs.Members.{all_at, named_in}
use Rattle.kept_activations.proofs.WordLists.{are_words, names_new, names_still}

-- one record

installed_keeps : (s : AState) (t : Triggers) → is_installed s ≡ true → triggers_beside s t ≡ t
installed_keeps state.NotInstalled t e = absurd (true≢false (sym e))
installed_keeps state.ConfigFiles t e = absurd (true≢false (sym e))
installed_keeps state.HalfInstalled t e = absurd (true≢false (sym e))
installed_keeps state.Unpacked t e = absurd (true≢false (sym e))
installed_keeps state.HalfConfigured t e = absurd (true≢false (sym e))
installed_keeps state.Installed t e = refl

changed_name : (c : Change) (r : Record) → (changed c r).name ≡ r.name
changed_name (change.Want want) r = refl
changed_name (change.Activate names) r = refl
changed_name (change.Abandon trigger) r = refl
changed_name (change.Await names) r = refl

-- what isn't installed isn't by a change either
pub changed_less : (c : Change) (r : Record) → is_installed r.state ≡ false → is_installed (changed c r).state ≡ false
changed_less (change.Want want) r less = less
changed_less (change.Activate names) r less = less
changed_less (change.Abandon trigger) r less = refl
changed_less (change.Await names) r less = less

-- the trigger is pending, and the package installed
record Stands (trigger : List ℕ) (r : Record) : Type 0 where
  installed : is_installed r.state ≡ true
  named : has_name (pending_text r.triggers.pending) trigger ≡ true

activated_stands : (names trigger : List ℕ) (r : Record) → Stands trigger r → Stands trigger (activated names r)
activated_stands names trigger r is = record {
  installed = is.installed;
  named = ap (λ (t : Triggers). has_name (pending_text t.pending) trigger) (installed_keeps r.state (with_pending names r.triggers) is.installed)
      ∙ names_still (pending_text r.triggers.pending) (words_of names) trigger is.named;
}

activated_new : (names trigger : List ℕ) (r : Record) → is_installed r.state ≡ true → is_among (words_of names) trigger ≡ true → Stands trigger (activated names r)
activated_new names trigger r installed among = record {
  installed = installed;
  named = ap (λ (t : Triggers). has_name (pending_text t.pending) trigger) (installed_keeps r.state (with_pending names r.triggers) installed)
      ∙ names_new (pending_text r.triggers.pending) (words_of names) trigger (are_words names) among;
}

-- it stays so, or the package is half-configured
changed_stands : (c : Change) (trigger : List ℕ) (r : Record) → Stands trigger r → Stands trigger (changed c r) ⊎ (is_installed (changed c r).state ≡ false)
changed_stands (change.Want want) trigger r is = inl (record { installed = is.installed; named = is.named })
changed_stands (change.Activate names) trigger r is = inl (activated_stands names trigger r is)
changed_stands (change.Abandon given) trigger r is = inr refl
changed_stands (change.Await names) trigger r is = inl (record {
  installed = is.installed;
  named = ap (λ (t : Triggers). has_name (pending_text t.pending) trigger) (installed_keeps r.state (record { pending = r.triggers.pending; awaited = names }) is.installed) ∙ is.named;
})

-- the records behind a change

pub put_own : (x : Record) (rs : List Record) (name : List ℕ) → x.name ≡ name → record_in (put_record x rs) name ≡ Some x
put_own x rs name e = record_in-put_record x rs name ∙ ap (λ t. cond t (Some x) (record_in rs name)) ((bytes_eq-Decides x.name name).1 e)

pub put_other : (x : Record) (rs : List Record) (name : List ℕ) → bytes_eq x.name name ≡ false → record_in (put_record x rs) name ≡ record_in rs name
put_other x rs name e = record_in-put_record x rs name ∙ ap (λ t. cond t (Some x) (record_in rs name)) e

-- a package's record is as before, or it's the one that was changed
abbrev pub IsLeftBy : RecordChange → List ℕ → Record → List Record → Type 0
IsLeftBy asked owner entry after = (record_in after owner ≡ Some entry) ⊎ ((asked.name ≡ owner) × (record_in after owner ≡ Some (changed asked.change entry)))

pub one_record : (a b : Record) (o : Option Record) → o ≡ Some a → o ≡ Some b → a ≡ b
one_record a b o first second = (let same : Some a ≡ Some b = sym first ∙ second in cc same)

pub put_left : (asked : RecordChange) (r : Record) (rs : List Record) (owner : List ℕ) (entry : Record) → record_in rs asked.name ≡ Some r → record_in rs owner ≡ Some entry → IsLeftBy asked owner entry (put_record (changed asked.change r) rs)
put_left asked r rs owner entry of found = by (bytes_eq asked.name owner) refl
  where
    own : (changed asked.change r).name ≡ asked.name
    own = changed_name asked.change r ∙ (found_in rs asked.name r of).named

    by : (t : Bool) → bytes_eq asked.name owner ≡ t → IsLeftBy asked owner entry (put_record (changed asked.change r) rs)
    by true e =
        let here = (bytes_eq-Decides asked.name owner).0 e in
        let same : r ≡ entry = one_record r entry (record_in rs owner) (subst (λ (n : List ℕ). record_in rs n ≡ Some r) here of) found in
        inr (here, put_own (changed asked.change r) rs owner (own ∙ here) ∙ ap (λ (x : Record). Some (changed asked.change x)) same)
    by false e = inl (put_other (changed asked.change r) rs owner (ap (λ (n : List ℕ). bytes_eq n owner) own ∙ e) ∙ found)

pub left_by : (asked : RecordChange) (before after : Held) (u : AUnit) (s t : State) → IsChange asked before after u s t → (owner : List ℕ) (entry : Record) → record_in before.records.records owner ≡ Some entry
    → IsLeftBy asked owner entry after.records.records
left_by asked before after u s t (IsChange.unknown none refused alone) owner entry found = inl (ap (λ (h : Held). record_in h.records.records owner) alone.held ∙ found)
left_by asked before after u s t (IsChange.made r of same done alone) owner entry found = inl (ap (λ (h : Held). record_in h.records.records owner) alone.held ∙ found)
left_by asked before after u s t (IsChange.noted r of other done recorded) owner entry found =
    subst (IsLeftBy asked owner entry) (sym recorded.records) (put_left asked r before.records.records owner entry of found)

-- any change

pub pending_through : (asked : RecordChange) (before after : Held) (u : AUnit) (s t : State) → IsChange asked before after u s t → (owner trigger : List ℕ) → IsPending before.records.records owner trigger
    → IsPending after.records.records owner trigger ⊎ IsUnfinished after.records.records owner
pending_through asked before after u s t is owner trigger pending = by (left_by asked before after u s t is owner pending.entry pending.found)
  where
    by_stands : record_in after.records.records owner ≡ Some (changed asked.change pending.entry) → Stands trigger (changed asked.change pending.entry) ⊎ (is_installed (changed asked.change pending.entry).state ≡ false)
        → IsPending after.records.records owner trigger ⊎ IsUnfinished after.records.records owner
    by_stands found (inl stands) = inl (record { entry = changed asked.change pending.entry; found = found; installed = stands.installed; named = stands.named })
    by_stands found (inr less) = inr (record { entry = changed asked.change pending.entry; found = found; less = less })

    by : IsLeftBy asked owner pending.entry after.records.records → IsPending after.records.records owner trigger ⊎ IsUnfinished after.records.records owner
    by (inl found) = inl (record { entry = pending.entry; found = found; installed = pending.installed; named = pending.named })
    by (inr here) = by_stands here.1 (changed_stands asked.change trigger pending.entry (record { installed = pending.installed; named = pending.named }))

pub unfinished_through : (asked : RecordChange) (before after : Held) (u : AUnit) (s t : State) → IsChange asked before after u s t → (owner : List ℕ) → IsUnfinished before.records.records owner → IsUnfinished after.records.records owner
unfinished_through asked before after u s t is owner unfinished = by (left_by asked before after u s t is owner unfinished.entry unfinished.found)
  where
    by : IsLeftBy asked owner unfinished.entry after.records.records → IsUnfinished after.records.records owner
    by (inl found) = record { entry = unfinished.entry; found = found; less = unfinished.less }
    by (inr here) = record { entry = changed asked.change unfinished.entry; found = here.1; less = changed_less asked.change unfinished.entry unfinished.less }

-- one that activates

pub stays_left : (a : Activation) (after : List Record) (owner trigger : List ℕ) (entry : Record) → is_installed entry.state ≡ true → has_name (pending_text entry.triggers.pending) trigger ≡ true → IsLeftBy (change_by a) owner entry after → IsPending after owner trigger
stays_left a after owner trigger entry installed named (inl found) = record { entry = entry; found = found; installed = installed; named = named }
stays_left a after owner trigger entry installed named (inr here) =
    let stands = activated_stands a.names trigger entry (record { installed = installed; named = named }) in
    record { entry = activated a.names entry; found = here.1; installed = stands.installed; named = stands.named }

module _ (a : Activation) (before after : Held) (u : AUnit) (s t : State) (is : IsChange (change_by a) before after u s t) where
  pub pending_stays : (owner trigger : List ℕ) → IsPending before.records.records owner trigger → IsPending after.records.records owner trigger
  pending_stays owner trigger pending = stays_left a after.records.records owner trigger pending.entry pending.installed pending.named (left_by (change_by a) before after u s t is owner pending.entry pending.found)

  pub installed_stays : (owner : List ℕ) → IsInstalled before.records.records owner → IsInstalled after.records.records owner
  installed_stays owner installed = by (left_by (change_by a) before after u s t is owner installed.entry installed.found)
    where
      by : IsLeftBy (change_by a) owner installed.entry after.records.records → IsInstalled after.records.records owner
      by (inl found) = record { entry = installed.entry; found = found; installed = installed.installed }
      by (inr here) = record { entry = activated a.names installed.entry; found = here.1; installed = installed.installed }

-- what was to be activated is pending then

made_has : (names trigger : List ℕ) (r : Record) → is_installed r.state ≡ true → IsMade (change.Activate names) r → is_among (words_of names) trigger ≡ true → has_name (pending_text r.triggers.pending) trigger ≡ true
made_has names trigger r installed made among =
    all_at (has_name (pending_text r.triggers.pending)) (words_of names) trigger
    (ap (λ (b : Bool). not b || list_all (has_name (pending_text r.triggers.pending)) (words_of names)) (sym installed) ∙ made) (named_in (words_of names) trigger among)

pub pending_behind : (a : Activation) (before after : Held) (u : AUnit) (s t : State) → IsChange (change_by a) before after u s t → (trigger : List ℕ) → IsInstalled before.records.records a.«package»
    → is_among (words_of a.names) trigger ≡ true → IsPending after.records.records a.«package» trigger
pending_behind a before after u s t (IsChange.unknown none refused alone) trigger installed among = absurd (none_some installed.entry (sym none ∙ installed.found))
  where
    none_some : (r : Record) → ◌≡◌ {A = Option Record} None (Some r) → ⊥
    none_some r e = cc e
pending_behind a before after u s t (IsChange.made r of made done alone) trigger installed among =
    let same = one_record installed.entry r (record_in before.records.records a.«package») installed.found of in
    let here : is_installed r.state ≡ true = subst (λ (x : Record). is_installed x.state ≡ true) same installed.installed in
    subst (λ (h : Held). IsPending h.records.records a.«package» trigger) (sym alone.held) (record { entry = r; found = of; installed = here; named = made_has a.names trigger r here made among })
pending_behind a before after u s t (IsChange.noted r of other done recorded) trigger installed among =
    let same = one_record installed.entry r (record_in before.records.records a.«package») installed.found of in
    let here : is_installed r.state ≡ true = subst (λ (x : Record). is_installed x.state ≡ true) same installed.installed in
    let stands = activated_new a.names trigger r here among in
    subst (λ (rs : List Record). IsPending rs a.«package» trigger) (sym recorded.records) (record {
      entry = activated a.names r;
      found = put_own (activated a.names r) before.records.records a.«package» (found_in before.records.records a.«package» r of).named;
      installed = stands.installed;
      named = stands.named;
    })
