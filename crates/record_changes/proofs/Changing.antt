-- What a change leaves of a record.
use Rattle.std.proofs.Common.{◌≡◌, ◌||◌, ℕ, Bool, true, false, List, not, refl, sym, ap}
use Rattle.std.proofs.lemmas.Bool.{true≢false}
use Rattle.status_records.specs.Triggers.{triggers_beside}
use Rattle.status_records.specs.Words.{is_installed, is_not_installed}
use Rattle.status_records.specs.declared.record.Record.{Record}
use Rattle.status_records.specs.declared.triggers.Triggers.{Triggers}
use Rattle.status_records.specs.declared.words.State.{State}
use Rattle.status_records.specs.declared.words.State.TheVariants as state
use Rattle.record_changes.specs.Activated.{IsMade, activated, changed, with_pending}
use Rattle.record_changes.specs.declared.change.Change.{Change}
use Rattle.record_changes.specs.declared.change.Change.TheVariants as change

-- an installed package may have all triggers
pub installed_keeps : (s : State) (t : Triggers) → is_installed s ≡ true → triggers_beside s t ≡ t
installed_keeps state.NotInstalled t e = absurd (true≢false (sym e))
installed_keeps state.ConfigFiles t e = absurd (true≢false (sym e))
installed_keeps state.HalfInstalled t e = absurd (true≢false (sym e))
installed_keeps state.Unpacked t e = absurd (true≢false (sym e))
installed_keeps state.HalfConfigured t e = absurd (true≢false (sym e))
installed_keeps state.Installed t e = refl

pub named : (asked : Change) (r : Record) → (changed asked r).name ≡ r.name
named (change.Want want) r = refl
named (change.Activate names) r = refl
named (change.Abandon trigger) r = refl
named (change.Await names) r = refl

-- its package isn't gone
pub still_stands : (asked : Change) (r : Record) → is_not_installed r.state ≡ false → is_not_installed (changed asked r).state ≡ false
still_stands (change.Want want) r stands = stands
still_stands (change.Activate names) r stands = stands
still_stands (change.Abandon trigger) r stands = refl
still_stands (change.Await names) r stands = stands

is_on : (on rest : Bool) → (not on || rest ≡ true → ⊥) → on ≡ true
is_on true rest other = refl
is_on false rest other = absurd (other refl)

-- an activation that isn't made already leaves what the package awaits
pub awaited_stays : (names : List ℕ) (r : Record) → (IsMade (change.Activate names) r → ⊥) → (activated names r).triggers.awaited ≡ r.triggers.awaited
awaited_stays names r other = ap (λ (t : Triggers). t.awaited) (installed_keeps r.state (with_pending names r.triggers) (is_on (is_installed r.state) _ other))
