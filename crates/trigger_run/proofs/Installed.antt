-- A package that has triggers to process is installed.
use Rattle.std.proofs.Common.{◌≡◌, ℕ, Bool, true, false, List, Option, Some, None, is_some, refl, ap, subst}
use Rattle.std.proofs.lemmas.Bool.{false≢true}
use Rattle.status_records.specs.Records.{record_in}
use Rattle.status_records.specs.Words.{agrees, word_of}
use Rattle.status_records.specs.declared.record.Record.{Record}
use Rattle.status_records.specs.declared.words.State.{State}
use Rattle.status_records.specs.declared.words.State.TheVariants.{NotInstalled, ConfigFiles, HalfInstalled, Unpacked, HalfConfigured, Installed}
use Rattle.trigger_engine.specs.Units.{IsPending}
use Rattle.trigger_run.specs.Pending.{is_pending_by, is_pending_in}

-- no other word of a state agrees with pending names
installed_by : (state : State) (awaited : Bool) → agrees (word_of state true awaited) true awaited ≡ true → state ≡ Installed
installed_by NotInstalled awaited h = absurd (false≢true h)
installed_by ConfigFiles awaited h = absurd (false≢true h)
installed_by HalfInstalled awaited h = absurd (false≢true h)
installed_by Unpacked awaited h = absurd (false≢true h)
installed_by HalfConfigured awaited h = absurd (false≢true h)
installed_by Installed awaited h = refl

module _ (records : List Record) (name : List ℕ) where
  pending_as : (r : Record) (pending : Option (List ℕ)) → record_in records name ≡ Some r → r.triggers.pending ≡ pending → is_some pending ≡ true → IsPending records name
  pending_as r None found same some = absurd (false≢true some)
  pending_as r (Some names) found same some = record {
    entry = r;
    found = found;
    state = installed_by r.state (is_some r.triggers.awaited) (subst (λ (b : Bool). agrees (word_of r.state b (is_some r.triggers.awaited)) b (is_some r.triggers.awaited) ≡ true) (ap is_some same) r.beside);
    names = names;
    pending = same;
  }

  pending_by : (entry : Option Record) → record_in records name ≡ entry → is_pending_by entry ≡ true → IsPending records name
  pending_by None found some = absurd (false≢true some)
  pending_by (Some r) found some = pending_as r r.triggers.pending found refl some

  pub pending_of : is_pending_in records name ≡ true → IsPending records name
  pending_of some = pending_by (record_in records name) refl some
