-- What is kept of a record whose package awaits other triggers.
use Rattle.std.proofs.Common.{◌≡◌, Bool, true, false, cond, not, is_some, refl, sym, ap, subst}
use Rattle.std.proofs.lemmas.Bool.{and_parts}
use Rattle.status_records.specs.Configured.{last_configured}
use Rattle.status_records.specs.Standings.{standing_as, version_beside}
use Rattle.status_records.specs.Triggers.{is_configured}
use Rattle.status_records.specs.Words.{is_installed}
use Rattle.status_records.specs.declared.record.Record.{Record}
use Rattle.status_records.specs.declared.triggers.Triggers.{Triggers}
use Rattle.record_changes.specs.Activated.{kept_beside}

-- all but the triggers, and the version last configured
pub record IsKept (r : Record) (configured : Bool) (kept : Record) : Type 0 where
  pub name : kept.name ≡ r.name
  pub wanted : kept.want ≡ r.want
  pub flagged : kept.flag ≡ r.flag
  pub standing : kept.state ≡ r.state
  pub version : kept.version ≡ r.version
  pub config_version : kept.config_version ≡ version_beside configured r.config_version
  pub removed_since : kept.removed_since ≡ r.removed_since
  pub conffiles : kept.conffiles ≡ r.conffiles
  pub pending : kept.pending ≡ r.pending
  pub fields : kept.fields ≡ r.fields

kept_by : (r : Record) (configured : Bool) → (configured ≡ true → is_installed r.state ≡ true) → IsKept r configured (cond configured (standing_as r.flag r.state r) r)
kept_by r true installed = record {
  name = refl;
  wanted = refl;
  flagged = refl;
  standing = refl;
  version = refl;
  config_version = ap (λ on. version_beside on (last_configured r)) (installed refl);
  removed_since = refl;
  conffiles = refl;
  pending = refl;
  fields = refl;
}
kept_by r false installed = record {
  name = refl;
  wanted = refl;
  flagged = refl;
  standing = refl;
  version = refl;
  config_version = refl;
  removed_since = refl;
  conffiles = refl;
  pending = refl;
  fields = refl;
}

pub kept_same : (t : Triggers) (r kept : Record) → kept ≡ kept_beside t r → IsKept r (is_configured r.state t) kept
kept_same t r kept same =
    subst (IsKept r (is_configured r.state t)) (sym same) (kept_by r (is_configured r.state t) (λ e. (and_parts (is_installed r.state) (not (is_some t.awaited)) e).0))
