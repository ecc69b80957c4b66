-- Which packages can be removed in favour of another.
use Rattle.std.proofs.Common.{◌≡◌, inl, inr, ℕ, true, false, List, Option, Some, None, refl, sym, ap, ◌∙◌}
use Rattle.std.proofs.lemmas.Bool.{false≢true, true≢false}
use Rattle.removal_engine.specs.Extents.{BeginsFrom}
use Rattle.removal_engine.specs.Units.{IsRemovable}
use Rattle.removal_engine.specs.declared.extent.Extent.TheVariants.{InFavour}
use Rattle.status_records.specs.Records.{record_in}
use Rattle.status_records.specs.declared.record.Record.{Record}
use Rattle.status_records.specs.declared.words.State.{State}
use Rattle.status_records.specs.declared.words.State.TheVariants.{NotInstalled, ConfigFiles, HalfInstalled, Unpacked, HalfConfigured, Installed}
use Rattle.conflict_removal.specs.Removals.{begins_in_favour, can_be_removed}

begins : (s : State) → begins_in_favour s ≡ true → BeginsFrom InFavour s
begins NotInstalled is = absurd (false≢true is)
begins ConfigFiles is = absurd (false≢true is)
begins HalfInstalled is = inl refl
begins Unpacked is = inr (inl refl)
begins HalfConfigured is = inr (inr refl)
begins Installed is = absurd (false≢true is)

begun : (s : State) → BeginsFrom InFavour s → begins_in_favour s ≡ true
begun s (inl is) = ap begins_in_favour is
begun s (inr (inl is)) = ap begins_in_favour is
begun s (inr (inr is)) = ap begins_in_favour is

module _ (rs : List Record) (name : List ℕ) where
  by_record : (o : Option Record) → record_in rs name ≡ o → can_be_removed o ≡ true → IsRemovable InFavour rs name
  by_record None found is = absurd (false≢true is)
  by_record (Some r) found is = record { entry = r; found = found; begins = begins r.state is }

  pub is_removable : can_be_removed (record_in rs name) ≡ true → IsRemovable InFavour rs name
  is_removable is = by_record (record_in rs name) refl is

  pub not_removable : can_be_removed (record_in rs name) ≡ false → IsRemovable InFavour rs name → ⊥
  not_removable is removable = true≢false (sym (begun removable.entry.state removable.begins) ∙ sym (ap can_be_removed removable.found) ∙ is)
