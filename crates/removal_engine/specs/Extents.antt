-- How much of a package a removal takes away, and in which states it finds it (Policy 6.6, 6.8).
use Rattle.std.specs.Prelude.{◌≡◌, ◌≢◌, ◌⊎◌, ⊤, Bool, true, false}
use Rattle.status_records.specs.declared.words.State.{State}
use Rattle.status_records.specs.declared.words.State.TheVariants.{ConfigFiles, HalfInstalled, Unpacked, HalfConfigured}
use Rattle.removal_engine.specs.declared.extent.Extent.{Extent}
use Rattle.removal_engine.specs.declared.extent.Extent.TheVariants.{Remove, Purge, InFavour}

abbrev pub is_purge : Extent → Bool
is_purge Remove = false
is_purge Purge = true
is_purge InFavour = false

-- One that is removed already can be purged alone. Of one that is removed in favour of another the prerm has been called, if its
-- postinst was called since it was unpacked.
abbrev pub BeginsFrom : Extent → State → Type 0
BeginsFrom Remove s = s ≢ ConfigFiles
BeginsFrom Purge s = ⊤
BeginsFrom InFavour s = (s ≡ HalfInstalled) ⊎ (s ≡ Unpacked) ⊎ (s ≡ HalfConfigured)
