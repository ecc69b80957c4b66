-- How many units may fail in a command (`--abort-after N`).
use Rattle.std.specs.Prelude.{◌≡◌, ◌-◌, ◌==◌, ℕ, Bool, true, false, IsTrue, List, [], ◌∷◌, Option, Some, None, option_map, if◌then◌else◌}
use Rattle.unit_reports.specs.Units.{IsRefusal}
use Rattle.unit_reports.specs.declared.report.Reply.{Reply}
use Rattle.unit_reports.specs.declared.report.Reply.TheVariants.{Done, Refused, Failed, Looped, Broken}
use Rattle.unit_reports.specs.declared.report.Unit.{Unit as AUnit}

-- a unit that wasn't done counts, one that a rule refuses too, as for dpkg
abbrev pub fails : Reply → Bool
fails Done = false
fails (Refused refusal) = true
fails (Failed failure) = true
fails (Looped cycle) = true
fails (Broken breakage) = true

-- how many may fail behind it; without a number any may
abbrev pub left_behind : Option ℕ → Reply → Option ℕ
left_behind left reply = if fails reply then option_map (λ n. n - 1) left else left

-- as many have failed as were allowed to
abbrev pub is_over : Option ℕ → Bool
is_over None = false
is_over (Some n) = n == 0

-- Of these units as many may fail, and as many of others behind them. Once all have that may, only units that rules refuse come.
abbrev pub KeepsTo : Option ℕ → List AUnit → Option ℕ → Type 0
KeepsTo left [] later = later ≡ left
KeepsTo left (u ∷ us) later = (IsTrue (is_over left) → IsRefusal u.reply) × KeepsTo (left_behind left u.reply) us later

abbrev pub KeepsLimit : Option ℕ → List AUnit → Type 0
KeepsLimit limit us = (left : Option ℕ) × KeepsTo limit us left
