-- Which of the archives that are given are passed over: `-E`, `-G` and `-O`.
use Rattle.std.specs.Prelude.{◌||◌, Bool, false}
use Rattle.dpkg_words.specs.declared.picking.Picking.{Picking}

abbrev pub all_taken : Picking
all_taken = record { skip_same = false; refuse_downgrade = false; selected_only = false }

-- any may be passed over
abbrev pub picks : Picking → Bool
picks p = p.skip_same || p.refuse_downgrade || p.selected_only
