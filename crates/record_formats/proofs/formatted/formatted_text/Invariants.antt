use Rattle.std.proofs.Common.{◌≡◌, take, map}
use Rattle.std.specs.List.{flat_map}
use Rattle.std.specs.Prelude.{option_copied}
use Rattle.record_formats.specs.Values.{shown_record}
use Rattle.record_formats.proofs.formatted.formatted_text.Given as goal

abbrev pub invariant-loop-entry : goal.invariant-loop-entry
invariant-loop-entry l = l.text.items ≡ flat_map (shown_record (option_copied l.root) l.pieces) (map (λ r. r.now) (take l.entry-index l.entries))
