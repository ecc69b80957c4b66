use Rattle.std.proofs.Common.{◌≡◌, ◌++◌, map, rules, string_bytes}
use Rattle.std.specs.List.{flat_map}
use Rattle.queries.specs.Asked.{asked}
use Rattle.queries.specs.Selections.{selection_lines}
use Rattle.queries.proofs.AllTold.{is_told}
use Rattle.queries.proofs.selections.selections_text.Goals as goal

pub returns : goal.returns
returns c =
    let entries = map (λ r. r.now) c.in_ok-entries.entries.items in
    let front = string_bytes c.in_ok-lines.lines in
    let added : c.new.result ≡ front ++ flat_map selection_lines entries = search rules in
    let are : entries ≡ asked c.args.patterns.now c.args.database.now.records = search rules in
    is_told (flat_map selection_lines) c.args.patterns.now c.args.database.now.records entries c.new.result front c.in_ok-lines.complete added (search rules) are (search rules)
