use Rattle.std.proofs.Common.{◌≡◌, ◌++◌, map, rules, string_bytes}
use Rattle.recorded_packages.specs.Packages.{root_architecture}
use Rattle.queries.specs.Asked.{asked}
use Rattle.queries.specs.Records.{told_in}
use Rattle.queries.proofs.AllTold.{is_told}
use Rattle.queries.proofs.records.list_text.Goals as goal

pub returns : goal.returns
returns c =
    let told = told_in c.args.layout.now (root_architecture c.args.database.now.records) in
    let entries = map (λ r. r.now) c.in_ok-entries.entries.items in
    let front = string_bytes c.in_ok-lines.lines in
    let added : c.new.result ≡ front ++ told entries = search rules in
    let are : entries ≡ asked c.args.patterns.now c.args.database.now.records = search rules in
    is_told told c.args.patterns.now c.args.database.now.records entries c.new.result front c.in_ok-lines.complete added (search rules) are (search rules)
