use Rattle.std.proofs.Common.{◌++◌, ◌∙◌, ap, sym, string_bytes}
use Rattle.diversions.specs.Ways.{place as place_of}
use Rattle.host_core.specs.Paths.{Path}
use Rattle.verification.specs.Differences.{difference_lines}
use Rattle.verification.specs.Shipped.{stands_for}
use Rattle.verification.proofs.Beside.{adds_compared, adds_stood}
use Rattle.verification.proofs.shipped.add_file.Goals as goal

pub returns-then-branch-clause-added : goal.returns-then-branch-clause-added
returns-then-branch-clause-added g c =
    let ways = c.args.diversions.now.ways in
    let node = c.args.file.now.node in
    adds_stood ways c.args.name.now c.args.file.now (g.H.Host.state c.args.host.now) (string_bytes c.args.lines.now)
    (sym (c.in_ok-stands_for.ensures ∙ ap (λ (p : Path). stands_for ways.aliases p node) c.in_ok-path.ensures) ∙ c.if-branch.true)

pub returns-clause-added : goal.returns-clause-added
returns-clause-added g c =
    let ways = c.args.diversions.now.ways in
    let name = c.args.name.now in
    let node = c.args.file.now.node in
    let old = string_bytes c.args.lines.now in
    let found = c.in_ok-difference.difference in
    adds_compared ways name c.args.file.now c.in_ok-place.place (g.H.Host.state c.args.host.now) (g.H.Host.state c.find_difference.new.host) found old (string_bytes c.add_difference.new.lines)
    (sym (c.in_ok-stands_for.ensures ∙ ap (λ (p : Path). stands_for ways.aliases p node) c.in_ok-path.ensures) ∙ c.if-branch.false)
    (c.in_ok-place.ensures ∙ ap (λ (p : Path). place_of ways name p) c.in_ok-path.ensures)
    c.in_ok-difference.ensures.told
    (c.in_ok-add_difference.ensures ∙ ap (λ (p : Path). old ++ difference_lines p name found) c.in_ok-path.ensures)
