use Rattle.std.proofs.Common.{ℕ, List, [], not, Bor, ap, ◌∙◌}
use Rattle.std.specs.Str.{bytes_eq}
use Rattle.control_fields.specs.Names.{lower}
use Rattle.status_records.proofs.Places.{prefix_on, prefix_stop, named_at}
use Rattle.status_records.proofs.order.place_of.Goals as goal

pub returns-then-eq_ignore_ascii_case : goal.returns-then-eq_ignore_ascii_case
returns-then-eq_ignore_ascii_case c =
    let d : Bor (List ℕ) = record { ref_ptr = (0, 0); now = [] } in
    let same = named_at c.args.name.now c.as_bytes.result.now c.args.names.now c.loop-i.i d c.eq_ignore_ascii_case.result c.loop-i-test.true c.requires c.as_bytes.ensures.value c.eq_ignore_ascii_case.ensures.test in
    prefix_stop (λ n. not (bytes_eq (lower c.args.name.now) n.now)) c.args.names.now c.loop-i.i d c.loop-i-test.true (ap not (same ∙ c.if-eq_ignore_ascii_case.true)) c.loop-i.invariant

pub loop-i-preserved : goal.loop-i-preserved
loop-i-preserved c =
    let d : Bor (List ℕ) = record { ref_ptr = (0, 0); now = [] } in
    let same = named_at c.args.name.now c.as_bytes.result.now c.args.names.now c.loop-i.i d c.eq_ignore_ascii_case.result c.loop-i-test.true c.requires c.as_bytes.ensures.value c.eq_ignore_ascii_case.ensures.test in
    prefix_on (λ n. not (bytes_eq (lower c.args.name.now) n.now)) c.args.names.now c.loop-i.i d c.loop-i-test.true (ap not (same ∙ c.if-eq_ignore_ascii_case.false)) c.loop-i.invariant
