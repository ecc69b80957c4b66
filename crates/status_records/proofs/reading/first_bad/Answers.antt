use Rattle.std.proofs.Common.{map, arith}
use Rattle.control_fields.proofs.Keyed.{walk_more}
use Rattle.status_records.proofs.Sayings.{good_more, bad_here, before_last, line_fits, one_more}
use Rattle.status_records.proofs.reading.first_bad.Goals as goal

pub line_of-requires : goal.line_of-requires
line_of-requires c = line_fits c.args.located.now (map (λ b. b.now) c.loop-field.yielded) c.loop-field.field-iterator c.next.new.self c.in-Some.field.now c.loop-field.index c.loop-field.invariant.0 c.loop-field.invariant.1 c.in-Some.ensures.steps c.requires

pub returns-then-not-good : goal.returns-then-not-good
returns-then-not-good c =
    bad_here c.args.located.now (map (λ b. b.now) c.loop-field.yielded) c.loop-field.field-iterator c.next.new.self c.in-Some.field.now c.loop-field.index c.in_ok-good.good c.line_of.result
    c.loop-field.invariant.0 c.loop-field.invariant.1 c.in-Some.ensures.steps c.loop-field.invariant.2 c.in_ok-good.ensures c.if-not-good.true c.line_of.ensures

pub overflow_add-index : goal.overflow_add-index
overflow_add-index c = omega (arith, before_last c.args.located.now.paragraph (map (λ b. b.now) c.loop-field.yielded) c.loop-field.field-iterator c.next.new.self c.in-Some.field.now c.loop-field.index c.loop-field.invariant.0 c.loop-field.invariant.1 c.in-Some.ensures.steps c.fields-field-items.ensures.fits)

pub loop-field-preserved : goal.loop-field-preserved
loop-field-preserved c = (
  one_more c.loop-field.yielded c.in-Some.field c.loop-field.index c.loop-field.invariant.0,
  walk_more c.args.located.now.paragraph c.loop-field.field-iterator c.next.new.self c.loop-field.yielded c.in-Some.field c.loop-field.invariant.1 c.in-Some.ensures.steps,
  good_more c.loop-field.yielded c.in-Some.field c.in_ok-good.good c.loop-field.invariant.2 c.in_ok-good.ensures c.if-not-good.false,
)
