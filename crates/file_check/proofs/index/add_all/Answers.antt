use Rattle.std.proofs.Common.{◌<◌, length, arith}
use Rattle.std.specs.BTreeSet.{contains_text}
use Rattle.file_check.proofs.Indexing.{place_next, twice_next, made_next}
use Rattle.file_check.proofs.index.add_all.Goals as goal

pub loop-one-preserved : goal.loop-one-preserved
loop-one-preserved c =
    let inv = c.loop-one.invariant in
    let works = c.args.works.now in
    let i = c.loop-one.one-index in
    let s = c.one-item.result in
    let within : i < length works = omega arith in
    record {
      made = λ q. made_next works i s within c.one-item.is q (contains_text c.add_maker.new.made q) (contains_text c.loop-one.made q) (c.in_ok-add_maker.ensures q) (inv.made q);
      once = λ q. place_next works i s within c.one-item.is q (contains_text c.add_place.new.once q) (contains_text c.loop-one.once q) (c.in_ok-add_place.ensures.once q) (inv.once q);
      twice = λ q. twice_next works i s within c.one-item.is q (contains_text c.add_place.new.twice q) (contains_text c.loop-one.twice q) (contains_text c.loop-one.once q) (c.in_ok-add_place.ensures.twice q) (inv.twice q) (inv.once q);
    }
