use Rattle.std.proofs.Common.{◌≡◌, drop, map}
use Rattle.std.specs.Prelude.{fold}
use Rattle.dpkg_words.specs.Reading.{with_thing}
use Rattle.dpkg_words.proofs.reading.with_each.Given as goal

abbrev pub invariant-loop-thing : goal.invariant-loop-thing
invariant-loop-thing l = fold (with_thing l.word l.on) l.fn.reading (map (λ t. t.now) l.things) ≡ fold (with_thing l.word l.on) l.read (map (λ t. t.now) (drop l.thing-index l.things))
