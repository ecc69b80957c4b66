use Rattle.std.proofs.Common.{◌∙◌, sym, ap, arith}
use Rattle.file_lists.specs.declared.paths.PackageList.{PackageList}
use Rattle.file_lists.proofs.Indexes.{complete_all, complete_more, slot_paths}
use Rattle.file_lists.proofs.index.Index.of_lists.Goals as goal

pub loop-slot-preserved : goal.loop-slot-preserved
loop-slot-preserved c =
    let lists = c.args.lists.now in
    let slot = c.loop-slot.slot in
    record {
      aliases = c.enter_all.ensures.kept.aliases ∙ c.loop-slot.invariant.aliases;
      entered = complete_more lists slot c.loop-slot.index c.enter_all.new.self c.as_slice.result.now (c.as_slice.ensures ∙ ap (λ (l : PackageList). l.paths) (sym c.index-lists-slot.is) ∙ slot_paths lists slot c.index-lists-slot.result c.loop-slot-test.true c.index-lists-slot.is)
          c.loop-slot.invariant.entered c.enter_all.ensures.kept c.in_ok-enter_all.ensures.there;
    }

pub returns-clause-complete : goal.returns-clause-complete
returns-clause-complete c = complete_all c.args.lists.now c.loop-slot.slot c.loop-slot.index (omega (arith, c.loop-slot-test.false)) c.loop-slot.invariant.entered
