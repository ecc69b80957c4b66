use Rattle.std.proofs.Common.{◌∙◌, ◌++◌, List, ap, arith, flat_map, subst}
use Rattle.std.specs.List.{AllByRecursion}
use Rattle.host_core.specs.World.{World}
use Rattle.foretold_changes.specs.Staying.{IsSeen}
use Rattle.foretold_changes.specs.Told.{IsReadFrom, changed_lines, stay_lines}
use Rattle.foretold_changes.specs.declared.staying.LookedConffile.{LookedConffile}
use Rattle.foretold_changes.proofs.Few.{more_faults}
use Rattle.foretold_changes.proofs.telling.changes_text.Goals as goal

pub returns-clause-told : goal.returns-clause-told
returns-clause-told g c = λ h new first last looked few.
    let read = c.read_indexed.ensures.reads in
    let over = c.args.over.now in
    let before = c.in_ok-before.before in
    let stays = c.in_ok-stays.stays.items in
    record {
      over = over;
      looked_over = looked;
      before = before;
      read = subst (λ (w : World). IsReadFrom w before) read.world (c.in_ok-before.ensures.read (c.look_at_stays.ensures.reads.honest h));
      stays = stays;
      each = c.in_ok-stays.ensures.each ∙ (c.as_slice.ensures.value ∙ c.in_ok-conffiles.ensures);
      stay = subst (λ (w : World). AllByRecursion (IsSeen w) stays) read.world (c.in_ok-stays.ensures.stay h);
      few = let more = more_faults (g.H.Host.state c.args.host.now) (g.H.Host.state c.read_indexed.new.host) read in let stayed = c.in_ok-stays.ensures.few in omega (arith, few, more, stayed);
      told = c.in_ok-told_text.ensures ∙ ap (λ (them : List LookedConffile). flat_map (changed_lines before over.to_come) over.looked.items ++ flat_map stay_lines them) c.as_slice-2.ensures.value;
    }
