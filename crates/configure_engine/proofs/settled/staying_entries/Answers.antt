use Rattle.std.proofs.Common.{◌≡◌, ◌<◌, List, length, get_or, ap, subst, ◌∙◌}
use Rattle.status_records.specs.declared.entries.ConffileEntry.{ConffileEntry}
use Rattle.configure_engine.specs.Settled.{stays}
use Rattle.configure_engine.proofs.Staying.{behind_staying}
use Rattle.configure_engine.proofs.settled.staying_entries.Goals as goal

pub push-requires : goal.push-requires
push-requires c =
    let es = c.args.entry.now.conffiles in
    let i = c.loop-conffile.conffile-index in
    let e = c.conffile-item.result in
    let value = c.as_slice-conffile-items.ensures in
    let lt : i < length es = subst (λ (l : List ConffileEntry). i < length l) value c.loop-conffile-test.true in
    let at : e ≡ get_or es i e = c.conffile-item.is ∙ ap (λ (l : List ConffileEntry). get_or l i e) value in
    behind_staying (stays c.args.entry.now.pending) es i e c.in_ok-copy.field-0 c.loop-conffile.staying lt at c.law.ensures c.in_ok-copy.ensures c.loop-conffile.invariant
