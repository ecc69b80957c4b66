use Rattle.std.proofs.Common.{◌∙◌, ap, subst, MatchBool}
use Rattle.host_core.specs.Paths.{Path}
use Rattle.host_core.specs.World.{kind_of}
use Rattle.host_overlay.specs.Seen.{seen}
use Rattle.file_lists.specs.Info.{entry_path, IsFaultyWhole, IsSound}
use Rattle.file_lists.specs.Owners.{names_of}
use Rattle.file_lists.proofs.Entries.{judged_faulty, judged_sound}
use Rattle.file_lists.proofs.info.judge.Goals as goal

pub returns-then-is_faulty-clause-fault : goal.returns-then-is_faulty-clause-fault
returns-then-is_faulty-clause-fault g c = λ h.
    let w = seen c.args.shown.now (g.H.Host.state c.args.host.now).world in
    let names = names_of c.args.table.now in
    let node = w (entry_path c.args.entry.now) in
    let told = c.is_faulty.ensures node (c.in_ok-kind.ensures.found h ∙ ap (λ (p : Path). kind_of (w p)) c.requires.file) in
    (c.requires.file, judged_faulty names c.args.entry.now c.is_faulty.result node c.if-is_faulty.true (subst (λ (e : Path). MatchBool c.is_faulty.result (IsFaultyWhole names e node) (IsSound names e node)) c.as_bytes.ensures.value told))

pub returns-clause-sound : goal.returns-clause-sound
returns-clause-sound g c = λ h.
    let w = seen c.args.shown.now (g.H.Host.state c.args.host.now).world in
    let names = names_of c.args.table.now in
    let node = w (entry_path c.args.entry.now) in
    let told = c.is_faulty.ensures node (c.in_ok-kind.ensures.found h ∙ ap (λ (p : Path). kind_of (w p)) c.requires.file) in
    judged_sound names c.args.entry.now c.is_faulty.result node c.if-is_faulty.false (subst (λ (e : Path). MatchBool c.is_faulty.result (IsFaultyWhole names e node) (IsSound names e node)) c.as_bytes.ensures.value told)
