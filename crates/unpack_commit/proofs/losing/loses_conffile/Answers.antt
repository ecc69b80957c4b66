use Rattle.std.proofs.Common.{◌≡◌, ◌||◌, Bool, List, ap, sym, ◌∙◌}
use Rattle.std.proofs.lemmas.Result.{IfOk-weaker}
use Rattle.std.specs.List.{list_any}
use Rattle.status_records.specs.declared.entries.ConffileEntry.{ConffileEntry}
use Rattle.status_records.specs.declared.entries.PendingDigest.{PendingDigest}
use Rattle.unpack_commit.specs.Takeover.{is_at}
use Rattle.unpack_commit.proofs.losing.loses_conffile.Goals as goal

pub returns-then-has : goal.returns-then-has
returns-then-has c =
    let entry = c.args.entry.now in
    let at = is_at c.args.diversions.now.ways c.args.taken.now entry.name in
    let has = sym (c.in_ok-has.ensures ∙ ap (list_any (λ (e : ConffileEntry). at e.path)) c.as_slice-conffiles.ensures) ∙ c.if-has.true in
    sym (ap (λ b. b || list_any (λ (p : PendingDigest). at p.path) entry.pending) has)

pub returns : goal.returns
returns c =
    let entry = c.args.entry.now in
    let at = is_at c.args.diversions.now.ways c.args.taken.now entry.name in
    let none = sym (c.in_ok-has.ensures ∙ ap (list_any (λ (e : ConffileEntry). at e.path)) c.as_slice-conffiles.ensures) ∙ c.if-has.false in
    IfOk-weaker c.has_digest.result _ _
    (λ b is. is ∙ ap (list_any (λ (p : PendingDigest). at p.path)) c.as_slice-pending.ensures ∙ sym (ap (λ d. d || list_any (λ (p : PendingDigest). at p.path) entry.pending) none))
    c.has_digest.ensures
