use Rattle.std.proofs.Common.{[], ◌∷◌, ◌∙◌, ap, sym, subst}
use Rattle.std.specs.Prelude.{IsSome, not}
use Rattle.std.proofs.lemmas.Bool.{true≢false}
use Rattle.host_core.proofs.Moments.{reads_then}
use Rattle.host_overlay.specs.Seen.{seen}
use Rattle.opening.specs.Parts.{IsTable}
use Rattle.inquiries.proofs.PartByPart.{list_stop, no_files, none_recorded, some_recorded}
use Rattle.inquiries.proofs.files.list_files.Goals as goal

pub returns-then-is_none-clause-told : goal.returns-then-is_none-clause-told
returns-then-is_none-clause-told g c =
    let none = none_recorded c.get.result _ c.get.ensures (c.is_none.ensures ∙ ap not c.if-is_none.true) in
    (c.in_ok-database.database.records, [], (λ w. w), (λ h. ((c.in_ok-database.ensures.table h).records, λ some. absurd (true≢false (sym (subst IsSome none some))))), no_files c.in_ok-database.database.records c.args.name.now none)

pub returns-in_err-lists-clause-damage : goal.returns-in_err-lists-clause-damage
returns-in_err-lists-clause-damage g c = λ h.
    let u = (g.H.Host.state c.args.host.now).world in
    let v = (g.H.Host.state c.read_records.new.host).world in
    let before = c.read_list.ensures.silent.honest h in
    let some = some_recorded c.get.result _ c.get.ensures (c.is_none.ensures ∙ ap not c.if-is_none.false) in
    list_stop c.args.name.now _ c.from_residual-in_err-lists.result c.in_ok-database.database.records u v c.from_residual-in_err-lists.ensures.1 c.read_records.ensures.reads.world
    (c.in_ok-database.ensures.finds before) (c.in_ok-database.ensures.table before) some (c.in_err-lists.ensures.damage h)

pub returns-in_err-lists-clause-reads : goal.returns-in_err-lists-clause-reads
returns-in_err-lists-clause-reads g c = reads_then _ _ _ c.read_records.ensures.reads c.read_list.ensures.reads

pub returns-in_err-text-clause-reads : goal.returns-in_err-text-clause-reads
returns-in_err-text-clause-reads g c = reads_then _ _ _ c.read_records.ensures.reads c.read_list.ensures.reads

pub returns-clause-told : goal.returns-clause-told
returns-clause-told g c =
    let table = c.in_ok-database.database.records in
    let at = sym c.read_list.ensures.reads.world in (
      table,
      c.in_ok-lists.lists.lists,
      seen c.in_ok-lists._shown,
      (λ h. ((subst (λ w. IsTable w table) at (c.in_ok-database.ensures.table (c.read_list.ensures.silent.honest h))).records, λ some. c.in_ok-lists.ensures.lists h)),
      c.in_ok-text.ensures,
    )

pub returns-clause-reads : goal.returns-clause-reads
returns-clause-reads g c = reads_then _ _ _ c.read_records.ensures.reads c.read_list.ensures.reads
