use Rattle.std.specs.Bool.{Decides}
use Rattle.std.proofs.Common.{◌≡◌, ℕ, List, sym, ap, subst, ◌∙◌}
use Rattle.std.proofs.lemmas.Bool.Decides.{Decides-eqb}
use Rattle.std.proofs.lemmas.Slice.Eq.{slice_eq-Decides}
use Rattle.std.proofs.lemmas.Bool.{true≢false}
use Rattle.status_records.specs.Words.{is_not_installed}
use Rattle.status_records.specs.declared.record.Record.{Record}
use Rattle.dpkg_session.proofs.Alike.{same_written}
use Rattle.dpkg_session.proofs.unchanged.is_same_record.Goals as goal

pub returns-then-is_not_installed : goal.returns-then-is_not_installed
returns-then-is_not_installed c = λ same. true≢false (sym (sym c.is_not_installed.ensures ∙ c.if-is_not_installed.true) ∙ sym (ap (λ (r : Record). is_not_installed r.state) same) ∙ c.requires)

pub returns : goal.returns
returns c =
    let told : Decides c.eq.result (c.in_ok-first.first ≡ c.in_ok-second.second) =
    subst (λ (l : List ℕ). Decides c.eq.result (l ≡ c.in_ok-second.second)) c.as_slice.ensures
    (subst (λ (l : List ℕ). Decides c.eq.result (c.as_slice.result.now ≡ l)) c.as_slice-2.ensures (slice_eq-Decides Decides-eqb c.as_slice.result.now c.as_slice-2.result.now c.eq.result c.eq.ensures)) in
    same_written c.args.before.now c.args.now.now c.in_ok-first.first c.in_ok-second.second c.eq.result (sym c.is_not_installed.ensures ∙ c.if-is_not_installed.false) c.requires c.in_ok-first.ensures.text c.in_ok-second.ensures.text
    (c.in_ok-first.ensures.read (sym c.is_not_installed.ensures ∙ c.if-is_not_installed.false)) (c.in_ok-second.ensures.read c.requires) told
