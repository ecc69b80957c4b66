use Rattle.std.proofs.Common.{◌∙◌, ◌++◌, ◌∷◌, [], ap, sym, append_assoc}
use Rattle.std.proofs.lemmas.Result.{IfOk-weaker}
use Rattle.host_core.specs.Paths.{Path}
use Rattle.removal_engine.specs.Names.{signed}
use Rattle.removal_engine.proofs.Signs.{signed_alone, signed_behind}
use Rattle.removal_engine.proofs.side_names.signed.Goals as goal

pub returns-in_default : goal.returns-in_default
returns-in_default c = IfOk-weaker c.joined.result _ _ (λ s is. is ∙ sym (signed_alone c.args.at.now c.in_default.ensures)) c.joined.ensures

pub returns : goal.returns
returns c =
    let front = c.in-Some.front.now in
    let name = c.in-Some.name.now in
    IfOk-weaker c.joined-3.result _ _
    (λ s is. is ∙ ap (λ (l : Path). l ++ name) (c.as_str.ensures.value ∙ c.in_ok-sign.ensures) ∙ append_assoc front (47 ∷ 35 ∷ []) name
    ∙ sym (ap signed c.in-Some.ensures.0 ∙ signed_behind front name c.in-Some.ensures.1))
    c.joined-3.ensures
