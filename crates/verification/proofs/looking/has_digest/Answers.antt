use Rattle.std.proofs.Common.{ℕ, List, ◌∙◌, ap}
use Rattle.std.specs.Str.{bytes_eq}
use Rattle.hex.specs.Hex.{encode_lower}
use Rattle.verification.proofs.DigestTexts.{tested_by_text}
use Rattle.verification.proofs.looking.has_digest.Goals as goal

pub returns : goal.returns
returns c =
    c.eq.ensures ∙ tested_by_text c.of_content-own.result c.args.digest c.law-2.ensures c.law.ensures ∙ ap (λ (d : List ℕ). bytes_eq (encode_lower d) (encode_lower c.args.digest)) c.of_content-own.ensures
