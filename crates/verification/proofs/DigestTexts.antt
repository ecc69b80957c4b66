-- Digests by their texts.
use Rattle.std.proofs.Common.{◌≡◌, ℕ, Bool, true, false, List, refl, sym, ap, ◌∙◌}
use Rattle.std.specs.Str.{bytes_eq}
use Rattle.std.proofs.lemmas.Bool.{true≢false, false_from_ne_true}
use Rattle.std.proofs.lemmas.Slice.Eq.{bytes_eq-Decides}
use Rattle.hex.specs.Hex.{decode_of, encode_lower}
use Rattle.hex.proofs.HexLemmas.{decode_of-encode_lower, decode_of-same}
use Rattle.conffiles.specs.Digests.{IsDigest}

-- two of one text are the same
pub same_digest : (a b : List ℕ) → IsDigest a → IsDigest b → encode_lower a ≡ encode_lower b → a ≡ b
same_digest a b first second same =
    decode_of-same (encode_lower a) a b (decode_of-encode_lower a first.bytes) (ap decode_of same ∙ decode_of-encode_lower b second.bytes)

pub tested_by_text : (a b : List ℕ) → IsDigest a → IsDigest b → bytes_eq a b ≡ bytes_eq (encode_lower a) (encode_lower b)
tested_by_text a b first second = at (bytes_eq a b) refl
  where
    at : (t : Bool) → bytes_eq a b ≡ t → t ≡ bytes_eq (encode_lower a) (encode_lower b)
    at true e = sym ((bytes_eq-Decides (encode_lower a) (encode_lower b)).1 (ap encode_lower ((bytes_eq-Decides a b).0 e)))
    at false e = sym (false_from_ne_true (bytes_eq (encode_lower a) (encode_lower b))
        (λ same. true≢false (sym ((bytes_eq-Decides a b).1 (same_digest a b first second ((bytes_eq-Decides (encode_lower a) (encode_lower b)).0 same))) ∙ e)))
