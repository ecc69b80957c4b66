-- How the digest of a conffile stands in a record.
use Rattle.std.specs.Prelude.{ℕ, Bool, ◌||◌, List, Option, Some, None, IfSome, codes}
use Rattle.std.specs.Str.{bytes_eq}
use Rattle.hex.specs.Hex.{encode_lower}
use Rattle.conffiles.specs.Digests.{IsDigest, is_digest_text}

-- 32 hexadecimal digits in lower case, or `newconffile` where no version is settled yet
abbrev pub is_recorded_text : List ℕ → Bool
is_recorded_text text = bytes_eq text (codes "newconffile") || is_digest_text text

-- the word for the digest of the last version settled
abbrev pub digest_word : Option (List ℕ) → List ℕ
digest_word None = codes "newconffile"
digest_word (Some digest) = encode_lower digest

-- a digest, where there is one
abbrev pub IsDigestOrNone : Option (List ℕ) → Type 0
IsDigestOrNone digest = IfSome digest IsDigest
