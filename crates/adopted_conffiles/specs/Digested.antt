-- What MD5 tells of bytes is a digest.
use Rattle.std.specs.Prelude.{◌≡◌, ◌<◌, ℕ, zero, suc, ◌/◌, List, [], ◌∷◌, ◌++◌, length, slice_index}
use Rattle.std.proofs.Common.{arith, refl}
use Rattle.std.specs.List.{AllByRecursion}
use Rattle.std.specs.Int.{byte_at, bytes_low_first, to_le_bytes, w32}
use Rattle.hex.specs.Hex.{IsBytes}
use Rattle.md5.specs.Md5.{digest_bytes, hash_after, md5, padded_message}
use Rattle.conffiles.specs.Digests.{IsDigest}

small : (i n : ℕ) → byte_at i n < 256
small zero n = omega arith
small (suc i) n = omega arith

low : (i k n : ℕ) → AllByRecursion (λ b. b < 256) (bytes_low_first i k n)
low i zero n = tt
low i (suc k) n = (small i n, low (suc i) k n)

joined : (xs ys : List ℕ) → AllByRecursion (λ b. b < 256) xs → AllByRecursion (λ b. b < 256) ys → AllByRecursion (λ b. b < 256) (xs ++ ys)
joined [] ys first second = second
joined (x ∷ xs) ys first second = (first.0, joined xs ys first.1 second)

all_bytes : (h : List ℕ) (n : ℕ) → AllByRecursion (λ b. b < 256) (digest_bytes h n)
unfolding digest_bytes
all_bytes h zero = tt
all_bytes h (suc n) = joined (digest_bytes h n) (to_le_bytes w32 (slice_index h n)) (all_bytes h n) (low 0 4 (slice_index h n))

are_bytes : (xs : List ℕ) → AllByRecursion (λ b. b < 256) xs → IsBytes xs
are_bytes [] all i = omega arith
are_bytes (x ∷ xs) all zero = all.0
are_bytes (x ∷ xs) all (suc i) = are_bytes xs all.1 i

long : (h : List ℕ) → length (digest_bytes h 4) ≡ 16
unfolding digest_bytes
long h = refl

pub md5_digest : (bytes : List ℕ) → IsDigest (md5 bytes)
unfolding md5
md5_digest bytes =
    let h = hash_after (padded_message bytes) (length (padded_message bytes) / 64) in
    record { long = long h; bytes = are_bytes (digest_bytes h 4) (all_bytes h 4) }
