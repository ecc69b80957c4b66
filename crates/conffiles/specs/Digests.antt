-- The MD5 digest of a conffile, and its text.
use Rattle.std.specs.Prelude.{◌≡◌, ◌&&◌, ◌||◌, ◌==◌, ℕ, Bool, List, length, nat_le}
use Rattle.std.specs.List.{list_all}
use Rattle.hex.specs.Hex.{IsBytes}

-- a digest is 16 bytes
pub record IsDigest (digest : List ℕ) : Type 0 where
  pub long : length digest ≡ 16
  pub bytes : IsBytes digest

-- a hexadecimal digit, not in upper case
abbrev pub is_lower_digit : ℕ → Bool
is_lower_digit c = (nat_le 48 c && nat_le c 57) || (nat_le 97 c && nat_le c 102)

-- the text of a digest: 32 such digits
abbrev pub is_digest_text : List ℕ → Bool
is_digest_text text = (length text == 32) && list_all is_lower_digit text
