-- What the beginning of a unit leaves alone, and what follows the rows.
use Rattle.std.proofs.Common.{◌≡◌, ◌≢◌, inl, inr, ℕ, Bool, true, false, Option, Some, None, get_or, sym, ap}
use Rattle.std.proofs.lemmas.Bool.{true≢false}
use Rattle.host_core.specs.Paths.{Path}
use Rattle.host_core.specs.World.{World}
use Rattle.administration.specs.Places.{list_path, tmp_path, is_within}
use Rattle.administration.proofs.Within.{within_is}
use Rattle.status_records.specs.declared.record.Record.{Record}
use Rattle.unpack_steps.specs.Clearing.{IsBesideOwn, IsCleared, MayClear}
use Rattle.unpack_engine.specs.Units.{HasDropped, MayDrop}

-- the first byte of a name in the directory of the administration: `i` for what is in `info`
abbrev pub byte : Path → ℕ
byte p = get_or p 14 0

pub own_beside : (name q : Path) → (byte q ≡ 105 → ⊥) → IsBesideOwn name q
own_beside name q other = record { list = λ e. other (ap byte e); members = λ member is e. other (ap byte e) }

-- beside the names under which something is left, all is as before
pub may_same : (gone goes : Bool) (name : Path) (v w : World) (q : Path) → MayClear gone goes name v w → IsBesideOwn name q → w q ≡ v q
may_same true goes name v w q cleared beside = cleared.rest q beside
may_same false true name v w q clearing beside = clearing.rest q beside
may_same false false name v w q same beside = ap (λ (x : World). x q) same

-- where it is gone, it is gone
pub cleared_if : (gone goes : Bool) (name : Path) (v w : World) → gone ≡ true → MayClear gone goes name v w → IsCleared name v w
cleared_if true goes name v w is cleared = cleared
cleared_if false goes name v w is may = absurd (true≢false (sym is))

pub dropped_same : (reached : Bool) (found : Option Record) (name : Path) (v w : World) (q : Path) → HasDropped reached found name v w → q ≢ list_path name → w q ≡ v q
dropped_same true None name v w q dropped other = dropped.rest q other
dropped_same true (Some r) name v w q same other = ap (λ (x : World). x q) same
dropped_same false found name v w q same other = ap (λ (x : World). x q) same

pub may_drop_same : (reached : Bool) (found : Option Record) (name : Path) (v w : World) (q : Path) → MayDrop reached found name v w → q ≢ list_path name → w q ≡ v q
may_drop_same true None name v w q dropping other = dropping.rest q other
may_drop_same true (Some r) name v w q same other = ap (λ (x : World). x q) same
may_drop_same false found name v w q same other = ap (λ (x : World). x q) same

pub tmp_byte : (q : Path) → is_within tmp_path q ≡ true → byte q ≡ 116
tmp_byte q within = elim (within_is tmp_path q within) [ inl is ↦ ap byte is | inr more ↦ ap byte more.1 ]
