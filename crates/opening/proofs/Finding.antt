-- What was found of parts, one after another.
use Rattle.std.proofs.Common.{◌≡◌, inl, inr, ℕ, List, [], ◌∷◌, ◌++◌, Option, Some, None, Result, Ok, Err, IsErrAnd, sym, subst}
use Rattle.std.specs.List.{AllByRecursion}
use Rattle.host_core.specs.Paths.{Path}
use Rattle.host_core.specs.World.{World}
use Rattle.host_core.specs.declared.fault.HostFault.{HostFault}
use Rattle.host_core.specs.declared.fault.HostFault.TheVariants as host
use Rattle.administration.specs.Fault.{fault_of}
use Rattle.administration.specs.declared.fault.AdministrationFault.{AdministrationFault}
use Rattle.administration.specs.declared.fault.AdministrationFault.TheVariants.{Damaged, Device, NoMemory, Declined}
use Rattle.opening.specs.Parts.{Part, IsFine, IsFirstFault, IsDamage, Finds, fault_in}

all_append : (P : Part → Type 0) (a b : List Part) → AllByRecursion P a → AllByRecursion P b → AllByRecursion P (a ++ b)
all_append P [] b first second = second
all_append P (part ∷ a) b first second = (first.0, all_append P a b first.1 second)

fault_behind : (a b : List Part) (w : World) (file : Path) (line : ℕ) → AllByRecursion (IsFine w) a → IsFirstFault b w file line → IsFirstFault (a ++ b) w file line
fault_behind [] b w file line fine fault = fault
fault_behind (part ∷ a) b w file line fine fault = inr (fine.0, fault_behind a b w file line fine.1 fault)

fault_before : (a b : List Part) (w : World) (file : Path) (line : ℕ) → IsFirstFault a w file line → IsFirstFault (a ++ b) w file line
fault_before [] b w file line fault = absurd fault
fault_before (part ∷ a) b w file line (inl here) = inl here
fault_before (part ∷ a) b w file line (inr later) = inr (later.0, fault_before a b w file line later.1)

pub finds_behind : (a b : List Part) (w : World) (fault : Option AdministrationFault) → AllByRecursion (IsFine w) a → Finds b w fault → Finds (a ++ b) w fault
finds_behind a b w None fine finds = all_append (IsFine w) a b fine finds
finds_behind a b w (Some (Damaged file line)) fine finds = fault_behind a b w file line fine finds
finds_behind a b w (Some Device) fine finds = tt
finds_behind a b w (Some NoMemory) fine finds = tt
finds_behind a b w (Some Declined) fine finds = tt

pub damage_before : (a b : List Part) (w : World) (fault : AdministrationFault) → IsDamage a w fault → IsDamage (a ++ b) w fault
damage_before a b w (Damaged file line) finds = fault_before a b w file line finds
damage_before a b w Device finds = tt
damage_before a b w NoMemory finds = tt
damage_before a b w Declined finds = tt

-- want of memory, or a fault of the host
pub memory_damage : (among : List Part) (w : World) (fault : AdministrationFault) → fault ≡ NoMemory → IsDamage among w fault
memory_damage among w fault is = subst (IsDamage among w) (sym is) tt

pub host_damage : (among : List Part) (w : World) (h : HostFault) (fault : AdministrationFault) → fault ≡ fault_of h → IsDamage among w fault
host_damage among w host.Device fault is = subst (IsDamage among w) (sym is) tt
host_damage among w host.NoMemory fault is = subst (IsDamage among w) (sym is) tt
host_damage among w host.Declined fault is = subst (IsDamage among w) (sym is) tt

-- the answer after a `?`

pub finds_memory : {T : Type 0} (among : List Part) (result : Result T AdministrationFault) (w : World) → IsErrAnd result (λ e. e ≡ NoMemory) → Finds among w (fault_in result)
finds_memory among (Ok x) w told = absurd told
finds_memory among (Err fault) w is = memory_damage among w fault is

pub finds_before : {T : Type 0} (a b : List Part) (given : AdministrationFault) (result : Result T AdministrationFault) (w : World) → IsErrAnd result (λ e. e ≡ given) → Finds a w (Some given) → Finds (a ++ b) w (fault_in result)
finds_before a b given (Ok x) w told first = absurd told
finds_before a b given (Err fault) w is first = subst (λ f. Finds (a ++ b) w (Some f)) (sym is) (damage_before a b w given first)
