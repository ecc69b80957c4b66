-- What is planned of faults of the device, and what comes of it.
use Rattle.std.specs.Prelude.{ℕ, ◌-◌, List, Bool, false, ◌||◌, Option, Some, None, cond, nat_eq, is_some}
use Rattle.host_memory.specs.declared.fault_plan.Effect.TheVariants.{None as Nothing}
use Rattle.host_memory.specs.declared.fault_plan.StepFault.{StepFault}
use Rattle.host_memory.specs.declared.fault_plan.FaultPlan.{FaultPlan}
use Rattle.host_memory.specs.declared.fault_plan.Fate.{Fate}
use Rattle.host_memory.specs.declared.fault_plan.Fate.TheVariants.{Made, Failed, Declined}
use Rattle.host_memory.specs.DenialPlans.{is_denied}

-- the step is the one that fails
abbrev pub due : StepFault → Fate
due fault = cond (nat_eq fault.before 0) (Failed fault.effect) Made

abbrev fate_by : Option StepFault → Fate
fate_by None = Made
fate_by (Some fault) = due fault

-- what comes of the next step where none is declined: once stopped, every step fails and does nothing
abbrev pub fate_of : FaultPlan → Fate
fate_of plan = cond plan.is_stopped (Failed Nothing) (fate_by plan.step)

-- a step at which the device doesn't fail may be declined
abbrev unless_denied : List ℕ → Fate → Fate
unless_denied denials Made = cond (is_denied denials) Declined Made
unless_denied denials (Failed effect) = Failed effect
unless_denied denials Declined = Declined

-- what comes of the next step, with these denials planned
abbrev pub fate_at : FaultPlan → List ℕ → Fate
fate_at plan denials = unless_denied denials (fate_of plan)

-- one step fewer is made before the fault; the fault itself comes once, and the device may stop at it
abbrev pub behind_fault : FaultPlan → StepFault → FaultPlan
behind_fault plan fault = cond (nat_eq fault.before 0)
    (record { step = None; read = plan.read; is_stopped = fault.stops })
    (record { step = Some (record { before = fault.before - 1; effect = fault.effect; stops = fault.stops }); read = plan.read; is_stopped = plan.is_stopped })

abbrev behind_by : FaultPlan → Option StepFault → FaultPlan
behind_by plan None = plan
behind_by plan (Some fault) = behind_fault plan fault

-- what is planned behind the next step
abbrev pub behind_step : FaultPlan → FaultPlan
behind_step plan = cond plan.is_stopped plan (behind_by plan plan.step)

abbrev fails_at : Option ℕ → Bool
fails_at None = false
fails_at (Some before) = nat_eq before 0

-- the next read fails
abbrev pub read_fails : FaultPlan → Bool
read_fails plan = plan.is_stopped || fails_at plan.read

abbrev one_fewer : Option ℕ → Option ℕ
one_fewer None = None
one_fewer (Some before) = cond (nat_eq before 0) None (Some (before - 1))

-- what is planned behind the next read
abbrev pub behind_read : FaultPlan → FaultPlan
behind_read plan = cond plan.is_stopped plan (record { step = plan.step; read = one_fewer plan.read; is_stopped = plan.is_stopped })

-- nothing is planned
abbrev pub no_faults : FaultPlan
no_faults = record { step = None; read = None; is_stopped = false }

-- a fault is to come
abbrev pub awaits : FaultPlan → Bool
awaits plan = is_some plan.step || is_some plan.read
