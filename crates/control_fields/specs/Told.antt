-- The faults of lines, with the line's number.
use Rattle.std.specs.Prelude.{ℕ}
use Rattle.control_fields.specs.declared.reading.Kind.{Kind}
use Rattle.control_fields.specs.declared.reading.Kind.TheVariants.{NotUtf8, OrphanContinuation, NoColon, BadName, Twice}
use Rattle.control_fields.specs.declared.fault.ControlFault.{ControlFault}
use Rattle.control_fields.specs.declared.fault.ControlFault.TheVariants as fault

-- the fault of a line that is wrong in this way
abbrev pub told : Kind → ℕ → ControlFault
told NotUtf8 n = fault.NotUtf8 n
told OrphanContinuation n = fault.OrphanContinuation n
told NoColon n = fault.NoColon n
told BadName n = fault.BadName n
told Twice n = fault.Twice n
