-- What is done of triggers that were activated (deb-triggers).
use Rattle.record_changes.specs.declared.change.Change.TheVariants.{Activate}
use Rattle.record_changes.specs.declared.change.RecordChange.{RecordChange}
use Rattle.trigger_watch.specs.declared.activating.Activation.{Activation}

-- they become pending of their package
abbrev pub change_by : Activation → RecordChange
change_by activation = record { name = activation.«package»; change = Activate activation.names }
