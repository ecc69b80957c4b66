-- The values of a command around its units, which the crate command_line has for itself.
use Rattle.std.specs.Prelude.{true}
use Rattle.command_line.specs.Triggering.{HasBegun, HasTriggered, IsUntriggered}

-- what something is said of
abbrev pub Subject : {A : Type 0} {B : Type 1} → (A → B) → Type 0
Subject {A} {B} says = A

-- what is known before them
abbrev pub Known : Type 0
Known = Subject (HasBegun true)

-- what is to be done around them
abbrev pub Triggering : Type 0
Triggering = Subject HasTriggered

-- what came of it
abbrev pub Triggered : Type 0
Triggered = Subject IsUntriggered
