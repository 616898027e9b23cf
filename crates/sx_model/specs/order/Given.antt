-- What is given from outside, and what is written, is in range.
use Rattle.std.specs.Prelude.{◌<◌}
use Rattle.sx_trace.specs.declared.items.Item.{Item}
use Rattle.sx_trace.specs.declared.items.Item.TheVariants.{Sense, Raw, Out}

-- a sensor gets a value that it can give, and what is written is a word
abbrev pub IsGiven : Item → Type 0
IsGiven (Sense d v) = v < 32768
IsGiven (Out m v) = v < 65536
IsGiven (Raw d v) = v < 65536
IsGiven _ = Unit {0}
