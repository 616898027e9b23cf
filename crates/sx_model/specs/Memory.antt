-- Which items the model may take memory for.
use Rattle.std.specs.Prelude.{Bool, true, false, Some}
use Rattle.sx_trace.specs.declared.items.Item.{Item}
use Rattle.sx_trace.specs.declared.items.Item.TheVariants.{Protect, Read, Attested, Vouch, Open}
use Rattle.sx_trace.specs.declared.items.Item.TheVariants.{Take}

-- the state after the item may be larger than before it
abbrev pub may_take_memory : Item → Bool
may_take_memory (Protect n (Some m)) = true
may_take_memory (Read m v) = true
may_take_memory (Attested m b) = true
may_take_memory (Vouch m a) = true
may_take_memory (Open m c side epoch) = true
may_take_memory (Take m c i v) = true
may_take_memory _ = false
