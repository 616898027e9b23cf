-- What is heard of the items of a trace.
use Rattle.std.specs.Prelude.{ℕ, ◌%◌, ◌==◌, ◌&&◌, Bool, Option, Some, None}
use denote.Enum.Bare.{sameb}
use Rattle.sx_trace.specs.declared.items.Item.{Item}
use Rattle.sx_trace.specs.declared.items.Item.TheVariants.{Reset, Protect, Sense, Read, Drain}
use Rattle.sx_trace.specs.declared.items.Item.TheVariants.{Attested, Take, Out, Raw}
use Rattle.sx_watch.specs.contracts.topics.TopicKind.{the_type}
use Rattle.sx_watch.specs.declared.topics.Topic.{Topic}
use Rattle.sx_watch.specs.declared.topics.TopicKind.TheVariants as kind

-- what is heard of an item, if anything is: its topic, and its value, 0 where it has none; what
-- other code writes is heard as a word
abbrev pub heard_of : Item → Option (Topic × ℕ)
heard_of (Reset n cause) = Some (record { kind = kind.Reset; index = n }, 0)
heard_of (Protect n (Some m)) = Some (record { kind = kind.Protect; index = m }, 0)
heard_of (Sense d v) = Some (record { kind = kind.Sense; index = d }, v)
heard_of (Read m v) = Some (record { kind = kind.Read; index = m }, v)
heard_of (Drain d) = Some (record { kind = kind.Drain; index = d }, 0)
heard_of (Attested m boot) = Some (record { kind = kind.Attested; index = m }, 0)
heard_of (Take m c i v) = Some (record { kind = kind.Take; index = c }, v)
heard_of (Out m v) = Some (record { kind = kind.Out; index = m }, v)
heard_of (Raw d v) = Some (record { kind = kind.Raw; index = d }, v % 65536)
heard_of _ = None

-- two topics are the same: of one variant of `TopicKind` (`sameb`), at one index
abbrev pub same_topic : Topic → Topic → Bool
same_topic a b = sameb the_type a.kind b.kind && (a.index == b.index)
