-- The words of properties: what begins a handler's head, and what the text becomes.
use Rattle.std.specs.Prelude.{ℕ, min, List, [], ◌∷◌, codes}
use Rattle.sx_lex.specs.declared.tokens.Kind.{Kind}
use Rattle.sx_lex.specs.declared.tokens.Kind.TheVariants.{Sensor, Actuator, Input, Output, Sample}
use Rattle.sx_lex.specs.declared.tokens.Kind.TheVariants.{Send, Emit}
use Rattle.sx_watch.specs.declared.topics.TopicKind.{TopicKind}
use Rattle.sx_watch.specs.declared.topics.TopicKind.TheVariants.{Sense, Read, Take, Out, Raw}
use Rattle.sx_watch.specs.declared.topics.TopicKind.TheVariants.{Drain, Reset, Protect, Attested}

-- the words that a head begins with, and the kind of items that its handler hears of
abbrev pub topic_words : List (List ℕ × TopicKind)
topic_words = (codes "sense", Sense) ∷ (codes "read", Read) ∷ (codes "take", Take)
    ∷ (codes "out", Out) ∷ (codes "raw", Raw) ∷ (codes "drain", Drain) ∷ (codes "reset", Reset)
    ∷ (codes "protect", Protect) ∷ (codes "attested", Attested) ∷ []

-- the words of the language that properties don't have
abbrev pub left_out : List Kind
left_out = Sensor ∷ Actuator ∷ Input ∷ Output ∷ Sample ∷ Send ∷ Emit ∷ []

-- names that no text spells: the variable that is 1 once an assumption failed, and the input of the
-- head of this number, from 0; no deployment has items for more than 255 heads
abbrev pub ended : List ℕ
ended = codes "!ended"

abbrev pub input_name : ℕ → List ℕ
input_name n = 35 ∷ min n 255 ∷ []
