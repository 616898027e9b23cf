-- The lines of the workload, without their newlines.
use Rattle.std.specs.Prelude.{ℕ, ◌+◌, ◌-◌, ◌*◌, ◌/◌, ◌%◌, nat_lt, if◌then◌else◌, List, [], ◌∷◌}
use Rattle.std.specs.Prelude.{◌++◌, codes, decimal, slice_get, unwrap_or}
use Rattle.sx_bulk.specs.declared.deployment.TheConstants.{HEAD}

-- the bytes of the deployment's text
unfoldable pub head : List ℕ
head = HEAD.now

-- Three modules are loaded, and each gets the keys of its connections' ends: the deployer asks for
-- one, carries the answer, and gives the module its packets.
unfoldable pub setup : List (List ℕ)
setup =
    codes "load eye"
    ∷ codes "load logic"
    ∷ codes "load lamp"
    ∷ codes "ask eye"
    ∷ codes "give 0 a 0x300"
    ∷ codes "call eye 1 0x300 0x400"
    ∷ codes "take a 0x400 16"
    ∷ codes "answer eye 0 1"
    ∷ codes "give 2 a 0x300"
    ∷ codes "call eye 0 0x300 0x400"
    ∷ codes "ask logic"
    ∷ codes "give 3 a 0x300"
    ∷ codes "call logic 1 0x300 0x400"
    ∷ codes "take a 0x400 16"
    ∷ codes "answer logic 0 4"
    ∷ codes "give 5 a 0x300"
    ∷ codes "call logic 0 0x300 0x400"
    ∷ codes "give 6 a 0x300"
    ∷ codes "call logic 0 0x300 0x400"
    ∷ codes "ask lamp"
    ∷ codes "give 7 b 0x300"
    ∷ codes "call lamp 1 0x300 0x400"
    ∷ codes "take b 0x400 16"
    ∷ codes "answer lamp 0 8"
    ∷ codes "give 9 b 0x300"
    ∷ codes "call lamp 0 0x300 0x400"
    ∷ []

-- The i-th sample is measured, sent to the module that compares it, and what that says to the
-- bulb's. Ten packets were sent before the first sample, and two are for each.
unfoldable pub event : ℕ → List (List ℕ)
event i =
    (codes "sense light " ++ decimal ((37 * i) % 200))
    ∷ codes "call eye 3 0x300 0x400"
    ∷ codes "take a 0x400 24"
    ∷ (codes "give " ++ decimal (10 + 2 * i) ++ codes " a 0x300")
    ∷ codes "call logic 2 0x300 0x400"
    ∷ codes "take a 0x400 24"
    ∷ (codes "give " ++ decimal (11 + 2 * i) ++ codes " b 0x300")
    ∷ codes "call lamp 2 0x300 0x400"
    ∷ []

-- the line of this number in a list, counted from 0; after its end an empty one
abbrev pub line_at : List (List ℕ) → ℕ → List ℕ
line_at those k = unwrap_or (slice_get those k) []

-- the line of this number, counted from 0: the setup's, and then eight for each sample
unfoldable pub line : ℕ → List ℕ
line i = if nat_lt i 26 then line_at setup i else line_at (event ((i - 26) / 8)) ((i - 26) % 8)

-- how many lines carry n samples
abbrev pub lines : ℕ → ℕ
lines n = 26 + 8 * n
