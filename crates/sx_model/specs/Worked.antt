-- Worked runs of the lighting application (sx_mean/specs/Worked). Nobody has to believe this file.
use Rattle.std.specs.Prelude.{ℕ, List, [], ◌∷◌, ◌++◌, Some}
use Rattle.sx_lang.specs.declared.sides.Side.TheVariants.{From, To}
use Rattle.sx_trace.specs.declared.items.Item.{Item}
use Rattle.sx_trace.specs.declared.items.Item.TheVariants as item
use Rattle.sx_trace.specs.declared.items.Cause.TheVariants as cause

-- a module is asked, vouches, and is attested at a boot
abbrev pub attestation : ℕ → ℕ → ℕ → List Item
attestation m challenge boot =
    item.Ask m challenge ∷ item.Vouch m challenge ∷ item.Done m 1 1 ∷ item.Attested m boot ∷ []

-- the modules are loaded, attested, and their ends open
abbrev pub loaded : List Item
loaded =
    item.Protect 0 (Some 0) ∷ item.Protect 0 (Some 1) ∷ item.Protect 1 (Some 2) ∷ []
    ++ attestation 0 0 0 ++ item.Packet 2 38 ∷ item.Open 0 0 From 0 ∷ item.Done 0 1 0 ∷ []
    ++ attestation 1 1 0 ++ item.Packet 5 38 ∷ item.Packet 6 38 ∷ item.Open 1 0 To 0
    ∷ item.Done 1 1 0 ∷ item.Open 1 1 From 0 ∷ item.Done 1 1 0 ∷ []
    ++ attestation 2 2 0 ++ item.Packet 9 38 ∷ item.Open 2 1 To 0 ∷ item.Done 2 1 0 ∷ []

-- a reading of 120 goes from the eye to the logic, which sends 1 to the lamp
abbrev pub sent : List Item
sent = item.Sense 0 120 ∷ item.Read 0 120 ∷ item.Done 0 1 1 ∷ item.Packet 10 24
    ∷ item.Take 1 0 0 120 ∷ item.Done 1 1 1 ∷ item.Packet 11 24 ∷ []

-- the lamp takes it
abbrev pub taken : List Item
taken = loaded ++ sent ++ item.Take 2 1 0 1 ∷ []

-- the whole run
abbrev pub shown : List Item
shown = taken ++ item.Out 2 1 ∷ item.Done 2 1 0 ∷ []

-- then the lamp's node is reset, and the lamp is loaded and vouches again
abbrev pub again : List Item
again = shown ++ item.Reset 1 cause.Asked ∷ item.Protect 1 (Some 2) ∷ item.Ask 2 3 ∷ item.Vouch 2 3
    ∷ item.Done 2 1 1 ∷ []

-- it is attested at the next boot, and both ends of its connection open in the next epoch
abbrev pub renewed : List Item
renewed = again ++ item.Attested 2 1 ∷ item.Open 2 1 To 1 ∷ item.Done 2 1 0 ∷ item.Open 1 1 From 1
    ∷ item.Done 1 1 0 ∷ []

-- a reading of 50 then puts the lamp out
abbrev pub dark : List Item
dark = renewed ++ item.Sense 0 50 ∷ item.Read 0 50 ∷ item.Done 0 1 1 ∷ item.Take 1 0 1 50
    ∷ item.Done 1 1 1 ∷ item.Take 2 1 65536 0 ∷ item.Out 2 0 ∷ item.Done 2 1 0 ∷ []
