-- Answers that a failed read ends, and answers that the end of the input does.
use Rattle.std.proofs.Common.{ℕ, Bool, true, false, List, [], ◌∷◌, ◌++◌, length}
use Rattle.std.specs.Prelude.{◌==◌, if◌then◌else◌}
use Rattle.sx_io.specs.Reading.{Ended, Broken, Answer, Line, End, Long, Fault, Limit, behind_line, scan, newline, without_return}

pub pick : {X : Type 0} (b : Bool) (x y : X) (P : X → Type 0) → P x → P y → P (if b then x else y)
pick true x y P p q = p
pick false x y P p q = q

-- no end of the input is among the answers before the last
abbrev pub Unfinished : List Answer → Type 0
Unfinished [] = ⊥
Unfinished (End ∷ more) = ⊥
Unfinished (Long ∷ more) = Unit {0}
Unfinished (Fault ∷ more) = Unit {0}
Unfinished (Line text ∷ more) = Unfinished more

pub unfinished : (limit : Limit) (begun bytes : List ℕ) → Unfinished (scan limit Broken begun bytes)
unfinished limit [] [] = tt
unfinished limit (a ∷ begun) [] = tt
unfinished limit begun (b ∷ bytes) =
    pick (b == newline) _ _ Unfinished (unfinished (behind_line (without_return begun) limit) [] bytes)
    (pick (length begun == limit []) _ _ Unfinished tt (unfinished limit (begun ++ b ∷ []) bytes))

-- no read that failed is among them
abbrev pub Faultless : List Answer → Type 0
Faultless [] = Unit {0}
Faultless (End ∷ more) = Unit {0}
Faultless (Long ∷ more) = Unit {0}
Faultless (Fault ∷ more) = ⊥
Faultless (Line text ∷ more) = Faultless more

pub faultless : (limit : Limit) (begun bytes : List ℕ) → Faultless (scan limit Ended begun bytes)
faultless limit [] [] = tt
faultless limit (a ∷ begun) [] = tt
faultless limit begun (b ∷ bytes) =
    pick (b == newline) _ _ Faultless (faultless (behind_line (without_return begun) limit) [] bytes)
    (pick (length begun == limit []) _ _ Faultless tt (faultless limit (begun ++ b ∷ []) bytes))
