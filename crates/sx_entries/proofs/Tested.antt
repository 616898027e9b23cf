-- What holds where no entry breaks a line, and where every entry was made.
use Rattle.std.proofs.Common.{◌≡◌, ℕ, Bool, true, false, List, [], ◌∷◌, ◌++◌, Option, Some, None, option_map}
use Rattle.std.proofs.Common.{Result, Ok, refl, subst}
use Rattle.sx_entries.specs.Stage.{made_after}
use Rattle.sx_entries.specs.Lines.{first_bad, entries, whole, first_of}
use Rattle.sx_entries.specs.declared.fault.Sort.{Sort}
use Rattle.sx_entries.specs.declared.fault.DeployFault.{DeployFault}
use Rattle.sx_entries.proofs.Each.{bind-Ok}

-- each line has no fault
abbrev pub AreClear : List (Option DeployFault) → Type 0
AreClear [] = Unit {0}
AreClear (o ∷ more) = (o ≡ None) × AreClear more

pub clear : (lines : List (Option DeployFault)) → first_of lines ≡ None → AreClear lines
clear [] h = tt
clear (None ∷ more) h = (refl, clear more h)
clear (Some f ∷ more) h = absurd (cc)

map-None : {A B : Type 0} (f : A → B) (o : Option A) → option_map f o ≡ None → o ≡ None
map-None f None h = refl
map-None f (Some x) h = absurd (cc)

pub entries-None : {A : Type 0} (rule : ℕ) (sort : Sort) (bad : List A → A → Bool) (xs : List A) → entries rule sort bad xs ≡ None → first_bad bad [] xs ≡ None
entries-None rule sort bad xs h = map-None _ _ h

pub whole-None : (rule : ℕ) (sort : Sort) (b : Bool) → whole rule sort b ≡ None → b ≡ false
whole-None rule sort true h = absurd (cc)
whole-None rule sort false h = refl

-- what each turn keeps holds of what is made
module _ {A B : Type 0} (P : List B → Type 0) (make : List B → A → Result B DeployFault) (keeps : (done : List B) (row : A) (b : B) → P done → make done row ≡ Ok b → P (done ++ b ∷ [])) where
  pub made-keeps : (done : List B) (rows : List A) (out : List B) → P done → made_after make done rows ≡ Ok out → P out
  made-keeps done [] out p h = let same : done ≡ out = cc in subst P same p
  made-keeps done (row ∷ rows) out p h =
      let made = bind-Ok (make done row) (λ b. made_after make (done ++ b ∷ []) rows) out h in
      made-keeps (done ++ made.0 ∷ []) rows out (keeps done row made.0 p made.1) made.2
