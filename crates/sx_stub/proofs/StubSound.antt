-- The stub's operations are sound and plain.
use Rattle.std.proofs.Common.{◌≡◌, Bool, true, List, [], ◌∷◌, length, refl, arith}
use Rattle.std.specs.List.{list_all}
use Rattle.std.proofs.lemmas.Bool.{and_from, and_parts}
use Rattle.sx_lang.specs.Sizes.{module_data_size}
use Rattle.sx_ir.specs.declared.ir.Ir.{Ir}
use Rattle.sx_ir.specs.Sound.{is_sound_op}
use Rattle.sx_stub.specs.Stub.{stub_ops}
use Rattle.sx_stub.specs.Sound.{StubSound, is_plain}
use Rattle.sx_stub.proofs.Plain.{fit_plain, fit_sound, is_fit}
use Rattle.sx_stub.proofs.Fit.{stub_fit}

all_weaker : (P Q : Ir → Bool) → ((i : Ir) → P i ≡ true → Q i ≡ true) → (code : List Ir) → list_all P code ≡ true → list_all Q code ≡ true
all_weaker P Q f [] h = refl
all_weaker P Q f (i ∷ code) h = let b = and_parts (P i) (list_all P code) h in and_from _ _ (f i b.0) (all_weaker P Q f code b.1)

pub stub_sound : StubSound
stub_sound tree ends ops few links short =
    let n = length ends in
    let parts = length tree.handlers in
    let size = module_data_size tree n in
    let fit = stub_fit tree ends ops few links short in
    let sound = all_weaker (is_fit n ops parts) (is_sound_op ops parts size) (fit_sound n ops parts size few (omega arith)) (stub_ops tree ends) fit in
    (sound, all_weaker (is_fit n ops parts) is_plain (fit_plain n ops parts size few (omega arith)) (stub_ops tree ends) fit)
