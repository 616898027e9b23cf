use Rattle.std.proofs.Common.{◌∷◌, refl, arith}
use Rattle.sx_lang.specs.declared.tree.Decl.{Decl}
use Rattle.sx_lang.specs.declared.tree.DeviceKind.{DeviceKind}
use Rattle.sx_lex.specs.declared.tokens.Kind.TheVariants.{Sensor, Actuator, Input, Output, Var, Array}
use Rattle.spec_grammar.specs.Machine.{A_name, After_input, After_output, After_var, After_array}
use Rattle.sx_parse.specs.Wanted.{end_wanted}
use Rattle.sx_parse.proofs.Declarations.{started, shorter}
use Rattle.sx_parse.proofs.declaration.declaration.Goals as goal

pub returns-in-Sensor-clause-declares : goal.returns-in-Sensor-clause-declares
returns-in-Sensor-clause-declares c =
    started (end_wanted (Decl.Device DeviceKind.Sensor)) Sensor c.args.tokens.now c.in_ok-first.rest.now c.in_ok-first.first.now _ _ c.ended.result (λ r. r.now) (λ st vs. refl) c.in_ok-first.ensures.cases.0 c.in-Sensor.is c.ended.ensures.declares

pub returns-in-Sensor-clause-shorter : goal.returns-in-Sensor-clause-shorter
returns-in-Sensor-clause-shorter c =
    shorter c.ended.result (λ r. r.now) _ _ (omega (arith, c.in_ok-first.ensures.cases.1)) c.ended.ensures.shorter

pub returns-in-Actuator-clause-declares : goal.returns-in-Actuator-clause-declares
returns-in-Actuator-clause-declares c =
    started (end_wanted (Decl.Device DeviceKind.Actuator)) Actuator c.args.tokens.now c.in_ok-first.rest.now c.in_ok-first.first.now _ _ c.ended-in-Actuator.result (λ r. r.now) (λ st vs. refl) c.in_ok-first.ensures.cases.0 c.in-Actuator.is c.ended-in-Actuator.ensures.declares

pub returns-in-Actuator-clause-shorter : goal.returns-in-Actuator-clause-shorter
returns-in-Actuator-clause-shorter c =
    shorter c.ended-in-Actuator.result (λ r. r.now) _ _ (omega (arith, c.in_ok-first.ensures.cases.1)) c.ended-in-Actuator.ensures.shorter

pub returns-in-Input-clause-declares : goal.returns-in-Input-clause-declares
returns-in-Input-clause-declares c =
    started (λ st. A_name After_input ∷ st) Input c.args.tokens.now c.in_ok-first.rest.now c.in_ok-first.first.now _ _ c.input.result (λ r. r.now) (λ st vs. refl) c.in_ok-first.ensures.cases.0 c.in-Input.is c.input.ensures.declares

pub returns-in-Input-clause-shorter : goal.returns-in-Input-clause-shorter
returns-in-Input-clause-shorter c =
    shorter c.input.result (λ r. r.now) _ _ (omega (arith, c.in_ok-first.ensures.cases.1)) c.input.ensures.shorter

pub returns-in-Output-clause-declares : goal.returns-in-Output-clause-declares
returns-in-Output-clause-declares c =
    started (λ st. A_name After_output ∷ st) Output c.args.tokens.now c.in_ok-first.rest.now c.in_ok-first.first.now _ _ c.output.result (λ r. r.now) (λ st vs. refl) c.in_ok-first.ensures.cases.0 c.in-Output.is c.output.ensures.declares

pub returns-in-Output-clause-shorter : goal.returns-in-Output-clause-shorter
returns-in-Output-clause-shorter c =
    shorter c.output.result (λ r. r.now) _ _ (omega (arith, c.in_ok-first.ensures.cases.1)) c.output.ensures.shorter

pub returns-in-Var-clause-declares : goal.returns-in-Var-clause-declares
returns-in-Var-clause-declares c =
    started (λ st. A_name After_var ∷ st) Var c.args.tokens.now c.in_ok-first.rest.now c.in_ok-first.first.now _ _ c.variable.result (λ r. r.now) (λ st vs. refl) c.in_ok-first.ensures.cases.0 c.in-Var.is c.variable.ensures.declares

pub returns-in-Var-clause-shorter : goal.returns-in-Var-clause-shorter
returns-in-Var-clause-shorter c =
    shorter c.variable.result (λ r. r.now) _ _ (omega (arith, c.in_ok-first.ensures.cases.1)) c.variable.ensures.shorter

pub returns-in-Array-clause-declares : goal.returns-in-Array-clause-declares
returns-in-Array-clause-declares c =
    started (λ st. A_name After_array ∷ st) Array c.args.tokens.now c.in_ok-first.rest.now c.in_ok-first.first.now _ _ c.array.result (λ r. r.now) (λ st vs. refl) c.in_ok-first.ensures.cases.0 c.in-Array.is c.array.ensures.declares

pub returns-in-Array-clause-shorter : goal.returns-in-Array-clause-shorter
returns-in-Array-clause-shorter c =
    shorter c.array.result (λ r. r.now) _ _ (omega (arith, c.in_ok-first.ensures.cases.1)) c.array.ensures.shorter
