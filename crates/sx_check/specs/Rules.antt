-- The ten rules of the language, each by when it is broken.
use Rattle.std.specs.Prelude.{Bool, ◌||◌, ◌&&◌, not, List, [], ◌∷◌, Option, nat_lt, count_by}
use Rattle.std.specs.Prelude.{length}
use Rattle.std.specs.List.{list_any, find}
use Rattle.sx_lang.specs.Sizes.{module_cost, module_nodes, declared_cells}
use Rattle.sx_lang.specs.Tree.{HandlerTree, ModuleTree}
use Rattle.sx_check.specs.declared.rules.Rule.{Rule}
use Rattle.sx_check.specs.declared.rules.Rule.TheVariants.{Duplicate, Unknown, Kind, Depth, Locals}
use Rattle.sx_check.specs.declared.rules.Rule.TheVariants.{Repeat, Packets, Cost, Nodes, Cells}
use Rattle.sx_check.specs.Names.{is_repeated, has_taken, is_handled_twice, is_sample, is_sensor}
use Rattle.sx_check.specs.Names.{is_actuator, locals}
use Rattle.sx_check.specs.Uses.{handlers_uses, is_unknown, is_misused}
use Rattle.sx_check.specs.Bounds.{block_height, inner_depth, block_counts, is_miscounted}
use Rattle.sx_check.specs.Bounds.{block_sends, block_emits, is_input, is_output, is_misfit}

-- a handler's body is in no other block
abbrev pub is_too_deep : HandlerTree → Bool
is_too_deep h = nat_lt 32 (block_height h.body) || nat_lt 15 (inner_depth h.body)

-- whether the module breaks this rule
unfoldable pub breaks : ModuleTree → Rule → Bool
-- a name is declared twice, taken by a local though it is in use, or handled twice; or two devices
-- are declared
breaks m Duplicate = list_any (is_repeated m.decls) m.decls
    || (list_any (has_taken m.decls) m.handlers || list_any (is_handled_twice m.handlers)
    m.handlers)
-- a name that is used is not declared, or not at that place
breaks m Unknown = list_any (is_unknown m.decls) (handlers_uses m.handlers)
-- a name is used as another kind; or the module samples without a sensor, or emits without an
-- actuator
breaks m Kind = list_any (is_misused m.decls) (handlers_uses m.handlers)
    || ((list_any is_sample m.handlers && not (list_any is_sensor m.decls))
    || (list_any (λ h. block_emits h.body) m.handlers && not (list_any is_actuator m.decls)))
-- an expression is too high or a block too deep
breaks m Depth = list_any is_too_deep m.handlers
-- a handler has more than 16 locals, its parameter among them
breaks m Locals = list_any (λ h. nat_lt 16 (length (locals h))) m.handlers
-- a count of a `repeat` is not 1 to 256
breaks m Repeat = list_any (λ h. list_any is_miscounted (block_counts h.body)) m.handlers
-- a handler can send more than 16 times
breaks m Packets = list_any (λ h. nat_lt 16 (block_sends h.body)) m.handlers
-- the cost is above 262,144
breaks m Cost = nat_lt 262144 (module_cost m)
-- there are more than 512 nodes, or more than 255 inputs or outputs
breaks m Nodes = nat_lt 512 (module_nodes m) ||
    (nat_lt 255 (count_by is_input m.decls) || nat_lt 255 (count_by is_output m.decls))
-- an array's length is not 1 to 1,024, or there are more than 1,024 cells
breaks m Cells = list_any is_misfit m.decls || nat_lt 1024 (declared_cells m.decls)

-- the rules in the order in which they are tried
abbrev pub rules : List Rule
rules = Duplicate ∷ Unknown ∷ Kind ∷ Depth ∷ Locals ∷ Repeat ∷ Packets ∷ Cost ∷ Nodes ∷ Cells ∷ []

-- the first of the rules that is broken
abbrev pub first_broken : ModuleTree → Option Rule
first_broken m = find (breaks m) rules
