-- What it means that lowered code does what the source does.
use Rattle.std.specs.Prelude.{◌≡◌, ℕ, ◌+◌, ◌*◌, ◌<◌, ◌≤◌, List, [], ◌∷◌, ◌++◌, length, true, Some}
use Rattle.std.specs.Prelude.{None, slice_get}
use Rattle.std.specs.List.{list_all}
use Rattle.sx_lang.specs.declared.sides.Side.TheVariants.{From}
use Rattle.sx_lang.specs.Tree.{HandlerTree, ModuleTree}
use Rattle.sx_lang.specs.Sizes.{handler_cost, module_nodes, module_data_size}
use Rattle.sx_check.specs.Rules.{first_broken}
use Rattle.sx_mean.specs.declared.events.End.{End}
use Rattle.sx_mean.specs.declared.events.SourceEvent.{SourceEvent}
use Rattle.sx_mean.specs.Application.{block_packets}
use Rattle.sx_mean.specs.React.{handler_at}
use Rattle.spec_invocation.specs.Setup.{Setup}
use Rattle.sx_ir.specs.declared.ir.Code.{Code}
use Rattle.sx_ir.specs.declared.ir.Ir.{Ir}
use Rattle.sx_ir.specs.declared.ir.Ir.TheVariants as ir
use Rattle.sx_ir.specs.Sound.{is_sound_op, is_sound_part}
use Rattle.sx_ir.specs.Conf.{Conf}
use Rattle.sx_ir.specs.Meaning.{OperationResult}
use Rattle.sx_ir.specs.Invoking.{PartDoes}
use Rattle.sx_ir.specs.Sizes.{ops_bytes}
use Rattle.sx_mean.specs.EndLaws.{senders}
use Rattle.sx_lower.specs.Lowered.{handlers_code, handlers_parts, IsLowered}
use Rattle.sx_lang.specs.Words.{TreeHasWords}

-- no handler makes more than 16 packets
abbrev pub SendFew : (ℕ → ℕ) → ModuleTree → List HandlerTree → Type 0
SendFew links m [] = Unit {0}
SendFew links m (h ∷ hs) = (block_packets links m.decls h.body ≤ 16) × SendFew links m hs

-- a checked module with this many ends
pub record IsLowerable (m : ModuleTree) (ends : List End) : Type 0 where
  pub checked : first_broken m ≡ None
  pub words : TreeHasWords m
  pub few_ends : length ends ≤ 16
  pub few_packets : SendFew (senders ends) m m.handlers

-- the end at this index sends
abbrev pub IsSender : List End → ℕ → Type 0
IsSender ends k = (e : End) × (slice_get ends k ≡ Some e) × (e.side ≡ From)

-- an operation of a handler's part: it is none of the entry protocol, and a packet is of a sending
-- end
abbrev pub IsHandlerOp : List End → Ir → Type 0
IsHandlerOp ends (ir.Push v) = Unit {0}
IsHandlerOp ends (ir.Load o) = Unit {0}
IsHandlerOp ends (ir.Store o) = Unit {0}
IsHandlerOp ends (ir.LoadAt o n) = Unit {0}
IsHandlerOp ends (ir.StoreAt o n) = Unit {0}
IsHandlerOp ends (ir.Op f) = Unit {0}
IsHandlerOp ends (ir.Jump p) = Unit {0}
IsHandlerOp ends (ir.JumpZero p) = Unit {0}
IsHandlerOp ends (ir.Packet k) = IsSender ends k
IsHandlerOp ends ir.Drop = Unit {0}
IsHandlerOp ends ir.Emit = Unit {0}
IsHandlerOp ends ir.Stop = Unit {0}
IsHandlerOp ends i = ⊥

-- all operations are those of handlers' parts
abbrev pub AreHandlerOps : List End → List Ir → Type 0
AreHandlerOps ends [] = Unit {0}
AreHandlerOps ends (i ∷ ops) = IsHandlerOp ends i × AreHandlerOps ends ops

-- Code of a module's handlers, in code with this many operations and parts: it is sound, has
-- handlers' operations alone, and takes bytes for the module's nodes alone.
pub record CodeFits (m : ModuleTree) (ends : List End) (ops parts : ℕ) (code : List Ir) : Type
    0 where
  pub sound : list_all (is_sound_op ops parts (module_data_size m (length ends))) code ≡ true
  pub plain : AreHandlerOps ends code
  pub light : ops_bytes code ≤ 64 * module_nodes m

-- What the code of a module and the places of its parts are to be: few operations, which fit; and
-- one part for each handler, which does the handler within its cost. What `Handler` does is left
-- open.
pub record Lowers (m : ModuleTree) (ends : List End) (ops : List Ir) (listed : List (ℕ × ℕ)) : Type
    0 where
  pub short : length ops < 65536
  pub fits : CodeFits m ends (length ops) (length listed) ops
  pub there : list_all (is_sound_part (length ops)) listed ≡ true
  pub parts : length listed ≡ length m.handlers
  pub reacts : (s : Setup) (handle : ℕ → Conf → OperationResult) (given : ℕ
      → ℕ) (e : SourceEvent) (h : HandlerTree) (k from to : ℕ) → s.tree ≡ m → s.ends ≡ ends
      → handler_at m e ≡ Some h → slice_get m.handlers k ≡ Some h
      → slice_get listed k ≡ Some (from, to) → PartDoes s handle given ops from e (handler_cost h)

-- the code of a module
pub record LowersTo (m : ModuleTree) (ends : List End) (code : Code) : Type 0 where
  pub does : Lowers m ends code.ops.items code.parts.items
  pub is : IsLowered m ends code.ops.items code.parts.items

-- Handlers' code fits wherever it is.
abbrev pub LoweredFits : Type 0
LoweredFits = (m : ModuleTree) (ends : List End) (place ops parts : ℕ) → IsLowerable m ends
    → let code = handlers_code m.decls ends place m.handlers in
    place + length code ≤ ops → CodeFits m ends ops parts code

-- After and before any other code, the part of an event's handler does the handler, within its
-- cost.
abbrev pub LoweredReacts : Type 0
LoweredReacts = (s : Setup) (handle : ℕ → Conf → OperationResult) (given : ℕ
    → ℕ) (before after : List Ir) (e : SourceEvent) (h : HandlerTree) (k from to : ℕ)
    → IsLowerable s.tree s.ends → handler_at s.tree e ≡ Some h
    → slice_get s.tree.handlers k ≡ Some h
    → slice_get (handlers_parts s.tree.decls s.ends (length before) s.tree.handlers) k
    ≡ Some (from, to)
    → PartDoes s handle given (before ++ (handlers_code s.tree.decls s.ends (length before)
    s.tree.handlers ++ after)) from e (handler_cost h)
