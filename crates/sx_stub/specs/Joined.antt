-- Joined code: the stub's operations, and then the parts of the handlers.
use Rattle.std.specs.Prelude.{◌≡◌, ℕ, ◌+◌, List, [], slice_get, Some}
use Rattle.sx_mean.specs.declared.events.SourceEvent.{SourceEvent}
use Rattle.sx_mean.specs.Handlers.{number_of}
use Rattle.spec_invocation.specs.Setup.{Setup, Call}
use Rattle.spec_invocation.specs.Progress.{Progress}
use Rattle.spec_invocation.specs.Invocation.{invoke}
use Rattle.sx_ir.specs.declared.ir.Ir.{Ir}
use Rattle.sx_ir.specs.Conf.{Conf}
use Rattle.sx_ir.specs.Meaning.{part_from, no_count}
use Rattle.sx_ir.specs.Invoking.{PartDoes}
use Rattle.sx_stub.specs.Stub.{stub_code}
use Rattle.sx_stub.specs.Invokes.{CallBegun, Invokes, StartsWith, stub_count}

-- the first place of a handler's part
abbrev pub begins_at : List (ℕ × ℕ) → ℕ → ℕ → Type 0
begins_at parts h place = (end : ℕ) × (slice_get parts h ≡ Some (place, end))

-- each handler has a part in the code, which does the handler of its event within this count
abbrev pub PartsDo : Setup → List Ir → List (ℕ × ℕ) → ℕ → Type 0
PartsDo s code parts n =
    (e : SourceEvent) (h : ℕ) → number_of s.tree e ≡ Some h
    → (place : ℕ) × begins_at parts h place × PartDoes s (part_from parts) no_count code place e n

-- Joined code does an invocation, where each handler's part does the handler of its event.
abbrev pub JoinedInvokes : Type 0
JoinedInvokes =
    (s : Setup) (call : Call) (p : Progress) (code : List Ir) (parts : List (ℕ × ℕ)) (c : Conf)
    (cost : ℕ)
    → CallBegun s call p c → c.place ≡ 0 → c.stack ≡ []
    → StartsWith code (stub_code s.tree s.ends) → PartsDo s code parts cost
    → Invokes s call (part_from parts) no_count code (invoke s call p) (stub_count + 16 + cost) c
