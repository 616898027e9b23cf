-- What holds of compiled modules. Each law is as the contract of a function in src/laws.rt.
use Rattle.std.specs.Prelude.{◌≡◌, ℕ, ◌+◌, ◌<◌, ◌≤◌, List, [], length, replicate, All}
use Rattle.sx_lang.specs.Sizes.{module_cost}
use Rattle.sx_lang.specs.Tree.{ModuleTree}
use Rattle.sx_lang.specs.Words.{TreeHasWords}
use Rattle.sx_mean.specs.declared.events.End.{End}
use Rattle.sx_rules.specs.declared.section.Layout.{Layout}
use Rattle.sx_rules.specs.declared.section.Section.{Section}
use Rattle.sx_tag.specs.Mac.{Mac, IsTag}
use Rattle.spec_invocation.specs.Invocation.{invoke}
use Rattle.spec_invocation.specs.ModuleState.{initial_state, state_of}
use Rattle.spec_invocation.specs.Progress.{Progress, pieces_in}
use Rattle.spec_invocation.specs.Setup.{Call, Setup}
use Rattle.spec_machine.specs.State.{State}
use Rattle.sx_image.specs.Image.{Enters, Image, call_at, progress_at, setup_at}
use Rattle.sx_image.specs.Realizes.{Aborted, Exited, Realizes, begins}
use Rattle.sx_ir.specs.declared.ir.Code.{Code}
use Rattle.sx_lower.specs.Lowering.{IsLowerable}
use Rattle.sx_tmpl.specs.Performs.{NodeRuns}
use Rattle.sx_compile.specs.Compiled.{HasSections, IsCompiled, compiled_image}

-- an invocation of a module makes at most 16 pieces
abbrev pub FewPieces : Type 0
FewPieces =
    (s : Setup) (call : Call) (p : Progress) → IsLowerable s.tree s.ends → p.pieces ≡ []
    → length (pieces_in (invoke s call p)) ≤ 16

-- a private section of zeros represents the initial state
abbrev pub ZerosInitial : Type 0
ZerosInitial =
    (tree : ModuleTree) (ends : List End) (n : ℕ) → TreeHasWords tree
    → state_of tree ends (replicate n 0) ≡ initial_state tree ends

-- The image of a module realizes it: for every lawful tag, wherever the module's sections are,
-- and for every provider. `code` is the module's code as memory has it, which the text is made of.
abbrev pub CompiledRealizes : Type 0
CompiledRealizes =
    (mac : Mac) (tree : ModuleTree) (ends : List End) (l : Layout) (provider : ℕ) (code : Code)
    → IsTag mac → IsLowerable tree ends → All (λ e. e.link < 256) ends → HasSections tree ends l
    → IsCompiled tree ends code → Realizes mac tree ends (compiled_image l provider tree ends)

-- From every state that enters the module the node does the invocation, and no step until its end
-- shows a key of the module's ends.
pub record ShowsNoKey (mac : Mac) (tree : ModuleTree) (ends : List End) (image : Image) : Type 0
  where
    pub runs : (section : Section) (n : State) → Enters tree image section n
        → (let s = setup_at mac tree ends section n in
        let result = invoke s (call_at n) (progress_at s n) in
        NodeRuns s result n (Aborted result) (Exited s result n) (4096 + module_cost tree)
        (begins n))

-- The image of a module shows no key.
abbrev pub CompiledShowsNoKey : Type 0
CompiledShowsNoKey =
    (mac : Mac) (tree : ModuleTree) (ends : List End) (l : Layout) (provider : ℕ) (code : Code)
    → IsTag mac → IsLowerable tree ends → All (λ e. e.link < 256) ends → HasSections tree ends l
    → IsCompiled tree ends code → ShowsNoKey mac tree ends (compiled_image l provider tree ends)
