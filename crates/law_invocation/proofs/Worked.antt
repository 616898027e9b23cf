-- Worked cases: the premises of the laws can be met.
use Rattle.std.proofs.Common.{◌≡◌, ℕ, ◌≤◌, inl, inr, List, [], ◌∷◌, ◌++◌, refl, Some, None, replicate, subst, arith}
use Rattle.std.specs.Prelude.{true, false}
use Rattle.sx_lang.specs.declared.sides.Side.TheVariants.{To}
use Rattle.sx_lang.specs.declared.tree.Decl.TheVariants.{Input, Output}
use Rattle.sx_lang.specs.Tree.{Variable, Sends, Done, Then, HandlerTree, ModuleTree}
use Rattle.sx_mean.specs.Application.{AppTree}
use Rattle.sx_mean.specs.Validity.{is_valid, is_too_large, is_wrong, is_misplaced, is_crowded, is_overloaded, is_loose}
use Rattle.sx_mean.specs.Ends.{ends_of}
use Rattle.sx_rules.specs.declared.section.Section.{Section}
use Rattle.sx_tag.specs.Weak.{weak}
use Rattle.sx_tag.specs.Tags.{weak-is_tag}
use Rattle.sx_tag.specs.Wrap.{wrapped, crypt, wrap_tag}
use Rattle.spec_machine.specs.Memory.{bytes_from}
use Rattle.spec_invocation.specs.Setup.{Setup}
use Rattle.spec_invocation.specs.ModuleState.{EndState, ModuleState, initial_state}
use Rattle.spec_invocation.specs.Marks.{Wrapped, Unwrapped}
use Rattle.spec_invocation.specs.Acts.{event_packet}
use Rattle.law_invocation.specs.Effect.{MakesFew}
use Rattle.law_invocation.specs.Gives.{InvocationGives, IsLowFree, beginning, low_end}
use Rattle.law_invocation.proofs.Few.{few_made}
use Rattle.law_invocation.proofs.Attest.{attest_returns}
use Rattle.law_invocation.proofs.Inputs.{input_returns}

own : Section
own = record { layout = record { pub_from = 4000; pub_to = 8000; priv_from = 1000; priv_to = 1560 }; provider = 7; id = 1; key = replicate 16 3 }

-- input a; output b; on a(v) { send b(v); }
abbrev handler : HandlerTree
handler = record { input = Some (97 ∷ []); param = 118 ∷ []; body = Then (Sends (98 ∷ []) (Variable (118 ∷ []))) Done }

abbrev tree : ModuleTree
tree = record { decls = Input (97 ∷ []) ∷ Output (98 ∷ []) ∷ []; handlers = handler ∷ [] }

-- two such modules in a ring
abbrev app : AppTree
app = record {
  nodes = 1;
  devices = [];
  parts = record { node = 0; device = None; tree = tree } ∷ record { node = 0; device = None; tree = tree } ∷ [];
  links = record { from = 1; output = 0; to = 0; input = 0 } ∷ record { from = 0; output = 0; to = 1; input = 0 } ∷ [];
}

app_valid : is_valid app ≡ true
unfolding is_valid is_too_large is_wrong is_misplaced is_crowded is_overloaded is_loose
app_valid = refl

abbrev setup : Setup
setup = record { mac = weak; section = own; live = own ∷ []; tree = tree; ends = ends_of app 0 }

few : MakesFew tree (ends_of app 0)
few = few_made app 0 (record { node = 0; device = None; tree = tree }) app_valid refl

low : IsLowFree setup []
unfolding own
low = record {
  lives = inl refl;
  sections = λ x l. elim l [ inl e ↦ subst (λ (z : Section). (low_end ≤ z.layout.pub_from) × (low_end ≤ z.layout.priv_from)) e (omega arith, omega arith) | inr b ↦ absurd b ];
  free = λ at lt. refl;
}

abbrev ask : List ℕ
ask = 2 ∷ 0 ∷ replicate 16 4

attested : InvocationGives setup 1 (beginning (initial_state tree setup.ends) (replicate 64 0 ++ ask) []) (initial_state tree setup.ends) []
    (Wrapped ask [] true ∷ []) ((wrapped weak own.key ask []).tag ∷ [])
unfolding bytes_from
attested = attest_returns setup (initial_state tree setup.ends) (replicate 64 0 ++ ask) [] ask low refl refl

-- both ends open
abbrev taking : EndState
taking = record { is_open = true; field = 0; number = 2; key = replicate 16 9 }

abbrev sending : EndState
sending = record { is_open = true; field = 1; number = 7; key = replicate 16 8 }

abbrev stands : ModuleState
stands = record { cells = []; ends = taking ∷ sending ∷ [] }

abbrev packet : List ℕ
packet = event_packet setup (record taking { number = 3 }) 5

-- number 3 with the value 5 is taken, and number 7 with the value 5 is sent on
took : InvocationGives setup 2 (beginning stands (replicate 64 0 ++ packet) []) (record { cells = []; ends = record taking { number = 4 } ∷ record sending { number = 8 } ∷ [] }) []
    (Unwrapped (3 ∷ 0 ∷ 0 ∷ 0 ∷ 3 ∷ 0 ∷ []) (5 ∷ 0 ∷ []) false ∷ Wrapped (3 ∷ 0 ∷ 1 ∷ 0 ∷ 7 ∷ 0 ∷ []) (5 ∷ 0 ∷ []) false ∷ []) (event_packet setup sending 5 ∷ [])
unfolding bytes_from crypt wrap_tag weak own
took = input_returns setup stands (replicate 64 0 ++ packet) [] 0 3 5 (record { link = 0; side = To; port = 0 }) low weak-is_tag few refl refl (omega arith) (omega arith) refl
