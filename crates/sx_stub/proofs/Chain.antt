-- Cases, one for each end.
use Rattle.std.proofs.Common.{◌≡◌, ℕ, ◌+◌, ◌-◌, ◌*◌, ◌≤◌, Bool, true, false, ◌&&◌, ◌==◌, List, [], ◌∷◌, ◌++◌, length, Option, Some, None, refl, ap, ◌∙◌, subst, arith}
use Rattle.std.specs.Prelude.{if◌then◌else◌}
use Rattle.std.proofs.lemmas.List.{length-append}
use Rattle.sx_mean.specs.declared.events.End.{End}
use Rattle.spec_machine.specs.Memory.{word}
use Rattle.spec_invocation.specs.Setup.{Setup, Call}
use Rattle.spec_invocation.specs.Progress.{Invoked}
use Rattle.sx_ir.specs.Conf.{Conf}
use Rattle.sx_ir.specs.Meaning.{OperationResult, is_shown}
use Rattle.sx_ir.specs.declared.ir.Ir.{Ir}
use Rattle.sx_ir.specs.declared.ir.Ir.TheVariants as ir
use Rattle.sx_stub.specs.Stub.{Cases, cases}
use Rattle.sx_stub.specs.Invokes.{Invokes}
use Rattle.sx_stub.proofs.Straight.{At, at, at_front, at_back}
use Rattle.sx_stub.proofs.Refuse.{compares, goes_on, within}

-- the first end that passes, with its place
abbrev pub found_by : (ℕ → End → Bool) → ℕ → List End → Option (ℕ × End)
found_by test k [] = None
found_by test k (e ∷ es) = if test k e then Some (k, e) else found_by test (k + 1) es

abbrev pub case_test : Cases → ℕ → ℕ → End → Bool
case_test cs v k e = cs.has e && (v == cs.number k e)

abbrev case_if : Cases → Bool → ℕ → ℕ → End → List Ir
case_if cs b place k e =
    let body = cs.body (place + 2) k e in
    if b then ir.JumpEqual cs.offset (cs.number k e) (place + 2) ∷ ir.Jump (place + 2 + length body) ∷ body else []

module _ (s : Setup) (call : Call) (handle : ℕ → Conf → OperationResult) (given : ℕ
    → ℕ) (code : List Ir) (result : Invoked) (cs : Cases) (v : ℕ) (c : Conf) (here : word c.priv cs.offset ≡ v)
    (shown : is_shown (length s.ends) cs.offset 2 ≡ true) where
  abbrev Goal : ℕ → ℕ → Type 0
  Goal n p = Invokes s call handle given code result n (at c p [])

  -- one case
  case_does : (b : Bool) (k : ℕ) (e : End) (more : ℕ → List Ir) (p n m : ℕ)
      → At code p (case_if cs b p k e ++ more (p + length (case_if cs b p k e))) → 40 + m ≤ n
      → ((b && (v == cs.number k e)) ≡ true → At code (p + 2) (cs.body (p + 2) k e) → Goal m (p + 2))
      → ((b && (v == cs.number k e)) ≡ false → Goal m (p + length (case_if cs b p k e)))
      → Goal n p
  case_does false k e more p n m a le hit miss =
      let r = miss refl in
      within s call handle given code result n m (at c p []) (omega (arith, le)) (subst (λ (x : ℕ). Goal m x) (omega arith) r)
  case_does true k e more p n m a le hit miss =
      let body = cs.body (p + 2) k e in
      jumps (v == cs.number k e) refl (subst (λ (x : ℕ). At code x body) (omega arith) (at_front code (p + 1 + 1) body _ a.1.1))
    where
      jumps : (b : Bool) → (v == cs.number k e) ≡ b → At code (p + 2) (cs.body (p + 2) k e) → Goal n p
      jumps true z a2 =
          compares s call handle given code result true cs.offset (cs.number k e) (p + 2) c p n m a.0 shown (ap (λ (x : ℕ). x == cs.number k e) here ∙ z) (omega (arith, le)) (hit z a2)
      jumps false z a2 =
          let over = p + 2 + length (cs.body (p + 2) k e) in
          compares s call handle given code result false cs.offset (cs.number k e) (p + 2) c p n (8 + m) a.0 shown (ap (λ (x : ℕ). x == cs.number k e) here ∙ z) (omega (arith, le))
          (goes_on s call handle given code result (ir.Jump over) (at c (p + 1) []) (at c over []) (8 + m) m a.1.0 refl refl (omega arith)
          (subst (λ (x : ℕ). Goal m x) (omega arith) (miss z)))

  -- all of them: the body of the first end that passes, or what is after them all
  pub chain_does : (es : List End) (k p q n m : ℕ) → At code p (cases cs p k es)
      → p + length (cases cs p k es) ≡ q → 40 * length es + m ≤ n
      → ((j : ℕ) (e : End) (place : ℕ) → found_by (case_test cs v) k es ≡ Some (j, e) → At code place (cs.body place j e) → Goal m place)
      → (found_by (case_test cs v) k es ≡ None → Goal m q)
      → Goal n p
  chain_does [] k p q n m a f le hit miss =
      within s call handle given code result n m (at c p []) (omega (arith, le)) (subst (λ (x : ℕ). Goal m x) (omega (arith, f)) (miss refl))
  chain_does (e ∷ es) k p q n m a f le hit miss =
      let first = case_if cs (cs.has e) p k e in
      let rest = at_back code p (p + length first) first (cases cs (p + length first) (k + 1) es) refl a in
      let len = length-append first (cases cs (p + length first) (k + 1) es) in
      case_does (cs.has e) k e (λ x. cases cs x (k + 1) es) p n (40 * length es + m) a (omega (arith, le))
      (λ t a2. within s call handle given code result (40 * length es + m) m (at c (p + 2) []) (omega arith) (hit k e (p + 2) (rw t refl) a2))
      (λ t. chain_does es (k + 1) (p + length first) q (40 * length es + m) m rest (omega (arith, f, len)) (omega arith)
      (λ j e2 place found a2. hit j e2 place (rw t found) a2) (λ none. miss (rw t none)))
