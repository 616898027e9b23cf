-- A return with a status, and a test that leads to one.
use Rattle.std.proofs.Common.{◌≡◌, ℕ, zero, suc, ◌+◌, ◌-◌, ◌%◌, ◌<◌, ◌≤◌, ◌≢◌, ◌⊎◌, inl, inr, Bool, true, false, not, ◌&&◌, ◌||◌, ◌==◌, List, [], ◌∷◌, length, Some, refl, sym, ap, ◌∙◌, subst, arith}
use Rattle.std.specs.Prelude.{slice_get, if◌then◌else◌}
use Rattle.std.proofs.lemmas.Bool.{true≢false, eqb-true}
use Rattle.std.proofs.lemmas.Bool.Decides.{eqb_tells}
use Rattle.sx_rules.specs.declared.access.Violation.{Violation}
use Rattle.sx_image.specs.Reach.{Goes, Stops, Here}
use Rattle.spec_invocation.specs.Marks.{Mark}
use Rattle.spec_invocation.specs.Protocol.{other_kind}
use Rattle.spec_machine.specs.Memory.{word}
use Rattle.spec_invocation.specs.Setup.{Setup, Call}
use Rattle.spec_invocation.specs.Progress.{Progress, Invoked, Returns}
use Rattle.sx_ir.specs.Conf.{Conf, Violates}
use Rattle.sx_ir.specs.Counts.{count_of}
use Rattle.sx_ir.specs.Meaning.{OperationResult, do_at, do_op, handler_count, is_shown, when}
use Rattle.sx_ir.specs.declared.ir.Ir.{Ir}
use Rattle.sx_ir.specs.declared.ir.Ir.TheVariants as ir
use Rattle.sx_stub.specs.Stub.{refuse_if, refuse_kind, refuse_unless, returns}
use Rattle.sx_stub.specs.Invokes.{ShowsCall, EndsSo, LeavesSo, Invokes}
use Rattle.sx_stub.proofs.Straight.{At, at, at_front, at_back, pure, counts, goes, halts, runs, wider}
use Rattle.sx_stub.proofs.Slots.{shows_at}
use Rattle.lemmas.specs.Truth.{truth}

-- A code does what is left of an invocation whose result is known: `Invokes` at each configuration on the way.
module _ (s : Setup) (call : Call) (handle : ℕ → Conf → OperationResult) (given : ℕ → ℕ) (code : List Ir) where
  abbrev Goal : Invoked → ℕ → Conf → Type 0
  Goal result n c = Invokes s call handle given code result n c

  -- within a greater count
  pub within : (r : Invoked) (n m : ℕ) (c : Conf) → m ≤ n → Goal r m c → Goal r n c
  within r n m c = wider s handle given code (EndsSo r) (LeavesSo s call code r) n m c

  -- by one operation that goes on
  pub goes_on : (r : Invoked) (i : Ir) (c t : Conf) (n m : ℕ) → slice_get code c.place ≡ Some i
      → do_at s handle (Some i) c ≡ Goes t
      → handler_count given i ≡ 0 → count_of i + m ≤ n → Goal r m t → Goal r n c
  goes_on r = goes s handle given code (EndsSo r) (LeavesSo s call code r)

  -- by one that ends in its violation
  pub breaks : (r : Invoked) (i : Ir) (c : Conf) (v : Violation) (marks : List Mark) (n : ℕ)
      → slice_get code c.place ≡ Some i
      → do_at s handle (Some i) c ≡ Stops (Violates v marks) → handler_count given i ≡ 0 → count_of i ≤ n → EndsSo r v marks
      → Goal r n c
  breaks r = halts s handle given code (EndsSo r) (LeavesSo s call code r)

  -- by operations that work on the stack alone, and what follows them
  pub runs_on : (r : Invoked) (ops : List Ir) (c : Conf) (p q : ℕ) (stack st : List ℕ) (n m : ℕ) → At code p ops
      → pure s c.priv ops stack ≡ Some st → p + length ops ≡ q → counts ops + m ≤ n → Goal r m (at c q st)
      → Goal r n (at c p stack)
  runs_on r = runs s handle given code (EndsSo r) (LeavesSo s call code r)

  -- the end
  pub returned : (status count : ℕ) (p : Progress) (c : Conf) (q n : ℕ) → slice_get code q ≡ Some ir.Leave
      → ShowsCall s call p c
      → count ≡ length p.pieces → Goal (Returns status p) n (at c q (count ∷ status ∷ []))
  returned status count p c q n leave h e =
      Here (shows_at s call p c q (count ∷ status ∷ []) h, record { rest = []; at = leave; stack = ap (λ (x : ℕ). x ∷ status ∷ []) e })

  pub returns_does : (status : ℕ) (p : Progress) (c : Conf) (q n : ℕ) → At code q (returns status) → ShowsCall s call p c
      → p.pieces ≡ [] → 16 ≤ n → Goal (Returns status p) n (at c q [])
  returns_does status p c q n a h none le =
      let front = ir.Push status ∷ ir.Push 0 ∷ [] in
      runs_on (Returns status p) front c q (q + 1 + 1) [] (0 ∷ status ∷ []) n 0 (at_front code q front (ir.Leave ∷ []) a) refl (omega arith) (omega (arith, le))
      (returned status 0 p c (q + 1 + 1) 0 a.1.1.0 h (ap length (sym none)))

  -- a test, and what is done where it holds not
  pub refuse_zero : (b : Bool) (test : List Ir) (status v : ℕ) (c : Conf) (p q n m : ℕ) (stack : List ℕ) (result : Invoked) (progress : Progress)
      → At code p (refuse_if p test status) → pure s c.priv test stack ≡ Some (v ∷ []) → (v == 0) ≡ not b
      → ShowsCall s call progress c → progress.pieces ≡ [] → p + length test + 4 ≡ q → counts test + 24 + m ≤ n
      → (b ≡ false → Goal result m (at c q [])) → Goal (if b then Returns status progress else result) n (at c p stack)
  refuse_zero b test status v c p q n m stack result progress a e t h none f le r =
      let over = ir.JumpZero (p + length test + 4) in
      let back = at_back code p (p + length test) test (over ∷ returns status) refl a in
      let R = if b then Returns status progress else result in
      runs_on R test c p (p + length test) stack (v ∷ []) n (24 + m) (at_front code p test (over ∷ returns status) a) e refl (omega (arith, le))
      (go b v t back r)
    where
      go : (b : Bool) (v : ℕ) → (v == 0) ≡ not b
          → At code (p + length test) (ir.JumpZero (p + length test + 4) ∷ returns status)
          → (b ≡ false → Goal result m (at c q []))
          → Goal (if b then Returns status progress else result) (24 + m) (at c (p + length test) (v ∷ []))
      go true zero t back r = absurd (true≢false t)
      go true (suc v) t back r =
          goes_on (Returns status progress) (ir.JumpZero (p + length test + 4)) (at c (p + length test) (suc v ∷ [])) (at c (p + length test + 1) []) (24 + m) 16 back.0 refl refl (omega arith)
          (returns_does status progress c (p + length test + 1) 16 back.1 h none (omega arith))
      go false (suc v) t back r = let e = eqb-true (suc v) 0 t in absurd (omega (arith, e))
      go false zero t back r =
          goes_on result (ir.JumpZero (p + length test + 4)) (at c (p + length test) (0 ∷ [])) (at c (p + length test + 4) []) (24 + m) m back.0 refl refl (omega arith)
          (subst (λ (x : ℕ). Goal result m (at c x [])) (sym f) (r refl))

  -- a word that holds no key is compared
  pub compares : (r : Invoked) (b : Bool) (o w q : ℕ) (c : Conf) (p n m : ℕ) → slice_get code p ≡ Some (ir.JumpEqual o w q) → is_shown (length s.ends) o 2 ≡ true
      → (word c.priv o == w) ≡ b → 8 + m ≤ n → Goal r m (at c (if b then q else p + 1) []) → Goal r n (at c p [])
  compares r b o w q c p n m here shown e le rest =
      goes_on r (ir.JumpEqual o w q) (at c p []) (at c (if b then q else p + 1) []) n m here
      (ap (λ (x : Bool). when (true && x) (do_op s handle (ir.JumpEqual o w q) (at c p []))) shown ∙ ap (λ (x : Bool). Goes (at c (if x then q else p + 1) [])) e) refl le rest

  -- a packet's kind is tried
  pub kind_does : (b : Bool) (kind : ℕ) (c : Conf) (p q n m : ℕ) (result : Invoked) (progress : Progress) → At code p (refuse_kind p kind)
      → (word c.priv 16 == kind) ≡ not b → ShowsCall s call progress c → progress.pieces ≡ [] → p + 4 ≡ q → 24 + m ≤ n
      → (b ≡ false → Goal result m (at c q [])) → Goal (if b then Returns other_kind progress else result) n (at c p [])
  kind_does true kind c p q n m result progress a e h none f le r =
      compares (Returns other_kind progress) false 16 kind (p + 4) c p n 16 a.0 refl e (omega (arith, le)) (returns_does other_kind progress c (p + 1) 16 a.1 h none (omega arith))
  kind_does false kind c p q n m result progress a e h none f le r =
      compares result true 16 kind (p + 4) c p n m a.0 refl e (omega (arith, le)) (subst (λ (x : ℕ). Goal result m (at c x [])) (sym f) (r refl))

  -- a test that leaves 0 where it holds, and what is done where it holds not
  pub unless_does : (b : Bool) (test : List Ir) (status v : ℕ) (c : Conf) (p q n m : ℕ) (stack : List ℕ) (result : Invoked) (progress : Progress)
      → At code p (refuse_unless p test status) → pure s c.priv test stack ≡ Some (v ∷ []) → (v == 0) ≡ b
      → ShowsCall s call progress c → progress.pieces ≡ [] → p + length test + 5 ≡ q → counts test + 24 + m ≤ n
      → (b ≡ false → Goal result m (at c q [])) → Goal (if b then Returns status progress else result) n (at c p stack)
  unless_does b test status v c p q n m stack result progress a e t h none f le r =
      let here = p + length test in
      let jumps = ir.JumpZero (here + 2) ∷ ir.Jump (here + 5) ∷ returns status in
      let R = if b then Returns status progress else result in
      runs_on R test c p here stack (v ∷ []) n (24 + m) (at_front code p test jumps a) e refl (omega (arith, le))
      (go b v t (at_back code p here test jumps refl a) r)
    where
      go : (b : Bool) (v : ℕ) → (v == 0) ≡ b
          → At code (p + length test) (ir.JumpZero (p + length test + 2) ∷ ir.Jump (p + length test + 5) ∷ returns status)
          → (b ≡ false → Goal result m (at c q []))
          → Goal (if b then Returns status progress else result) (24 + m) (at c (p + length test) (v ∷ []))
      go true zero t a r =
          let here = p + length test in
          goes_on (Returns status progress) (ir.JumpZero (here + 2)) (at c here (0 ∷ [])) (at c (here + 2) []) (24 + m) 16 a.0 refl refl (omega arith)
          (returns_does status progress c (here + 2) 16 (subst (λ (x : ℕ). At code x (returns status)) (omega arith) a.1.1) h none (omega arith))
      go true (suc v) t a r = let e = eqb-true (suc v) 0 t in absurd (omega (arith, e))
      go false zero t a r = absurd (true≢false t)
      go false (suc v) t a r =
          let here = p + length test in
          goes_on result (ir.JumpZero (here + 2)) (at c here (suc v ∷ [])) (at c (here + 1) []) (24 + m) (16 + m) a.0 refl refl (omega arith)
          (goes_on result (ir.Jump (here + 5)) (at c (here + 1) []) (at c (here + 5) []) (16 + m) m a.1.0 refl refl (omega arith)
          (subst (λ (x : ℕ). Goal result m (at c x [])) (sym f) (r refl)))

  pub refuse_does : (b : Bool) (test : List Ir) (status v : ℕ) (c : Conf) (p q n m : ℕ) (stack : List ℕ) (result : Invoked) (progress : Progress)
      → At code p (refuse_if p test status) → pure s c.priv test stack ≡ Some (v ∷ []) → v ≡ truth b
      → ShowsCall s call progress c → progress.pieces ≡ [] → p + length test + 4 ≡ q → counts test + 24 + m ≤ n
      → (b ≡ false → Goal result m (at c q [])) → Goal (if b then Returns status progress else result) n (at c p stack)
  refuse_does b test status v c p q n m stack result progress a e t h none f le r =
      refuse_zero b test status v c p q n m stack result progress a e (ap (λ (x : ℕ). x == 0) t ∙ truth_zero b) h none f le r
    where
      truth_zero : (b : Bool) → (truth b == 0) ≡ not b
      truth_zero true = refl
      truth_zero false = refl

-- a difference of words is 0 where they are equal
pub sub_zero : (a b : ℕ) → a < 65536 → b < 65536 → ((a + (65536 - b)) % 65536 == 0) ≡ (a == b)
sub_zero a b p q = go (eqb_tells ((a + (65536 - b)) % 65536) 0) (eqb_tells a b)
  where
    go : (((a + (65536 - b)) % 65536 == 0) ≡ true × ((a + (65536 - b)) % 65536 ≡ 0)) ⊎ (((a + (65536 - b)) % 65536 == 0) ≡ false × ((a + (65536 - b)) % 65536 ≢ 0))
        → ((a == b) ≡ true × (a ≡ b)) ⊎ ((a == b) ≡ false × (a ≢ b)) → ((a + (65536 - b)) % 65536 == 0) ≡ (a == b)
    go (inl x) (inl y) = x.0 ∙ sym y.0
    go (inl x) (inr y) = absurd (y.1 (omega (arith, x.1, p, q)))
    go (inr x) (inl y) = absurd (x.1 (omega (arith, y.1, p, q)))
    go (inr x) (inr y) = x.0 ∙ sym y.0

pub not_twice : (b : Bool) → b ≡ not (not b)
not_twice true = refl
not_twice false = refl

-- two tests in one
pub or_if : (a b : Bool) (x y : Invoked) → (if a || b then x else y) ≡ (if a then x else if b then x else y)
or_if true b x y = refl
or_if false b x y = refl
