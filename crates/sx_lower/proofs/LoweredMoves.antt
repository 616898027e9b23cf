-- Lowered code that is moved is the code that is lowered there.
use Rattle.std.proofs.Common.{◌≡◌, ℕ, ◌+◌, Bool, true, false, if◌then◌else◌, List, [], ◌∷◌, ◌++◌, length, map, nat_lt, refl, sym, ap, ◌∙◌, arith}
use Rattle.std.proofs.lemmas.List.{map-append, length-map}
use Rattle.sx_lang.specs.declared.tree.Decl.{Decl}
use Rattle.sx_lang.specs.declared.tree.BinOp.{BinOp}
use Rattle.sx_lang.specs.declared.tree.BinOp.TheVariants.{Add, Sub, Or, Xor, Mul, And, Eq, Ne, Lt, Le, Gt, Ge}
use Rattle.sx_lang.specs.Tree.{Expression, Constant, Variable, Indexed, Applied, Combined, Statement, Defines, Assigns, Stores, Chooses, Repeats, Sends, Emits, Block, Done, Then, HandlerTree}
use Rattle.sx_check.specs.Names.{defined}
use Rattle.sx_mean.specs.declared.events.End.{End}
use Rattle.sx_mean.specs.Places.{output_number}
use Rattle.sx_mean.specs.Working.{event_at, local_at}
use Rattle.sx_mean.specs.Ends.{is_sending}
use Rattle.sx_ir.specs.declared.ir.Ir.{Ir}
use Rattle.sx_ir.specs.declared.ir.Ir.TheVariants as ir
use Rattle.sx_ir.specs.declared.ir.IrOp.TheVariants as op
use Rattle.sx_lower.specs.Lowered.{turns_at, is_turned, operator_code, expression_code, packets_code, choice_code, loop_code, statement_code, block_code, handler_code, handlers_code, handlers_parts}
use Rattle.sx_mean.specs.Scope.{index_of}
use Rattle.sx_lower.specs.Moved.{moved, moved_part, LoweredMoves}

module _ (k : ℕ) where
  abbrev Move : List Ir → List Ir
  Move code = map (moved k) code

  -- code without jumps stays
  abbrev Stays : List Ir → Type 0
  Stays code = map (moved k) code ≡ code

  both : (a b : List Ir) → Stays a → Stays b → Stays (a ++ b)
  both a b p q = map-append (moved k) a b ∙ ap (λ l. l ++ map (moved k) b) p ∙ ap (λ l. a ++ l) q

  chosen : (t : Bool) (a b : List Ir) → Stays a → Stays b → Stays (if t then a else b)
  chosen true a b p q = p
  chosen false a b p q = q

  operator_stays : (o : BinOp) → Stays (operator_code o)
  operator_stays Add = refl
  operator_stays Sub = refl
  operator_stays Or = refl
  operator_stays Xor = refl
  operator_stays Mul = refl
  operator_stays And = refl
  operator_stays Eq = refl
  operator_stays Ne = refl
  operator_stays Lt = refl
  operator_stays Le = refl
  operator_stays Gt = refl
  operator_stays Ge = refl

  expression_stays : (ds : List Decl) (n : ℕ) (names : List (List ℕ)) (e : Expression) → Stays (expression_code ds n names e)
  expression_stays ds n names (Constant v) = refl
  expression_stays ds n names (Variable x) = chosen (nat_lt (index_of names x) (length names)) _ _ refl refl
  expression_stays ds n names (Indexed x e) = both (expression_code ds n names e) _ (expression_stays ds n names e) refl
  expression_stays ds n names (Applied o e) = both (expression_code ds n names e) _ (expression_stays ds n names e) refl
  expression_stays ds n names (Combined o a b) =
      let ca = expression_code ds n names a in
      let cb = expression_code ds n names b in
      let pa = expression_stays ds n names a in
      let pb = expression_stays ds n names b in
      chosen (is_turned o) _ _ (both cb _ pb (both ca _ pa (operator_stays o))) (both ca _ pa (both cb _ pb (operator_stays o)))

  packets_stay : (es : List End) (i output : ℕ) → Stays (packets_code i es output)
  packets_stay [] i output = refl
  packets_stay (e ∷ es) i output =
      let more = packets_stay es (i + 1) output in
      chosen (is_sending output e.side e.port) _ _ (ap (λ l. ir.Packet i ∷ l) more) more

  -- stretches with places, moved one by one
  choice_moves : (p : ℕ) (test a b a2 b2 : List Ir) → Stays test → Move a ≡ a2 → Move b ≡ b2 → Move (choice_code p test a b) ≡ choice_code (k + p) test a2 b2
  choice_moves p test a b a2 b2 st ea eb =
      let la : length a2 ≡ length a = sym (ap length ea) ∙ length-map a (moved k) in
      let lb : length b2 ≡ length b = sym (ap length eb) ∙ length-map b (moved k) in
      let j1 : k + (p + length a + 1) ≡ k + p + length a2 + 1 = omega (arith, la) in
      let j2 : k + (p + length a + 1 + length b) ≡ k + p + length a2 + 1 + length b2 = omega (arith, la, lb) in
      map-append (moved k) test _
      ∙ ap (λ l. l ++ (ir.JumpZero (k + (p + length a + 1)) ∷ map (moved k) (a ++ (ir.Jump (p + length a + 1 + length b) ∷ b)))) st
      ∙ ap (λ l. test ++ (ir.JumpZero (k + (p + length a + 1)) ∷ l)) (map-append (moved k) a _)
      ∙ ap (λ l. test ++ (ir.JumpZero (k + (p + length a + 1)) ∷ (l ++ (ir.Jump (k + (p + length a + 1 + length b)) ∷ map (moved k) b)))) ea
      ∙ ap (λ l. test ++ (ir.JumpZero (k + (p + length a + 1)) ∷ (a2 ++ (ir.Jump (k + (p + length a + 1 + length b)) ∷ l)))) eb
      ∙ ap (λ j. test ++ (ir.JumpZero j ∷ (a2 ++ (ir.Jump (k + (p + length a + 1 + length b)) ∷ b2)))) j1
      ∙ ap (λ j. test ++ (ir.JumpZero (k + p + length a2 + 1) ∷ (a2 ++ (ir.Jump j ∷ b2)))) j2

  loop_moves : (p n : ℕ) (a a2 : List Ir) → Move a ≡ a2 → Move (loop_code p n a) ≡ loop_code (k + p) n a2
  loop_moves p n a a2 ea =
      let la : length a2 ≡ length a = sym (ap length ea) ∙ length-map a (moved k) in
      let j1 : k + (p + 5 + length a + 3) ≡ k + p + 5 + length a2 + 3 = omega (arith, la) in
      let j2 : k + (p + 1) ≡ k + p + 1 = omega arith in
      let Head = λ (j : ℕ) (l : List Ir). ir.Push n ∷ ir.Store turns_at ∷ ir.Load turns_at ∷ ir.Load turns_at ∷ ir.JumpZero j ∷ l in
      ap (Head (k + (p + 5 + length a + 3))) (map-append (moved k) a _)
      ∙ ap (λ l. Head (k + (p + 5 + length a + 3)) (l ++ (ir.Push 1 ∷ ir.Op op.Sub ∷ ir.Jump (k + (p + 1)) ∷ ir.Drop ∷ []))) ea
      ∙ ap (λ j. Head j (a2 ++ (ir.Push 1 ∷ ir.Op op.Sub ∷ ir.Jump (k + (p + 1)) ∷ ir.Drop ∷ []))) j1
      ∙ ap (λ j. Head (k + p + 5 + length a2 + 3) (a2 ++ (ir.Push 1 ∷ ir.Op op.Sub ∷ ir.Jump j ∷ ir.Drop ∷ []))) j2

  module _ (ds : List Decl) (es : List End) where
    mutual
      statement_moves : (t : Statement) (p : ℕ) (names : List (List ℕ)) → Move (statement_code ds es p names t) ≡ statement_code ds es (k + p) names t
      statement_moves (Defines x e) p names = both (expression_code ds (length es) names e) _ (expression_stays ds (length es) names e) refl
      statement_moves (Assigns x e) p names = both (expression_code ds (length es) names e) _ (expression_stays ds (length es) names e)
          (chosen (nat_lt (index_of names x) (length names)) _ _ refl refl)
      statement_moves (Stores x i e) p names =
          both (expression_code ds (length es) names i) _ (expression_stays ds (length es) names i) (both (expression_code ds (length es) names e) _ (expression_stays ds (length es) names e) refl)
      statement_moves (Sends x e) p names =
          both (expression_code ds (length es) names e) _ (expression_stays ds (length es) names e) (both (packets_code 0 es (output_number ds x)) _ (packets_stay es 0 (output_number ds x)) refl)
      statement_moves (Emits e) p names = both (expression_code ds (length es) names e) _ (expression_stays ds (length es) names e) refl
      statement_moves (Chooses e a b) p names =
          let ce = expression_code ds (length es) names e in
          let pa = p + length ce + 1 in
          let ca = block_code ds es pa names a in
          let pb = pa + length ca + 1 in
          let qa : k + pa ≡ k + p + length ce + 1 = omega arith in
          let ea = block_moves a pa names ∙ ap (λ q. block_code ds es q names a) qa in
          let la : length (block_code ds es (k + p + length ce + 1) names a) ≡ length ca = sym (ap length ea) ∙ length-map ca (moved k) in
          let qb : k + pb ≡ k + p + length ce + 1 + length (block_code ds es (k + p + length ce + 1) names a) + 1 = omega (arith, la) in
          let eb = block_moves b pb names ∙ ap (λ q. block_code ds es q names b) qb in
          choice_moves pa ce ca _ _ _ (expression_stays ds (length es) names e) ea eb
          ∙ ap (λ q. choice_code q ce (block_code ds es (k + p + length ce + 1) names a)
          (block_code ds es (k + p + length ce + 1 + length (block_code ds es (k + p + length ce + 1) names a) + 1) names b)) qa
      statement_moves (Repeats n a) p names =
          let q : k + (p + 5) ≡ k + p + 5 = omega arith in
          loop_moves p n (block_code ds es (p + 5) names a) _ (block_moves a (p + 5) names ∙ ap (λ q. block_code ds es q names a) q)

      block_moves : (b : Block) (p : ℕ) (names : List (List ℕ)) → Move (block_code ds es p names b) ≡ block_code ds es (k + p) names b
      block_moves Done p names = refl
      block_moves (Then t b) p names =
          let first = statement_code ds es p names t in
          let e = statement_moves t p names in
          let l : length (statement_code ds es (k + p) names t) ≡ length first = sym (ap length e) ∙ length-map first (moved k) in
          let q : k + (p + length first) ≡ k + p + length (statement_code ds es (k + p) names t) = omega (arith, l) in
          map-append (moved k) first _
          ∙ ap (λ c. c ++ map (moved k) (block_code ds es (p + length first) (names ++ defined t) b)) e
          ∙ ap (λ c. statement_code ds es (k + p) names t ++ c) (block_moves b (p + length first) (names ++ defined t) ∙ ap (λ q. block_code ds es q (names ++ defined t) b) q)

    handler_moves : (h : HandlerTree) (p : ℕ) → Move (handler_code ds es p h) ≡ handler_code ds es (k + p) h
    handler_moves h p =
        let q : k + (p + 2) ≡ k + p + 2 = omega arith in
        ap (λ l. ir.Load event_at ∷ ir.Store (local_at 0) ∷ l) (map-append (moved k) (block_code ds es (p + 2) (h.param ∷ []) h.body) _
        ∙ ap (λ l. l ++ ir.Stop ∷ []) (block_moves h.body (p + 2) (h.param ∷ []) ∙ ap (λ q. block_code ds es q (h.param ∷ []) h.body) q))

    next_place : (h : HandlerTree) (p : ℕ) → k + (p + length (handler_code ds es p h)) ≡ k + p + length (handler_code ds es (k + p) h)
    next_place h p =
        let l : length (handler_code ds es (k + p) h) ≡ length (handler_code ds es p h) = sym (ap length (handler_moves h p)) ∙ length-map (handler_code ds es p h) (moved k) in
        omega (arith, l)

    handlers_move : (hs : List HandlerTree) (p : ℕ) → Move (handlers_code ds es p hs) ≡ handlers_code ds es (k + p) hs
    handlers_move [] p = refl
    handlers_move (h ∷ hs) p =
        let first = handler_code ds es p h in
        map-append (moved k) first _
        ∙ ap (λ c. c ++ map (moved k) (handlers_code ds es (p + length first) hs)) (handler_moves h p)
        ∙ ap (λ c. handler_code ds es (k + p) h ++ c) (handlers_move hs (p + length first) ∙ ap (λ q. handlers_code ds es q hs) (next_place h p))

    parts_move : (hs : List HandlerTree) (p : ℕ) → map (moved_part k) (handlers_parts ds es p hs) ≡ handlers_parts ds es (k + p) hs
    parts_move [] p = refl
    parts_move (h ∷ hs) p =
        let behind = p + length (handler_code ds es p h) in
        ap (λ l. (k + p, k + behind) ∷ l) (parts_move hs behind)
        ∙ ap (λ q. (k + p, q) ∷ handlers_parts ds es q hs) (next_place h p)

pub lowered_moves : LoweredMoves
lowered_moves ds ends hs k =
    let z : k + 0 ≡ k = omega arith in
    (handlers_move k ds ends hs 0 ∙ ap (λ p. handlers_code ds ends p hs) z, parts_move k ds ends hs 0 ∙ ap (λ p. handlers_parts ds ends p hs) z)
