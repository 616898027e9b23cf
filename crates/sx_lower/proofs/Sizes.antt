-- A module's code keeps within its weight.
use Rattle.std.proofs.Common.{ℕ, ◌+◌, ◌*◌, ◌≤◌, Bool, true, false, if◌then◌else◌, List, [], ◌∷◌, ◌++◌, length, nat_lt, arith, length-append}
use Rattle.sx_lang.specs.declared.tree.Decl.{Decl}
use Rattle.sx_lang.specs.declared.tree.UnOp.{UnOp}
use Rattle.sx_lang.specs.declared.tree.UnOp.TheVariants.{Neg, Inv, Not}
use Rattle.sx_lang.specs.declared.tree.BinOp.{BinOp}
use Rattle.sx_lang.specs.declared.tree.BinOp.TheVariants.{Add, Sub, Or, Xor, Mul, And, Eq, Ne, Lt, Le, Gt, Ge}
use Rattle.sx_lang.specs.Tree.{Expression, Constant, Variable, Indexed, Applied, Combined, Statement, Defines, Assigns, Stores, Chooses, Repeats, Sends, Emits, Block, Done, Then, HandlerTree}
use Rattle.sx_lang.specs.Sizes.{expression_nodes, statement_nodes, block_nodes, handlers_nodes}
use Rattle.sx_check.specs.Names.{defined}
use Rattle.sx_mean.specs.Places.{output_number}
use Rattle.sx_mean.specs.declared.events.End.{End}
use Rattle.sx_ir.specs.declared.ir.Ir.{Ir}
use Rattle.sx_ir.specs.declared.ir.Ir.TheVariants as ir
use Rattle.sx_ir.specs.Sizes.{ops_bytes}
use Rattle.sx_ir.proofs.Appended.{ops_bytes-append}
use Rattle.sx_mean.specs.Working.{event_at, local_at}
use Rattle.sx_mean.specs.Ends.{is_sending}
use Rattle.sx_mean.specs.Scope.{index_of}
use Rattle.sx_lower.specs.Lowered.{variable_code, assign_code, unary_op, is_turned, operator_code, combined_code, expression_code, turns_at, packets_code}
use Rattle.sx_lower.specs.Lowered.{statement_code, block_code, handler_code, handlers_code}

-- this many bytes and operations at most
pub record Within (code : List Ir) (most count : ℕ) : Type 0 where
  pub size : ops_bytes code ≤ most
  pub ops : length code ≤ count

within_append : (a b : List Ir) (m n j k s o : ℕ) → m + n ≤ s → j + k ≤ o → Within a m j → Within b n k → Within (a ++ b) s o
within_append a b m n j k s o le lo p q = record {
  size = omega (arith, ops_bytes-append a b, p.size, q.size);
  ops = omega (arith, length-append a b, p.ops, q.ops);
}

either : (b : Bool) (x y : List Ir) (m j : ℕ) → Within x m j → Within y m j → Within (if b then x else y) m j
either true x y m j p q = p
either false x y m j p q = q

variable_within : (ds : List Decl) (n : ℕ) (names : List (List ℕ)) (x : List ℕ) → Within (variable_code ds n names x) 40 18
variable_within ds n names x = either (nat_lt (index_of names x) (length names)) _ _ 40 18 (record { size = omega arith; ops = omega arith }) (record { size = omega arith; ops = omega arith })

assign_within : (ds : List Decl) (n : ℕ) (names : List (List ℕ)) (x : List ℕ) → Within (assign_code ds n names x) 40 18
assign_within ds n names x = either (nat_lt (index_of names x) (length names)) _ _ 40 18 (record { size = omega arith; ops = omega arith }) (record { size = omega arith; ops = omega arith })

operator_within : (o : BinOp) → Within (operator_code o) 40 18
operator_within Add = record { size = omega arith; ops = omega arith }
operator_within Sub = record { size = omega arith; ops = omega arith }
operator_within Or = record { size = omega arith; ops = omega arith }
operator_within Xor = record { size = omega arith; ops = omega arith }
operator_within Mul = record { size = omega arith; ops = omega arith }
operator_within And = record { size = omega arith; ops = omega arith }
operator_within Eq = record { size = omega arith; ops = omega arith }
operator_within Ne = record { size = omega arith; ops = omega arith }
operator_within Lt = record { size = omega arith; ops = omega arith }
operator_within Le = record { size = omega arith; ops = omega arith }
operator_within Gt = record { size = omega arith; ops = omega arith }
operator_within Ge = record { size = omega arith; ops = omega arith }

unary_within : (o : UnOp) → Within (ir.Op (unary_op o) ∷ []) 40 18
unary_within Neg = record { size = omega arith; ops = omega arith }
unary_within Inv = record { size = omega arith; ops = omega arith }
unary_within Not = record { size = omega arith; ops = omega arith }

combined_within : (o : BinOp) (a b : List Ir) (m j n k s i : ℕ) → m + n + 40 ≤ s → j + k + 18 ≤ i → Within a m j → Within b n k → Within (combined_code o a b) s i
combined_within o a b m j n k s i le lo p q =
    either (is_turned o) _ _ s i
    (within_append b _ n (m + 40) k (j + 18) s i (omega arith) (omega arith) q (within_append a _ m 40 j 18 (m + 40) (j + 18) (omega arith) (omega arith) p (operator_within o)))
    (within_append a _ m (n + 40) j (k + 18) s i (omega arith) (omega arith) p (within_append b _ n 40 k 18 (n + 40) (k + 18) (omega arith) (omega arith) q (operator_within o)))

pub expression_within : (ds : List Decl) (n : ℕ) (names : List (List ℕ)) (e : Expression) → Within (expression_code ds n names e) (40 * expression_nodes e) (18 * expression_nodes e)
expression_within ds n names (Constant v) = record { size = omega arith; ops = omega arith }
expression_within ds n names (Variable x) = variable_within ds n names x
expression_within ds n names (Indexed x e) = within_append _ _ _ 18 _ 1 _ _ (omega arith) (omega arith) (expression_within ds n names e) (record { size = omega arith; ops = omega arith })
expression_within ds n names (Applied o e) = within_append _ _ _ 40 _ 18 _ _ (omega arith) (omega arith) (expression_within ds n names e) (unary_within o)
expression_within ds n names (Combined o a b) = combined_within o _ _ _ _ _ _ _ _ (omega arith) (omega arith) (expression_within ds n names a) (expression_within ds n names b)

some_nodes : (e : Expression) → 1 ≤ expression_nodes e
some_nodes (Constant v) = omega arith
some_nodes (Variable x) = omega arith
some_nodes (Indexed x e) = omega arith
some_nodes (Applied o e) = omega arith
some_nodes (Combined o a b) = omega arith

packets_within : (k : ℕ) (ends : List End) (output : ℕ) → Within (packets_code k ends output) (4 * length ends) (length ends)
packets_within k [] output = record { size = omega arith; ops = omega arith }
packets_within k (e ∷ es) output =
    let more = packets_within (k + 1) es output in
    either (is_sending output e.side e.port) _ _ (4 * length (e ∷ es)) (length (e ∷ es))
    (record { size = omega (arith, more.size); ops = omega (arith, more.ops) })
    (record { size = omega (arith, more.size); ops = omega (arith, more.ops) })

module _ (ds : List Decl) (ends : List End) (few : length ends ≤ 16) where
  mutual
    pub statement_within : (s : Statement) (p : ℕ) (names : List (List ℕ)) → Within (statement_code ds ends p names s) (64 * statement_nodes s) (18 * statement_nodes s)
    statement_within (Defines x e) p names = within_append _ _ _ 4 _ 1 _ _ (omega arith) (omega arith) (expression_within ds (length ends) names e) (record { size = omega arith; ops = omega arith })
    statement_within (Assigns x e) p names = within_append _ _ _ 40 _ 18 _ _ (omega arith) (omega arith) (expression_within ds (length ends) names e) (assign_within ds (length ends) names x)
    statement_within (Stores x i e) p names =
        within_append _ _ _ (40 * expression_nodes e + 18) _ (18 * expression_nodes e + 1) _ _ (omega arith) (omega arith) (expression_within ds (length ends) names i)
        (within_append _ _ _ 18 _ 1 _ _ (omega arith) (omega arith) (expression_within ds (length ends) names e) (record { size = omega arith; ops = omega arith }))
    statement_within (Chooses e a b) p names =
        let test = expression_code ds (length ends) names e in
        let q = p + length test + 1 in
        let first = block_code ds ends q names a in
        let wa = block_within a q names in
        let wb = block_within b (q + length first + 1) names in
        let we = expression_within ds (length ends) names e in
        let na = block_nodes a in
        let nb = block_nodes b in
        within_append _ _ _ (10 + (64 * na + (4 + 64 * nb))) _ (1 + (18 * na + (1 + 18 * nb))) _ _ (omega arith) (omega arith) we
        (within_append (ir.JumpZero (q + length first + 1) ∷ []) _ 10 (64 * na + (4 + 64 * nb)) 1 (18 * na + (1 + 18 * nb)) _ _ (omega arith) (omega arith)
        (record { size = omega arith; ops = omega arith })
        (within_append first _ (64 * na) (4 + 64 * nb) (18 * na) (1 + 18 * nb) _ _ (omega arith) (omega arith) wa
        (within_append (ir.Jump (q + length first + 1 + length (block_code ds ends (q + length first + 1) names b)) ∷ []) _ 4 (64 * nb) 1 (18 * nb) _ _ (omega arith) (omega arith)
        (record { size = omega arith; ops = omega arith }) wb)))
    statement_within (Repeats n a) p names =
        let wa = block_within a (p + 5) names in
        let body = block_code ds ends (p + 5) names a in
        within_append (ir.Push n ∷ ir.Store turns_at ∷ ir.Load turns_at ∷ ir.Load turns_at ∷ ir.JumpZero (p + 5 + length body + 3) ∷ []) _ 26 (64 * block_nodes a + 14) 5 (18 * block_nodes a + 4) _ _
        (omega arith) (omega arith) (record { size = omega arith; ops = omega arith })
        (within_append body _ (64 * block_nodes a) 14 (18 * block_nodes a) 4 _ _ (omega arith) (omega arith) wa (record { size = omega arith; ops = omega arith }))
    statement_within (Sends x e) p names =
        let some = some_nodes e in
        within_append _ _ _ 66 _ 17 _ _ (omega arith) (omega arith) (expression_within ds (length ends) names e)
        (within_append _ _ (4 * length ends) 2 (length ends) 1 _ _ (omega arith) (omega arith) (packets_within 0 ends (output_number ds x)) (record { size = omega arith; ops = omega arith }))
    statement_within (Emits e) p names = within_append _ _ _ 4 _ 1 _ _ (omega arith) (omega arith) (expression_within ds (length ends) names e) (record { size = omega arith; ops = omega arith })

    pub block_within : (b : Block) (p : ℕ) (names : List (List ℕ)) → Within (block_code ds ends p names b) (64 * block_nodes b) (18 * block_nodes b)
    block_within Done p names = record { size = omega arith; ops = omega arith }
    block_within (Then s b) p names =
        let first = statement_code ds ends p names s in
        within_append first _ _ _ _ _ _ _ (omega arith) (omega arith) (statement_within s p names) (block_within b (p + length first) (names ++ defined s))

  pub handler_within : (h : HandlerTree) (p : ℕ) → Within (handler_code ds ends p h) (64 * (1 + block_nodes h.body)) (18 * (1 + block_nodes h.body))
  handler_within h p =
      within_append (ir.Load event_at ∷ ir.Store (local_at 0) ∷ []) _ 8 (64 * block_nodes h.body + 4) 2 (18 * block_nodes h.body + 1) _ _ (omega arith) (omega arith)
      (record { size = omega arith; ops = omega arith })
      (within_append _ _ (64 * block_nodes h.body) 4 (18 * block_nodes h.body) 1 _ _ (omega arith) (omega arith) (block_within h.body (p + 2) (h.param ∷ []))
      (record { size = omega arith; ops = omega arith }))

  pub handlers_within : (hs : List HandlerTree) (p : ℕ) → Within (handlers_code ds ends p hs) (64 * handlers_nodes hs) (18 * handlers_nodes hs)
  handlers_within [] p = record { size = omega arith; ops = omega arith }
  handlers_within (h ∷ hs) p = within_append _ _ _ _ _ _ _ _ (omega arith) (omega arith) (handler_within h p) (handlers_within hs (p + length (handler_code ds ends p h)))
