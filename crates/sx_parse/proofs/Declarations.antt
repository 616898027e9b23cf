-- What one turn of reading the declarations does to the machine.
use Rattle.std.proofs.Common.{◌≡◌, ℕ, List, [], ◌∷◌, ◌++◌, ◌<◌, Option, Some, Result, Ok, Err, IfOk, refl, ap, ◌∙◌, length, arith}
use Rattle.std.proofs.lemmas.List.{nil_from_length}
use Rattle.sx_lang.specs.declared.tree.Decl.{Decl}
use Rattle.sx_lex.specs.declared.tokens.Kind.{Kind}
use Rattle.sx_lex.specs.declared.tokens.Kind.TheVariants.{Sensor, Actuator, Input, Output, Var, Array, Semicolon, Equals}
use Rattle.sx_lex.specs.declared.tokens.Placed.{Placed}
use Rattle.spec_grammar.specs.Machine.{Symbol, Value, After, A_name, follow, read, Want, Say, A_semicolon, An_open_square, A_close_square}
use Rattle.spec_grammar.specs.Machine.{A_number, For_initial, For_length, Initial_of, Do_declare, Declarations, Handlers, Refused}
use Rattle.spec_grammar.specs.Machine as machine
use Rattle.sx_parse.specs.declared.stop.Stop.{Stop}
use Rattle.sx_parse.specs.declared.stop.Stop.TheVariants.{Fault, Memory}
use Rattle.sx_parse.specs.Wanted.{declarations_wanted, end_wanted, length_wanted}
use Rattle.sx_parse.specs.Reading.{Stops, TakesSign, Named, Numbered, done}
use Rattle.sx_parse.specs.Declaring.{Declares, DeclaresOr, DeclaresNext, Passes, Declared, AnswersText, holding}
use Rattle.sx_parse.proofs.Expressions.{said}

pub ended : (ts r : List Placed) (ds us : List Decl) (d : Decl) → TakesSign A_semicolon ts r → us ≡ ds ++ d ∷ [] → Declares (end_wanted d) ds ts us done r
ended ts r ds us d s e = rw e (record { declares = λ st. s.takes (Say (Do_declare d) ∷ st) (holding ds []) ∙ said (Do_declare d) st (holding ds []) r })

pub initial_none : (x : List ℕ) (ts a : List Placed) (f : Placed) (ds us : List Decl) → ts ≡ f ∷ a → f.kind ≡ Semicolon → us ≡ ds ++ Decl.Var x 0 ∷ []
    → Declares (λ st. Initial_of x ∷ st) ds ts us done a
initial_none x ts a f ds us h k e = rw e (record { declares = λ st. rw (h, k) refl })

pub initial_number : (x : List ℕ) (n : ℕ) (ts a b r : List Placed) (f : Placed) (ds us : List Decl) → ts ≡ f ∷ a → f.kind ≡ Equals → Numbered a n b
    → Declares (end_wanted (Decl.Var x n)) ds b us done r → Declares (λ st. Initial_of x ∷ st) ds ts us done r
initial_number x n ts a b r f ds us h k p q = record { declares = λ st. rw (h, k) (p.numbered (For_initial x) st (holding ds []) ∙ q.declares st) }

pub initial_breaks : (x : List ℕ) (n : ℕ) (ts a b : List Placed) (f : Placed) (t : Option Placed) → ts ≡ f ∷ a → f.kind ≡ Equals → Numbered a n b
    → Stops (end_wanted (Decl.Var x n)) 0 b t → Stops (λ st. Initial_of x ∷ st) 0 ts t
initial_breaks x n ts a b f t h k p q = record { stops = λ st vs o. rw (h, k) (p.numbered (For_initial x) st vs ∙ q.stops st vs o) }

pub array : (x : List ℕ) (n : ℕ) (ts a b c r : List Placed) (ds us : List Decl) → TakesSign An_open_square ts a → Numbered a n b → TakesSign A_close_square b c
    → Declares (end_wanted (Decl.Array x n)) ds c us done r → Declares (length_wanted x) ds ts us done r
array x n ts a b c r ds us p q s v = record {
  declares = λ st.
      p.takes (A_number (For_length x) ∷ st) (holding ds [])
      ∙ q.numbered (For_length x) st (holding ds [])
      ∙ s.takes (Want A_semicolon ∷ Say (Do_declare (Decl.Array x n)) ∷ st) (holding ds [])
      ∙ v.declares st;
}

pub array_breaks : (x : List ℕ) (n : ℕ) (ts a b c : List Placed) (t : Option Placed) → TakesSign An_open_square ts a → Numbered a n b
    → TakesSign A_close_square b c → Stops (end_wanted (Decl.Array x n)) 0 c t → Stops (length_wanted x) 0 ts t
array_breaks x n ts a b c t p q s v = record {
  stops = λ st vs o.
      p.takes (A_number (For_length x) ∷ st) vs
      ∙ q.numbered (For_length x) st vs
      ∙ s.takes (Want A_semicolon ∷ Say (Do_declare (Decl.Array x n)) ∷ st) vs
      ∙ v.stops st vs o;
}

-- a name, and what is required after it
pub named : {A : Type 0} (w : After) (x : List ℕ) (ts a : List Placed) (ds us : List Decl) (result : Result A Stop) (rest : A → List Placed) → Named ts x a
    → DeclaresOr result (follow w x) ds a us rest → DeclaresOr result (λ st. A_name w ∷ st) ds ts us rest
named w x ts a ds us (Ok r) rest p q = record { declares = λ st. p.named w st (holding ds []) ∙ q.declares st }
named w x ts a ds us (Err (Fault t)) rest p q = record { stops = λ st vs o. p.named w st vs ∙ q.stops st vs o }
named w x ts a ds us (Err Memory) rest p q = q

-- the word that a declaration begins with, and what is required after it
begun : (want : List Symbol → List Symbol) (k : Kind) (ts a : List Placed) (f : Placed) (st : List Symbol) (vs : List Value) → ts ≡ f ∷ a → f.kind ≡ k
    → machine.declarations st vs k ≡ Some (want (Declarations ∷ st), vs) → read (Declarations ∷ st) vs ts ≡ read (want (Declarations ∷ st)) vs a
begun want k ts a f st vs h e s =
    let begins : machine.declarations st vs f.kind ≡ Some (want (Declarations ∷ st), vs) = ap (machine.declarations st vs) e ∙ s in rw h (rw begins refl)

pub started : {A : Type 0} (want : List Symbol → List Symbol) (k : Kind) (ts a : List Placed) (f : Placed) (ds us : List Decl) (result : Result A Stop)
    (rest : A → List Placed) → ((st : List Symbol) (vs : List Value) → machine.declarations st vs k ≡ Some (want (Declarations ∷ st), vs)) → ts ≡ f ∷ a → f.kind ≡ k
    → DeclaresOr result want ds a us rest → DeclaresNext (Some result) ds ts us rest
started want k ts a f ds us (Ok r) rest s h e q = record {
  declares = λ st. begun want k ts a f st (holding ds []) h e (s st (holding ds [])) ∙ q.declares (Declarations ∷ st);
}
started want k ts a f ds us (Err (Fault t)) rest s h e q = record { stops = λ st vs o. begun want k ts a f st vs h e (s st vs) ∙ q.stops (Declarations ∷ st) vs o }
started want k ts a f ds us (Err Memory) rest s h e q = q

pub shorter : {A : Type 0} (result : Result A Stop) (rest : A → List Placed) (ts a : List Placed) → length a < length ts
    → IfOk result (λ r. length (rest r) < length a) → IfOk result (λ r. length (rest r) < length ts)
shorter (Ok r) rest ts a h k = omega (arith, h, k)
shorter (Err e) rest ts a h k = k

passed : (k : Kind) (st : List Symbol) (vs : List Value) → (k ≡ Sensor → ⊥) → (k ≡ Actuator → ⊥) → (k ≡ Input → ⊥) → (k ≡ Output → ⊥) → (k ≡ Var → ⊥)
    → (k ≡ Array → ⊥) → machine.declarations st vs k ≡ machine.handlers st vs k
passed Sensor st vs a b c d e f = absurd (a refl)
passed Actuator st vs a b c d e f = absurd (b refl)
passed Input st vs a b c d e f = absurd (c refl)
passed Output st vs a b c d e f = absurd (d refl)
passed Var st vs a b c d e f = absurd (e refl)
passed Array st vs a b c d e f = absurd (f refl)
passed _ st vs a b c d e f = refl

pub passes : (ts a : List Placed) (t : Placed) (ds us : List Decl) → ts ≡ t ∷ a → (t.kind ≡ Sensor → ⊥) → (t.kind ≡ Actuator → ⊥) → (t.kind ≡ Input → ⊥)
    → (t.kind ≡ Output → ⊥) → (t.kind ≡ Var → ⊥) → (t.kind ≡ Array → ⊥) → us ≡ ds → Passes ds ts us
passes ts a t ds us h x y z u v w e = record {
  passes = λ st vs. rw h (let e : machine.declarations st vs t.kind ≡ machine.handlers st vs t.kind = passed t.kind st vs x y z u v w in rw e refl);
  same = e;
}

pub passes_end : (ts : List Placed) (ds us : List Decl) → length ts ≡ 0 → us ≡ ds → Passes ds ts us
passes_end ts ds us h e = record { passes = λ st vs. rw (nil_from_length ts h) refl; same = e }

pub begins : (ts : List Placed) (ds : List Decl) → ds ≡ [] → Declared ts ds Declarations ts
begins ts ds e = rw e (record { declared = refl })

pub goes_on : (ts a r : List Placed) (ds us : List Decl) → Declared ts ds Declarations a → Declares declarations_wanted ds a us declarations_wanted r → Declared ts us Declarations r
goes_on ts a r ds us p q = record { declared = p.declared ∙ q.declares [] }

pub ends : (ts a : List Placed) (ds us : List Decl) → Declared ts ds Declarations a → Passes ds a us → Declared ts us Handlers a
ends ts a ds us p q = rw q.same (record { declared = p.declared ∙ q.passes [] (holding ds []) })

pub breaks : (ts a : List Placed) (ds : List Decl) (t : Option Placed) → Declared ts ds Declarations a → Stops declarations_wanted 0 a t → AnswersText ts (Refused t)
breaks ts a ds t p q = record { answers = p.declared ∙ q.stops [] (holding ds []) refl }
