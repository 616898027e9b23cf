-- A head is the same where the lines after it may be longer. From what a call says that read with the limits of heads, to what a command says of all that it reads.
use Rattle.std.proofs.Common.{◌≡◌, ◌∙◌, ◌≤◌, ℕ, ◌+◌, Bool, true, false, if◌then◌else◌, List, [], ◌∷◌, ◌++◌, length, nat_lt, refl, sym, ap, arith}
use Rattle.std.specs.Prelude.{◌==◌}
use Rattle.std.proofs.lemmas.List.{append-nil}
use Rattle.sx_io.specs.Reading.{Answer, Ending, Ended, Broken, Line, End, Long, Fault, Limit, at_end, longest, newline, scan, without_return}
use Rattle.command_promise.specs.declared.status.Status.TheVariants.{Done}
use Rattle.command_promise.specs.Head.{Head, Found, TooLong, NoMark, Unread, head_behind, head_lines, is_mark, most_bytes}
use Rattle.command_promise.specs.HeadRead.{Noted}
use Rattle.command_watch.specs.Output.{behind_mark}
use Rattle.command_explain.proofs.Heads.{push_some}

-- ---- what is seen of a head

-- a text, and a number
abbrev pub seen_as : List ℕ → ℕ → Noted
seen_as text number = record { output = record { text = text; status = Done }; notes = (number ∷ []) ∷ [] }

abbrev number_of : List (List ℕ) → ℕ
number_of [] = 0
number_of ([] ∷ more) = 0
number_of ((number ∷ rest) ∷ more) = number

abbrev pub number_in : Noted → ℕ
number_in n = number_of n.notes

abbrev pub text_in : Noted → List ℕ
text_in n = n.output.text

-- 1 where the input ends there
abbrev pub ends_now : List Answer → ℕ
ends_now [] = 0
ends_now (End ∷ more) = 1
ends_now (Line text ∷ more) = 0
ends_now (Long ∷ more) = 0
ends_now (Fault ∷ more) = 0

-- its text, and whether the input ends after it
abbrev pub seen : Head → Noted
seen (Found text more) = seen_as text (ends_now more)
seen TooLong = seen_as [] 2
seen NoMark = seen_as [] 3
seen Unread = seen_as [] 4

abbrev pub IsNone : Head → Type 0
IsNone (Found text more) = ⊥
IsNone TooLong = Unit {0}
IsNone NoMark = Unit {0}
IsNone Unread = Unit {0}

-- the end of the input comes first only where nothing is left
pub only_end : (begun bytes : List ℕ) → ends_now (scan head_lines Ended begun bytes) ≡ 1 → (begun ≡ []) × (bytes ≡ [])
only_end [] [] h = (refl, refl)
only_end (a ∷ begun) [] h = absurd (omega (arith, h))
only_end begun (b ∷ bytes) h = at (b == newline) (length begun == longest) h (only_end (begun ++ b ∷ []) bytes)
  where
    at : (p q : Bool)
        → ends_now (if p then Line (without_return begun) ∷ scan head_lines Ended [] bytes else if q then Long ∷ [] else scan head_lines Ended (begun ++ b ∷ []) bytes) ≡ 1
        → (ends_now (scan head_lines Ended (begun ++ b ∷ []) bytes) ≡ 1 → (begun ++ b ∷ [] ≡ []) × (bytes ≡ [])) → (begun ≡ []) × (b ∷ bytes ≡ [])
    at true q h rest = absurd (omega (arith, h))
    at false true h rest = absurd (omega (arith, h))
    at false false h rest = absurd (push_some begun b (rest h).0)

-- ---- longer lines after a mark

-- where the input ends, or a read fails
whole_end : {X Y : Type 0} (rest : Limit) (S : Head → X) (T : Head → Y) (x : X) (y : Y) (e : Ending) → ((h : Head) → IsNone h → S h ≡ x → T h ≡ y)
    → ((text bs : List ℕ) → S (Found text (scan head_lines e [] bs)) ≡ x → T (Found text (scan rest e [] bs)) ≡ y)
    → (text begun : List ℕ) → S (head_behind text (at_end e begun)) ≡ x → T (head_behind text (at_end e begun)) ≡ y
whole_end {X} {Y} rest S T x y Ended none marked text [] h = none NoMark tt h
whole_end {X} {Y} rest S T x y Ended none marked text (b ∷ bs) h = at (is_mark (b ∷ bs)) (nat_lt most_bytes (length text + length (b ∷ bs) + 1)) h
  where
    at : (m k : Bool) → S (if m then Found text (End ∷ []) else if k then TooLong else NoMark) ≡ x → T (if m then Found text (End ∷ []) else if k then TooLong else NoMark) ≡ y
    at true k h = marked text [] h
    at false true h = none TooLong tt h
    at false false h = none NoMark tt h
whole_end {X} {Y} rest S T x y Broken none marked text begun h = none Unread tt h

-- What is known of a head, S, is to say what T of it is: S is seen with the limits of heads, T with longer lines after the mark.
module _ {X Y : Type 0} (rest left : Limit) (S : Head → X) (T : Head → Y) where
  -- the limits after a line, by whether it is the mark
  abbrev lines_by : Bool → Limit
  lines_by m lines = if m then rest lines else behind_mark rest lines

  -- ---- where a head comes, and then answers follow

  module _ (o : List Answer → X) (f : List Answer → Y) where
    abbrev Comes : List ℕ → List ℕ → List ℕ → Type 0
    Comes text begun bytes = (e : Ending) (more : List ℕ) → S (head_behind text (scan head_lines e begun (bytes ++ more))) ≡ o (scan head_lines e [] more)

    abbrev Longer : List ℕ → List ℕ → List ℕ → Type 0
    Longer text begun bytes = (e : Ending) (more : List ℕ) → T (head_behind text (scan (behind_mark rest) e begun (bytes ++ more))) ≡ f (scan left e [] more)

    module _ (never : (h : Head) → IsNone h → S h ≡ o (Fault ∷ []) → ⊥)
        (marked : (text bs : List ℕ) → ((e : Ending) (more : List ℕ) → S (Found text (scan head_lines e [] (bs ++ more))) ≡ o (scan head_lines e [] more))
        → (e : Ending) (more : List ℕ) → T (Found text (scan rest e [] (bs ++ more))) ≡ f (scan left e [] more)) where
      longer_mark : (text line bs : List ℕ) (m k : Bool)
          → ((e : Ending) (more : List ℕ) → S (if m then Found text (scan head_lines e [] (bs ++ more)) else if k then TooLong
          else head_behind (text ++ line ++ newline ∷ []) (scan head_lines e [] (bs ++ more))) ≡ o (scan head_lines e [] more))
          → (Comes (text ++ line ++ newline ∷ []) [] bs → Longer (text ++ line ++ newline ∷ []) [] bs)
          → (e : Ending) (more : List ℕ) → T (if m then Found text (scan (lines_by m) e [] (bs ++ more)) else if k then TooLong
          else head_behind (text ++ line ++ newline ∷ []) (scan (lines_by m) e [] (bs ++ more))) ≡ f (scan left e [] more)
      longer_mark text line bs true k h next e more = marked text bs h e more
      longer_mark text line bs false true h next e more = absurd (never TooLong tt (h Broken []))
      longer_mark text line bs false false h next e more = next h e more

      longer_byte : (text begun bs : List ℕ) (b : ℕ) (p q : Bool)
          → ((e : Ending) (more : List ℕ) → S (head_behind text (if p then Line (without_return begun) ∷ scan head_lines e [] (bs ++ more) else if q then Long ∷ []
          else scan head_lines e (begun ++ b ∷ []) (bs ++ more))) ≡ o (scan head_lines e [] more))
          → (Comes (text ++ without_return begun ++ newline ∷ []) [] bs → Longer (text ++ without_return begun ++ newline ∷ []) [] bs)
          → (Comes text (begun ++ b ∷ []) bs → Longer text (begun ++ b ∷ []) bs)
          → (e : Ending) (more : List ℕ) → T (head_behind text (if p then Line (without_return begun) ∷ scan (lines_by (is_mark (without_return begun))) e [] (bs ++ more) else if q then Long ∷ []
          else scan (behind_mark rest) e (begun ++ b ∷ []) (bs ++ more))) ≡ f (scan left e [] more)
      longer_byte text begun bs b true q h line next e more =
          longer_mark text (without_return begun) bs (is_mark (without_return begun)) (nat_lt most_bytes (length text + length (without_return begun) + 1)) h line e more
      longer_byte text begun bs b false true h line next e more = absurd (never TooLong tt (h Broken []))
      longer_byte text begun bs b false false h line next e more = next h e more

      pub longer_behind : (text begun bytes : List ℕ) → Comes text begun bytes → Longer text begun bytes
      longer_behind text begun [] h e more = absurd (never Unread tt (h Broken []))
      longer_behind text begun (b ∷ bs) h e more =
          longer_byte text begun bs b (b == newline) (length begun == longest) h (longer_behind (text ++ without_return begun ++ newline ∷ []) [] bs) (longer_behind text (begun ++ b ∷ []) bs) e more

  -- ---- where something is found of all that comes

  module _ (x : X) (y : Y) (e : Ending) (none : (h : Head) → IsNone h → S h ≡ x → T h ≡ y)
      (marked : (text bs : List ℕ) → S (Found text (scan head_lines e [] bs)) ≡ x → T (Found text (scan rest e [] bs)) ≡ y) where
    whole_mark : (text line bs : List ℕ) (m k : Bool)
        → S (if m then Found text (scan head_lines e [] bs) else if k then TooLong else head_behind (text ++ line ++ newline ∷ []) (scan head_lines e [] bs)) ≡ x
        → (S (head_behind (text ++ line ++ newline ∷ []) (scan head_lines e [] bs)) ≡ x → T (head_behind (text ++ line ++ newline ∷ []) (scan (behind_mark rest) e [] bs)) ≡ y)
        → T (if m then Found text (scan (lines_by m) e [] bs) else if k then TooLong else head_behind (text ++ line ++ newline ∷ []) (scan (lines_by m) e [] bs)) ≡ y
    whole_mark text line bs true k h next = marked text bs h
    whole_mark text line bs false true h next = none TooLong tt h
    whole_mark text line bs false false h next = next h

    whole_byte : (text begun bs : List ℕ) (b : ℕ) (p q : Bool)
        → S (head_behind text (if p then Line (without_return begun) ∷ scan head_lines e [] bs else if q then Long ∷ [] else scan head_lines e (begun ++ b ∷ []) bs)) ≡ x
        → (S (head_behind (text ++ without_return begun ++ newline ∷ []) (scan head_lines e [] bs)) ≡ x → T (head_behind (text ++ without_return begun ++ newline ∷ []) (scan (behind_mark rest) e [] bs)) ≡ y)
        → (S (head_behind text (scan head_lines e (begun ++ b ∷ []) bs)) ≡ x → T (head_behind text (scan (behind_mark rest) e (begun ++ b ∷ []) bs)) ≡ y)
        → T (head_behind text (if p then Line (without_return begun) ∷ scan (lines_by (is_mark (without_return begun))) e [] bs else if q then Long ∷ [] else
        scan (behind_mark rest) e (begun ++ b ∷ []) bs)) ≡ y
    whole_byte text begun bs b true q h line next =
        whole_mark text (without_return begun) bs (is_mark (without_return begun)) (nat_lt most_bytes (length text + length (without_return begun) + 1)) h line
    whole_byte text begun bs b false true h line next = none TooLong tt h
    whole_byte text begun bs b false false h line next = next h

    pub whole_behind : (text begun bytes : List ℕ) → S (head_behind text (scan head_lines e begun bytes)) ≡ x → T (head_behind text (scan (behind_mark rest) e begun bytes)) ≡ y
    whole_behind text begun [] h = whole_end rest S T x y e none marked text begun h
    whole_behind text begun (b ∷ bs) h =
        whole_byte text begun bs b (b == newline) (length begun == longest) h (whole_behind (text ++ without_return begun ++ newline ∷ []) [] bs) (whole_behind text (begun ++ b ∷ []) bs)

-- ---- one head

pub small : (answers : List Answer) → ends_now answers ≤ 1
small [] = omega arith
small (End ∷ more) = omega arith
small (Line text ∷ more) = omega arith
small (Long ∷ more) = omega arith
small (Fault ∷ more) = omega arith

-- a head that is none is no text
pub none_found : (h : Head) → IsNone h → (text : List ℕ) (more : List Answer) → seen (Found text more) ≡ seen h → ⊥
none_found (Found t m) n text more e = n
none_found TooLong n text more e = let s = ap number_in e in let k = small more in absurd (omega (arith, s, k))
none_found NoMark n text more e = let s = ap number_in e in let k = small more in absurd (omega (arith, s, k))
none_found Unread n text more e = let s = ap number_in e in let k = small more in absurd (omega (arith, s, k))

-- and is the one that is seen
pub none_seen : (h k : Head) → IsNone h → IsNone k → seen h ≡ seen k → h ≡ k
none_seen (Found t m) k n o e = absurd n
none_seen TooLong (Found t m) n o e = absurd o
none_seen TooLong TooLong n o e = refl
none_seen TooLong NoMark n o e = let s = ap number_in e in absurd (omega (arith, s))
none_seen TooLong Unread n o e = let s = ap number_in e in absurd (omega (arith, s))
none_seen NoMark (Found t m) n o e = absurd o
none_seen NoMark TooLong n o e = let s = ap number_in e in absurd (omega (arith, s))
none_seen NoMark NoMark n o e = refl
none_seen NoMark Unread n o e = let s = ap number_in e in absurd (omega (arith, s))
none_seen Unread (Found t m) n o e = absurd o
none_seen Unread TooLong n o e = let s = ap number_in e in absurd (omega (arith, s))
none_seen Unread NoMark n o e = let s = ap number_in e in absurd (omega (arith, s))
none_seen Unread Unread n o e = refl

module _ (left : Limit) where
  found_marked : (t text bs : List ℕ) → ((e : Ending) (more : List ℕ) → seen (Found text (scan head_lines e [] (bs ++ more))) ≡ seen (Found t (scan head_lines e [] more)))
      → (e : Ending) (more : List ℕ) → Found text (scan left e [] (bs ++ more)) ≡ Found t (scan left e [] more)
  found_marked t text bs h e more =
      let w = h Ended [] in
      let none : bs ≡ [] = (sym (append-nil bs) ∙ (only_end [] (bs ++ []) (ap number_in w)).1) in
      ap (λ (v : List ℕ). Found text (scan left e [] (v ++ more))) none ∙ ap (λ (v : List ℕ). Found v (scan left e [] more)) (ap text_in w)

  pub found_longer : (t text begun bytes : List ℕ) → ((e : Ending) (more : List ℕ) → seen (head_behind text (scan head_lines e begun (bytes ++ more))) ≡ seen (Found t (scan head_lines e [] more)))
      → (e : Ending) (more : List ℕ) → head_behind text (scan (behind_mark left) e begun (bytes ++ more)) ≡ Found t (scan left e [] more)
  found_longer t text begun bytes h e more =
      longer_behind left left seen (λ h. h) (λ a. seen (Found t a)) (λ a. Found t a) (λ h n e. none_found h n t (Fault ∷ []) (sym e)) (found_marked t) text begun bytes h e more

  end_marked : (t text bs : List ℕ) → seen (Found text (scan head_lines Ended [] bs)) ≡ seen (Found t (End ∷ [])) → Found text (scan left Ended [] bs) ≡ Found t (End ∷ [])
  end_marked t text bs h =
      ap (λ (v : List ℕ). Found text (scan left Ended [] v)) (only_end [] bs (ap number_in h)).1 ∙ ap (λ (v : List ℕ). Found v (End ∷ [])) (ap text_in h)

  pub end_longer : (t text begun bytes : List ℕ) → seen (head_behind text (scan head_lines Ended begun bytes)) ≡ seen (Found t (End ∷ [])) → head_behind text (scan (behind_mark left) Ended begun bytes) ≡ Found t (End ∷ [])
  end_longer t text begun bytes h =
      whole_behind left left seen (λ h. h) (seen (Found t (End ∷ []))) (Found t (End ∷ [])) Ended (λ h n e. absurd (none_found h n t (End ∷ []) (sym e))) (end_marked t) text begun bytes h

  pub none_longer : (k : Head) → IsNone k → (e : Ending) (text begun bytes : List ℕ) → seen (head_behind text (scan head_lines e begun bytes)) ≡ seen k → head_behind text (scan (behind_mark left) e begun bytes) ≡ k
  none_longer k o e text begun bytes h =
      whole_behind left left seen (λ h. h) (seen k) k e (λ h n e. none_seen h k n o e) (λ text bs w. absurd (none_found k o text (scan head_lines e [] bs) w)) text begun bytes h
