-- What is due of some lines is due of more of them too.
use Rattle.std.proofs.Common.{ℕ, ◌≡◌, ◌∙◌, ◌⊎◌, inl, inr, Bool, true, false, List, [], ◌∷◌, ◌++◌, length, refl, sym, ap, arith, append_assoc}
use Rattle.std.specs.Prelude.{◌==◌, if◌then◌else◌}
use Rattle.std.proofs.lemmas.List.{append-nil, append_cancel_right}
use Rattle.sx_io.specs.Reading.{Ending, Broken, Answer, Line, Long, Fault, Limit, always, behind_line, scan, newline, without_return}
use Rattle.command_promise.specs.declared.status.Status.{Status}
use Rattle.command_promise.specs.declared.status.Status.TheVariants.{ReadFailed}
use Rattle.command_promise.specs.Told.{Output, CommandAt, Told, behind, unread_output, read_line}
use Rattle.command_promise.specs.Further.{HasEnd, Streams}
use Rattle.command_promise.proofs.Further.{no-further}

-- ---- whole lines

abbrev pub lines_then : List (List ℕ) → List Answer → List Answer
lines_then [] more = more
lines_then (l ∷ ls) more = Line l ∷ lines_then ls more

-- the answers of whole lines, with the limits after them, or of those before one that is too long
abbrev Whole : Limit → List ℕ → List ℕ → Type 0
Whole limit begun bytes =
    ((ls : List (List ℕ)) × (next : Limit) × ((e : Ending) (more : List ℕ) → scan limit e begun (bytes ++ more) ≡ lines_then ls (scan next e [] more)))
    ⊎ ((ls : List (List ℕ)) × ((e : Ending) (more : List ℕ) → scan limit e begun (bytes ++ more) ≡ lines_then ls (Long ∷ [])))

scan-step : (limit : Limit) (e : Ending) (begun : List ℕ) (b : ℕ) (more : List ℕ) (p q : Bool) → (b == newline) ≡ p → (length begun == limit []) ≡ q
    → scan limit e begun (b ∷ more) ≡ (if p then Line (without_return begun) ∷ scan (behind_line (without_return begun) limit) e [] more else
    if q then Long ∷ [] else scan limit e (begun ++ b ∷ []) more)
scan-step limit e begun b more p q x y = rw (x, y) refl

whole-line : (limit : Limit) (begun bytes : List ℕ) (b : ℕ) (q : Bool) → (b == newline) ≡ true → (length begun == limit []) ≡ q → Whole (behind_line (without_return begun) limit) [] bytes
    → Whole limit begun (b ∷ bytes)
whole-line limit begun bytes b q x y (inl w) =
    inl (without_return begun ∷ w.0, w.1, λ e more. scan-step limit e begun b (bytes ++ more) true q x y ∙ ap (λ (t : List Answer). Line (without_return begun) ∷ t) (w.2 e more))
whole-line limit begun bytes b q x y (inr w) =
    inr (without_return begun ∷ w.0, λ e more. scan-step limit e begun b (bytes ++ more) true q x y ∙ ap (λ (t : List Answer). Line (without_return begun) ∷ t) (w.1 e more))

whole-byte : (limit : Limit) (begun bytes : List ℕ) (b : ℕ) → (b == newline) ≡ false → (length begun == limit []) ≡ false → Whole limit (begun ++ b ∷ []) bytes → Whole limit begun (b ∷ bytes)
whole-byte limit begun bytes b x y (inl w) = inl (w.0, w.1, λ e more. scan-step limit e begun b (bytes ++ more) false false x y ∙ w.2 e more)
whole-byte limit begun bytes b x y (inr w) = inr (w.0, λ e more. scan-step limit e begun b (bytes ++ more) false false x y ∙ w.1 e more)

whole-long : (limit : Limit) (begun bytes : List ℕ) (b : ℕ) → (b == newline) ≡ false → (length begun == limit []) ≡ true → Whole limit begun (b ∷ bytes)
whole-long limit begun bytes b x y = inr ([], λ e more. scan-step limit e begun b (bytes ++ more) false true x y)

whole-by : (limit : Limit) (begun bytes : List ℕ) (b : ℕ) (p q : Bool) → (b == newline) ≡ p → (length begun == limit []) ≡ q → Whole (behind_line (without_return begun) limit) [] bytes
    → Whole limit (begun ++ b ∷ []) bytes → Whole limit begun (b ∷ bytes)
whole-by limit begun bytes b true q x y w v = whole-line limit begun bytes b q x y w
whole-by limit begun bytes b false true x y w v = whole-long limit begun bytes b x y
whole-by limit begun bytes b false false x y w v = whole-byte limit begun bytes b x y v

is-newline : (b : ℕ) → b ≡ newline → (b == newline) ≡ true
is-newline b e = grind arith

whole : (limit : Limit) (begun bytes : List ℕ) → HasEnd bytes → Whole limit begun bytes
whole limit begun [] h = absurd h
whole limit begun (b ∷ []) h =
    whole-line limit begun [] b (length begun == limit []) (is-newline b h) refl (inl ([], behind_line (without_return begun) limit, λ e more. refl))
whole limit begun (b ∷ c ∷ rest) h =
    whole-by limit begun (c ∷ rest) b (b == newline) (length begun == limit []) refl refl (whole (behind_line (without_return begun) limit) [] (c ∷ rest) h)
    (whole limit (begun ++ b ∷ []) (c ∷ rest) h)

-- ---- what is written of them

-- where a read failed, its line is the last
abbrev pub EndsUnread : Output → Type 0
EndsUnread o = o.status ≡ ReadFailed → (w : List ℕ) × (o.text ≡ w ++ read_line)

-- it is settled, and not by a read; or this text is due, and what follows is g of what is to come
abbrev pub Due : (List Answer → Output) → Type 0
Due G = ((o : Output) × (o.status ≡ ReadFailed → ⊥) × ((more : List Answer) → G more ≡ o))
    ⊎ ((t : List ℕ) × (g : List Answer → Output) × ((more : List Answer) → G more ≡ behind t (g more)) × (g (Fault ∷ []) ≡ unread_output)
    × ((g (Long ∷ [])).status ≡ ReadFailed → ⊥) × ((more : List Answer) → EndsUnread (g more)))

pub due-behind : (G H : List Answer → Output) (x : List ℕ) → ((more : List Answer) → G more ≡ behind x (H more)) → Due H → Due G
due-behind G H x e (inl (o, n, c)) = inl (behind x o, n, λ more. e more ∙ ap (behind x) (c more))
due-behind G H x e (inr (t, g, c, u, l, f)) =
    inr (x ++ t, g, λ more. e more ∙ ap (behind x) (c more) ∙ ap (λ (v : List ℕ). record { text = v; status = (g more).status }) (sym (append_assoc x t (g more).text)), u, l, f)

pub behind-ends : (x : List ℕ) (o : Output) → EndsUnread o → EndsUnread (behind x o)
behind-ends x o f e = let r = f e in (x ++ r.0, ap (λ (v : List ℕ). x ++ v) r.1 ∙ sym (append_assoc x r.0 read_line))

-- ---- more of the input

status-of : (o : Output) (said : List ℕ) → o ≡ behind said unread_output → o.status ≡ ReadFailed
status-of o said e = ap (λ (p : Output). p.status) e

text-of : (o : Output) (said : List ℕ) → o ≡ behind said unread_output → o.text ≡ said ++ read_line
text-of o said e = ap (λ (p : Output). p.text) e

-- this is due of the lines, and that of more
pub due-more : (G : List Answer → Output) (said said' : List ℕ) (more : List Answer) → Due G → G (Fault ∷ []) ≡ behind said unread_output
    → G more ≡ behind said' unread_output → (w : List ℕ) × (said' ≡ said ++ w)
due-more G said said' more (inl (o, n, c)) a b = absurd (n (status-of o said (sym (c (Fault ∷ [])) ∙ a)))
due-more G said said' more (inr (t, g, c, u, l, f)) a b =
    let one : t ++ read_line ≡ said ++ read_line = ap (λ (o : Output). t ++ o.text) (sym u) ∙ text-of (behind t (g (Fault ∷ []))) said (sym (c (Fault ∷ [])) ∙ a) in
    let r = f more (status-of (behind t (g more)) said' (sym (c more) ∙ b)) in
    let two : said' ++ read_line ≡ (t ++ r.0) ++ read_line =
    sym (text-of (behind t (g more)) said' (sym (c more) ∙ b)) ∙ ap (λ (v : List ℕ). t ++ v) r.1 ∙ sym (append_assoc t r.0 read_line) in
    (r.0, append_cancel_right said' (t ++ r.0) read_line two ∙ ap (λ (v : List ℕ). v ++ r.0) (append_cancel_right t said read_line one))

pub due-long : (G : List Answer → Output) (said : List ℕ) → Due G → G (Long ∷ []) ≡ behind said unread_output → ⊥
due-long G said (inl (o, n, c)) a = n (status-of o said (sym (c (Long ∷ [])) ∙ a))
due-long G said (inr (t, g, c, u, l, f)) a = l (status-of (behind t (g (Long ∷ []))) said (sym (c (Long ∷ [])) ∙ a))

due-whole : (limit : Limit) (F : List Answer → Output) (bytes y said next : List ℕ) → ((ls : List (List ℕ)) → Due (λ more. F (lines_then ls more))) → Whole limit [] bytes
    → F (scan limit Broken [] bytes) ≡ behind said unread_output → F (scan limit Broken [] (bytes ++ y)) ≡ behind next unread_output → (w : List ℕ) × (next ≡ said ++ w)
due-whole limit F bytes y said next due (inl w) a b =
    due-more (λ more. F (lines_then w.0 more)) said next (scan w.1 Broken [] y) (due w.0)
    (ap F (sym (w.2 Broken [])) ∙ ap (λ (t : List ℕ). F (scan limit Broken [] t)) (append-nil bytes) ∙ a)
    (ap F (sym (w.2 Broken y)) ∙ b)
due-whole limit F bytes y said next due (inr w) a b =
    absurd (due-long (λ more. F (lines_then w.0 more)) said (due w.0)
    (ap F (sym (w.1 Broken [])) ∙ ap (λ (t : List ℕ). F (scan limit Broken [] t)) (append-nil bytes) ∙ a))

-- a command of which more is due of more lines reads no further than it must
pub streams-within : {tells to_tell : Bool} {m0 m1 : CommandAt} {status : Status} {also : List Answer → Type 0} (limit : Limit) (F : List Answer → Output)
    → ((ls : List (List ℕ)) → Due (λ more. F (lines_then ls more))) → Told tells to_tell limit m0 m1 status F also → Streams tells to_tell limit m0 m1 F
streams-within {tells} {to_tell} {m0} {m1} {status} {also} limit F due told bytes rest said t k e h d none =
    no-further bytes rest told.reads t e h
    (λ y q.
    let w = due-whole limit F bytes y said told.said due (whole limit [] bytes h) d q in
    none (w.0 ++ told.part)
    (told.wrote k ∙ ap (λ (v : List ℕ). m0.sink.written ++ v) (ap (λ (v : List ℕ). v ++ told.part) w.1 ∙ append_assoc said w.0 told.part)))

-- the same where all lines have one limit
pub streams-by : {tells to_tell : Bool} {m0 m1 : CommandAt} {status : Status} {also : List Answer → Type 0} (n : ℕ) (F : List Answer → Output)
    → ((ls : List (List ℕ)) → Due (λ more. F (lines_then ls more)))
    → Told tells to_tell (always n) m0 m1 status F also → Streams tells to_tell (always n) m0 m1 F
streams-by n F due told = streams-within (always n) F due told
