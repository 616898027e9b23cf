-- What is settled of a piece of an input is settled of more of it too.
use Rattle.std.proofs.Common.{ℕ, ◌≡◌, ◌∙◌, ◌⊎◌, inl, inr, Bool, true, false, List, [], ◌∷◌, ◌++◌, length, refl, sym, ap}
use Rattle.std.specs.Prelude.{◌==◌, if◌then◌else◌}
use Rattle.std.proofs.lemmas.List.{append-nil}
use Rattle.sx_io.specs.Reading.{Ending, Broken, Answer, Line, Long, Fault, Limit, behind_line, newline, scan, without_return}
use Rattle.command_promise.specs.declared.status.Status.TheVariants.{ReadFailed}
use Rattle.command_promise.specs.Told.{Output}
use Rattle.command_promise.proofs.Due.{Due, lines_then}

-- the answers of these bytes are those of whole lines, which others may follow; or one of the lines is too long
abbrev Cut : Limit → List ℕ → List ℕ → Type 0
Cut limit begun bytes =
    ((ls : List (List ℕ)) × (scan limit Broken begun bytes ≡ lines_then ls (Fault ∷ []))
    × ((e : Ending) (more : List ℕ) → (xs : List Answer) × (scan limit e begun (bytes ++ more) ≡ lines_then ls xs)))
    ⊎ ((ls : List (List ℕ)) × ((e : Ending) (more : List ℕ) → scan limit e begun (bytes ++ more) ≡ lines_then ls (Long ∷ [])))

module _ (limit : Limit) (begun : List ℕ) (b : ℕ) (bytes : List ℕ) where
  -- what a byte makes of it: the end of a line, one that is too long, or one more
  abbrev next : Bool → Bool → Ending → List ℕ → List Answer
  next p q e more = if p then Line (without_return begun) ∷ scan (behind_line (without_return begun) limit) e [] more else
      if q then Long ∷ [] else scan limit e (begun ++ b ∷ []) more

  step : (p q : Bool) → (b == newline) ≡ p → (length begun == limit []) ≡ q → (e : Ending) (more : List ℕ) → scan limit e begun (b ∷ more) ≡ next p q e more
  step p q x y e more = rw (x, y) refl

  ends_line : (q : Bool) → (b == newline) ≡ true → (length begun == limit []) ≡ q → Cut (behind_line (without_return begun) limit) [] bytes → Cut limit begun (b ∷ bytes)
  ends_line q x y (inl (ls, here, more)) =
      let line : List Answer → List Answer = λ t. Line (without_return begun) ∷ t in
      inl (
        without_return begun ∷ ls,
        step true q x y Broken bytes ∙ ap line here,
        λ e m. ((more e m).0, step true q x y e (bytes ++ m) ∙ ap line (more e m).1),
      )
  ends_line q x y (inr (ls, more)) =
      inr (without_return begun ∷ ls, λ e m. step true q x y e (bytes ++ m) ∙ ap (λ (t : List Answer). Line (without_return begun) ∷ t) (more e m))

  goes_on : (b == newline) ≡ false → (length begun == limit []) ≡ false → Cut limit (begun ++ b ∷ []) bytes → Cut limit begun (b ∷ bytes)
  goes_on x y (inl (ls, here, more)) =
      inl (ls, step false false x y Broken bytes ∙ here, λ e m. ((more e m).0, step false false x y e (bytes ++ m) ∙ (more e m).1))
  goes_on x y (inr (ls, more)) = inr (ls, λ e m. step false false x y e (bytes ++ m) ∙ more e m)

  by_byte : (p q : Bool) → (b == newline) ≡ p → (length begun == limit []) ≡ q → Cut (behind_line (without_return begun) limit) [] bytes → Cut limit (begun ++ b ∷ []) bytes → Cut limit begun (b ∷ bytes)
  by_byte true q x y line on = ends_line q x y line
  by_byte false true x y line on = inr ([], λ e m. step false true x y e (bytes ++ m))
  by_byte false false x y line on = goes_on x y on

cut : (limit : Limit) (begun bytes : List ℕ) → Cut limit begun bytes
cut limit begun [] = inl ([], refl, λ e more. (scan limit e begun more, refl))
cut limit begun (b ∷ bytes) =
    by_byte limit begun b bytes (b == newline) (length begun == limit []) refl refl (cut (behind_line (without_return begun) limit) [] bytes) (cut limit (begun ++ b ∷ []) bytes)

same_due : (F : List Answer → Output) (ls : List (List ℕ)) (xs : List Answer) → Due (λ more. F (lines_then ls more)) → ((F (lines_then ls (Fault ∷ []))).status ≡ ReadFailed → ⊥)
    → F (lines_then ls (Fault ∷ [])) ≡ F (lines_then ls xs)
same_due F ls xs (inl (o, n, c)) never = c (Fault ∷ []) ∙ sym (c xs)
same_due F ls xs (inr (t, g, c, u, l, f)) never =
    absurd (never (ap (λ (o : Output). o.status) (c (Fault ∷ [])) ∙ ap (λ (o : Output). o.status) u))

-- what is said where a read failed, and doesn't say so, is said whatever comes
pub settled : (limit : Limit) (F : List Answer → Output) (bytes : List ℕ) → ((ls : List (List ℕ)) → Due (λ more. F (lines_then ls more)))
    → ((F (scan limit Broken [] bytes)).status ≡ ReadFailed → ⊥) → (e : Ending) (more : List ℕ) → F (scan limit Broken [] bytes) ≡ F (scan limit e [] (bytes ++ more))
settled limit F bytes due never e more = by_cut (cut limit [] bytes)
  where
    by_cut : Cut limit [] bytes → F (scan limit Broken [] bytes) ≡ F (scan limit e [] (bytes ++ more))
    by_cut (inl (ls, here, later)) =
        ap F here ∙ same_due F ls (later e more).0 (due ls) (λ four. never (ap (λ (xs : List Answer). (F xs).status) here ∙ four)) ∙ ap F (sym (later e more).1)
    by_cut (inr (ls, all)) = ap (λ (bs : List ℕ). F (scan limit Broken [] bs)) (sym (append-nil bytes)) ∙ ap F (all Broken []) ∙ ap F (sym (all e more))
