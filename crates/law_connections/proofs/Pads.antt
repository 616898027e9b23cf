-- What a packet that is the same under two keys says of what opens it.
use Rattle.std.proofs.Common.{◌≡◌, ℕ, ◌≤◌, List, length, sym, ◌∙◌, ap}
use Rattle.sx_tag.specs.Mac.{Mac}
use Rattle.sx_tag.specs.Wrap.{crypt}
use Rattle.spec_run.specs.Law.{IsTagUnder}
use Rattle.spec_run.proofs.Tags.{crypt_twice}

-- Two bodies have the same cipher under a header, each under a key of its own. Then a cipher that
-- opens to the one under its key opens to the other under the other key.
pub pads_tell : (mac nac : Mac) (one two : List ℕ) → IsTagUnder one mac → IsTagUnder two nac → (mk nk ad a b c : List ℕ)
    → length a ≤ 32 → length b ≤ 32 → length c ≤ 32 → crypt mac mk ad a ≡ crypt nac nk ad b
    → crypt mac mk ad c ≡ a → crypt nac nk ad c ≡ b
pads_tell mac nac one two gives givet mk nk ad a b c la lb lc same opens =
    ap (λ (z : List ℕ). crypt nac nk ad z) (sym (crypt_twice one mac mk ad c gives lc) ∙ ap (λ (z : List ℕ). crypt mac mk ad z) opens ∙ same)
    ∙ crypt_twice two nac nk ad b givet lb
