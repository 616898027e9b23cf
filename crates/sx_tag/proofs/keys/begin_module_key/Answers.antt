use Rattle.std.proofs.Common.{ℕ, List, [], ◌∷◌, ◌∙◌, ap, take}
use Rattle.sx_tag.specs.Keys.{kdf, section_key}
use Rattle.sx_tag.proofs.keys.begin_module_key.Goals as goal

pub returns : goal.returns
unfolding section_key kdf
returns g c = record {
  key = c.kdf-provider_key.result;
  before = 0x4B ∷ [];
  holds = c.feed.ensures _ _ c.begin-run.ensures;
  answers = λ message. ap (λ (key : List ℕ). take 16 (g.T.Tag.mac key (0x4B ∷ message)))
      (c.kdf-provider_key.ensures ∙ ap (λ (part : List ℕ). kdf g.T.Tag.mac c.args.base.now part) c.to_le_bytes.ensures);
}
