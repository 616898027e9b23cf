-- A set-key packet opens an end that is closed.
use Rattle.std.proofs.Common.{◌≡◌, ℕ, ◌+◌, ◌-◌, ◌*◌, true, false, ◌&&◌, not, List, [], ◌∷◌, ◌++◌, length, take, drop, replicate, Some, nat_lt, refl, ap, ◌∙◌, arith}
use Rattle.std.proofs.lemmas.Bool.{cond-false}
use Rattle.sx_tag.specs.Wrap.{wrapped, unwrapped}
use Rattle.spec_invocation.specs.Protocol.{all_done, no_end, set_key_entry, set_key_kind, set_key_size, key_size}
use Rattle.spec_invocation.specs.ModuleState.{end_of, with_end, link_of, epoch_of}
use Rattle.spec_invocation.specs.Marks.{Unwrapped}
use Rattle.spec_invocation.specs.Progress.{Invoked, Returns}
use Rattle.spec_invocation.specs.Entries.{set_key, set_key_at, key_opened, is_keyed, end_on, side_of}
use Rattle.spec_invocation.specs.Invocation.{entered}
use Rattle.law_invocation.specs.Gives.{beginning}
use Rattle.law_invocation.specs.Laws.{KeyReturns}
use Rattle.law_invocation.proofs.Entering.{enters, receives}
use Rattle.law_invocation.proofs.Wraps.{take_first, unwraps}

pub key_returns : KeyReturns
unfolding entered
key_returns su st mem devices link epoch second k side e key low tag lt sd len found closed bytes =
    let p = beginning st mem devices in
    let header : List ℕ = set_key_kind ∷ 0 ∷ link ∷ epoch ∷ second ∷ 0 ∷ [] in
    let w = wrapped su.mac su.section.key header key in
    let packet : List ℕ = header ++ w.cipher ++ w.tag in
    let x = end_of st.ends k in
    let the_link : link_of (link + 256 * epoch) ≡ link = omega (arith, lt) in
    let the_second : second + 256 * 0 ≡ second = omega arith in
    let the_end : end_on (link_of (link + 256 * epoch)) su.ends (side_of (second + 256 * 0)) ≡ Some (k, e) =
    ap (λ l. end_on l su.ends (side_of (second + 256 * 0))) the_link ∙ ap (λ n. end_on link su.ends (side_of n)) the_second
    ∙ ap (λ o. end_on link su.ends o) sd ∙ found in
    let opened = unwrapped su.mac su.section.key header (take key_size (w.cipher ++ w.tag)) (drop key_size (w.cipher ++ w.tag)) in
    let new : List ℕ → Invoked = λ body. Returns all_done (record {
      state = record { cells = st.cells; ends = with_end st.ends k (record { is_open = true; field = link + 256 * epoch; number = 0; key = body }) };
      mem = mem;
      devices = devices;
      marks = Unwrapped header body true ∷ [];
      pieces = [];
    }) in
    let keyed : is_keyed x (link + 256 * epoch) ≡ false = ap (λ b. b && not (nat_lt (epoch_of x.field) (epoch_of (link + 256 * epoch)))) closed in
    record {
      mem = mem;
      is = enters su p set_key_entry low refl
          ∙ receives su p set_key_entry set_key_size set_key_kind packet (λ y. set_key su y p) low (omega arith) bytes refl
          ∙ ap (λ o. set_key_at su packet o p) the_end
          ∙ cond-false _ (Returns no_end p) (key_opened k packet opened p) keyed
          ∙ ap (λ o. key_opened k packet o p) (unwraps su.mac su.section.key header key key_size tag len (omega arith))
          ∙ ap new (take_first key_size key (replicate (32 - length key) 0) len);
    }
