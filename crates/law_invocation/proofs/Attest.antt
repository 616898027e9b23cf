-- An ask is answered.
use Rattle.std.proofs.Common.{◌≤◌, true, [], ◌∷◌, length, refl, ap, ◌∙◌, arith}
use Rattle.sx_tag.specs.Wrap.{wrapped, crypt}
use Rattle.sx_tag.proofs.TagBytes.{tag_short}
use Rattle.spec_invocation.specs.Protocol.{attest_entry, ask_size, ask_kind}
use Rattle.spec_invocation.specs.Pieces.{tag_size}
use Rattle.spec_invocation.specs.Marks.{Wrapped}
use Rattle.spec_invocation.specs.Progress.{Progress, finished}
use Rattle.spec_invocation.specs.Entries.{attest}
use Rattle.spec_invocation.specs.Invocation.{entered}
use Rattle.law_invocation.specs.Gives.{beginning, low_call}
use Rattle.law_invocation.specs.Laws.{AttestReturns}
use Rattle.law_invocation.proofs.Making.{piece_made}
use Rattle.law_invocation.proofs.Entering.{enters, receives}

pub attest_returns : AttestReturns
unfolding entered
attest_returns su st mem devices ask low bytes is =
    let p = beginning st mem devices in
    let tag = (wrapped su.mac su.section.key ask []).tag in
    let q : Progress = record p { marks = Wrapped ask [] true ∷ [] } in
    let short : length tag ≤ tag_size = tag_short su.mac su.section.key ask (crypt su.mac su.section.key ask []) in
    let m = piece_made su devices low (low_call attest_entry) tag q refl (omega (arith, short)) in
    record {
      mem = m.0;
      is = enters su p attest_entry low refl ∙ receives su p attest_entry ask_size ask_kind ask (λ x. attest su (low_call attest_entry) x p) low (omega arith) bytes is ∙ ap finished m.1;
    }
