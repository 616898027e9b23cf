use Rattle.std.proofs.Common.{◌≡◌, ◌+◌, ◌++◌, length, sym, ap, ◌∙◌, arith}
use Rattle.sx_lang.specs.View.{module_of}
use Rattle.spec_invocation.specs.Protocol.{attest_entry, input_entry, set_key_entry}
use Rattle.sx_stub.specs.Stub.{attest_length, input_length, sample_place, set_key_length}
use Rattle.sx_stub.specs.Stub.{attest_code, input_code, jump_on, sample_code, search_code, set_key_code}
use Rattle.sx_stub.proofs.Steps.{behind, grown}
use Rattle.sx_stub.proofs.protocol.put_entries.Goals as goal

pub returns : goal.returns
returns c =
    let r = c.put_search.result in
    let tree = module_of c.args.tree.now in
    let ends = c.args.ends.now in
    let x = c.args.code.now.items in
    let y1 = c.put_jump_on.new.code.items in
    let y2 = c.put_jump_on-2.new.code.items in
    let y3 = c.put_jump_on-3.new.code.items in
    let y4 = c.put_sample.new.code.items in
    let y5 = c.put_set_key.new.code.items in
    let y6 = c.put_attest.new.code.items in
    let y7 = c.put_input.new.code.items in
    let z = c.put_search.new.code.items in
    let len = c.sample_len-set_key.ensures.len in
    let set_key = sample_place + length (sample_code tree sample_place) in
    let attest = set_key + set_key_length in
    let input = attest + attest_length in
    let search = input + input_length in
    let e1 : y1 ≡ x ++ jump_on input_entry input = c.in_ok-put_jump_on.ensures ∙ ap (λ n. x ++ jump_on input_entry (sample_place + n + set_key_length + attest_length)) len in
    let e2 : y2 ≡ y1 ++ jump_on set_key_entry set_key = c.in_ok-put_jump_on-2.ensures ∙ ap (λ n. y1 ++ jump_on set_key_entry (sample_place + n)) len in
    let e3 : y3 ≡ y2 ++ jump_on attest_entry attest = c.in_ok-put_jump_on-3.ensures ∙ ap (λ n. y2 ++ jump_on attest_entry (sample_place + n + set_key_length)) len in
    let e5 : y5 ≡ y4 ++ set_key_code search (length y4) = c.in_ok-put_set_key.ensures
    ∙ ap (λ n. y4 ++ set_key_code (sample_place + n + set_key_length + attest_length + input_length) (length y4)) len in
    let l1 = grown x y1 (jump_on input_entry input) e1 in
    let l2 = grown y1 y2 (jump_on set_key_entry set_key) e2 in
    let l3 = grown y2 y3 (jump_on attest_entry attest) e3 in
    let l4 = grown y3 y4 (sample_code tree (length y3)) c.in_ok-put_sample.ensures in
    let l5 = grown y4 y5 (set_key_code search (length y4)) e5 in
    let l6 = grown y5 y6 (attest_code (length y5)) c.in_ok-put_attest.ensures in
    let here = c.requires.here in
    let t7 = search_code tree ends search in
    let t6 = input_code input ++ t7 in
    let t5 = attest_code attest ++ t6 in
    let t4 = set_key_code search set_key ++ t5 in
    let t3 = sample_code tree sample_place ++ t4 in
    let t2 = jump_on attest_entry attest ++ t3 in
    behind r x y1 z (jump_on input_entry input) (λ p. jump_on set_key_entry set_key ++ t2) (length y1) e1 (sym l1)
    (behind r y1 y2 z (jump_on set_key_entry set_key) (λ p. t2) (length y2) e2 (sym l2)
    (behind r y2 y3 z (jump_on attest_entry attest) (λ p. sample_code tree p ++ t4) sample_place e3 (omega (arith, here, l1, l2))
    (behind r y3 y4 z (sample_code tree (length y3)) (λ p. set_key_code search p ++ t5) set_key c.in_ok-put_sample.ensures (omega (arith, here, l1, l2, l3))
    (behind r y4 y5 z (set_key_code search (length y4)) (λ p. attest_code p ++ t6) attest e5 (omega (arith, here, l1, l2, l3, l4))
    (behind r y5 y6 z (attest_code (length y5)) (λ p. input_code p ++ t7) input c.in_ok-put_attest.ensures (omega (arith, here, l1, l2, l3, l4, l5))
    (behind r y6 y7 z (input_code (length y6)) (λ p. search_code tree ends p) search c.in_ok-put_input.ensures (omega (arith, here, l1, l2, l3, l4, l5, l6)) c.put_search.ensures))))))
