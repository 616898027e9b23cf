use Rattle.std.proofs.Common.{ℕ, List, ◌++◌, length, ap, sym, ◌∙◌, subst, arith}
use Rattle.sx_tmpl.specs.Performs.{DoesCode}
use Rattle.sx_tmpl.specs.Text.{bytes_of, text_words}
use Rattle.sx_tmpl.proofs.Texts.Fitting.{all_fit, slots_fit, text_below}
use Rattle.sx_tmpl.proofs.Texts.Performing.{text_does}
use Rattle.sx_tmpl.proofs.Texts.TextBytes.{text_size}
use Rattle.sx_tmpl.proofs.text.emit.Goals as goal

pub new-requires : goal.new-requires
new-requires g c = text_below c.args.code.now c.args.layout.now c.requires.room c.requires.sound

pub put_text-requires-clause-base : goal.put_text-requires-clause-base
put_text-requires-clause-base g c = let a = c.requires.room.private_size in let b = c.requires.room.private_below in omega (arith, a, b)

pub put_text-requires-clause-fits : goal.put_text-requires-clause-fits
put_text-requires-clause-fits g c = all_fit c.args.code.now c.args.layout.now c.requires.room c.requires.sound

pub put_text-requires-clause-slots : goal.put_text-requires-clause-slots
put_text-requires-clause-slots g c = λ k lt h. slots_fit c.args.code.now c.args.layout.now c.requires.room c.requires.sound k h

pub returns-clause-size : goal.returns-clause-size
returns-clause-size g c =
    let text = c.in_ok-put_text.ensures ∙ ap (λ (t : List ℕ). t ++ bytes_of (text_words c.args.layout.now c.args.code.now)) c.in_ok-text.ensures.items in
    ap (λ (t : List ℕ). length t) text ∙ text_size c.args.layout.now c.args.code.now

pub returns-clause-does : goal.returns-clause-does
returns-clause-does g c =
    let text = c.in_ok-put_text.ensures ∙ ap (λ (t : List ℕ). t ++ bytes_of (text_words c.args.layout.now c.args.code.now)) c.in_ok-text.ensures.items in
    subst (λ (t : List ℕ). DoesCode g.T.Tag.mac c.args.code.now c.args.layout.now t) (sym text)
    (text_does g.T.Tag.mac c.args.code.now c.args.layout.now g.met.T.Tag.is_tag c.requires.room c.requires.sound)
