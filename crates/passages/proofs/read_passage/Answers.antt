-- Each word is written behind those before it. Assumes nothing.
use Rattle.std.proofs.Common.{◌≡◌, ℕ, length, get_or, take, drop, sym, ap, ◌∙◌, arith}
use Rattle.std.proofs.Math.ListN.{length-drop}
use Rattle.std.proofs.Math.Seq.{get_or-drop, length-take-le}
use Rattle.base.proofs.Fronts.{front_none, front_next, front_whole}
use Rattle.base.specs.Answers.{front}
use Rattle.words.specs.Texts.{text_of}
use Rattle.words.proofs.Positions.{text_most}
use Rattle.passages.proofs.read_passage.Goals as goal

pub loop-i-init : goal.loop-i-init
loop-i-init c = sym (front_none c.args.ranks.now)

pub overflow_add-at : goal.overflow_add-at
overflow_add-at c = omega (arith, c.requires, text_most c.args.text.now.ready.checked)

pub loop-i-preserved : goal.loop-i-preserved
loop-i-preserved c =
    let rest = drop c.args.place.0 (text_of c.args.text.now) in
    let i = c.loop-i.i in
    let here : c.word_at.result ≡ get_or rest i 0 = c.word_at.ensures ∙ sym (get_or-drop c.args.place.0 (text_of c.args.text.now) i 0) in
    rw (c.loop-i.invariant, here)
    (front_next rest c.args.ranks.now i (omega (arith, c.requires, length-drop c.args.place.0 (text_of c.args.text.now))) (omega arith))

pub returns : goal.returns
returns c =
    let rest = drop c.args.place.0 (text_of c.args.text.now) in
    let m = length c.args.ranks.now in
    let e : c.loop-i.i ≡ m = omega arith in
    c.loop-i.invariant
    ∙ ap (λ (k : ℕ). front (take k rest) c.args.ranks.now) e
    ∙ front_whole (take m rest) c.args.ranks.now (length-take-le m rest (omega (arith, c.requires, length-drop c.args.place.0 (text_of c.args.text.now))))
