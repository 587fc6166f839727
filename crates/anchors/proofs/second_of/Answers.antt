use Rattle.std.proofs.Common.{ℤ, ap, sym, subst, ◌∙◌, arith, rules, w32}
use Rattle.std.proofs.lemmas.Int.{to_z-of_z}
use Rattle.words.specs.Texts.{text_of}
use Rattle.words.proofs.Positions.{text_most}
use Rattle.anchors.specs.declared.Second.{Second}
use Rattle.anchors.specs.Seconds.{second_at, SecondOf}
use Rattle.anchors.proofs.Seconds.{phrase_second, pair_second}
use Rattle.anchors.proofs.second_of.Goals as goal

pub second_at-requires : goal.second_at-requires
second_at-requires c = omega (arith, text_most c.args.text.now.ready.checked)

pub returns-in-Phrase : goal.returns-in-Phrase
returns-in-Phrase c =
    let a = c.args in
    let p = phrase_second (text_of a.text.now) a.words.now a.sought a.anchor c.rarest_beside-number.result c.in-Phrase.is c.requires.4 c.rarest_beside-number.ensures c.requires.0 in
    let h = c.saturating_sub.ensures in
    let t = c.saturating_sub-in-Phrase.ensures in
    rw (h, t) p

pub returns-in-Pair : goal.returns-in-Pair
returns-in-Pair c =
    let a = c.args in
    let n = c.length.result in
    let e = c.second_at.ensures ∙ ap (λ (z : ℤ). second_at z n) (to_z-of_z w32 c.in-Pair.offset (search rules)) in
    subst (λ (r : Second). SecondOf (text_of a.text.now) a.words.now a.sought a.anchor r) (sym e)
    (pair_second (text_of a.text.now) a.words.now a.sought c.in-Pair.offset a.anchor n c.in-Pair.is c.requires.2 c.requires.3
    (omega (arith, text_most a.text.now.ready.checked)))
