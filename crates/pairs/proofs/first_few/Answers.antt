-- One index more is tried: both stand there, or not both.
use Rattle.std.proofs.Common.{length, sym, ◌∙◌, arith, rules, add-one, length-append}
use Rattle.std.proofs.lemmas.Slice.Zip.{zip_turn, zip_end}
use mathlib.Core.Bool.{false≢true}
use borrow.Author.Tests.{eqb-true, eq-eqb}
use lib.Dec.{eqb}
use Rattle.base.proofs.Tests.{and_left, and_right, and_true}
use Rattle.pairs.proofs.Pairs.{tried_hit, tried_miss, tried_all}
use Rattle.pairs.proofs.first_few.Goals as goal
use Rattle.pairs.proofs.first_few.Goals.{then-one-other, else-one-other, then-most-at, else-most-at}

pub loop-h-preserved : goal.loop-h-preserved
loop-h-preserved c =
    let a = c.args in
    let l = c.loop-h in
    let turn = zip_turn a.here.now a.there.now l.yielded c.into_iter-h-iterator.result l.h-iterator c.next.new.self c.next.result (search rules) (search rules) l.yielded_by (c.in-Some.h, c.in-Some.t) c.in-Some.is c.next.ensures.steps in
    let one = eqb c.in-Some.h.now a.x in
    let other = eqb c.in-Some.t.now a.y in
    rw (length-append, add-one (length l.yielded)) (
      c.loop-h.invariant.0,
      omega (arith, turn.0),
      elim c.if-one-other.branch [
        | then-one-other w ↦ tried_hit a.x a.y a.here.now a.there.now l.invariant.2 turn.0 turn.1 c.if-most-at.most
            (sym (turn.2 0) ∙ eqb-true _ _ (and_left one other w.if-one-other.true)) (sym (turn.3 0) ∙ eqb-true _ _ (and_right one other w.if-one-other.true))
            (elim c.if-most-at.branch [ then-most-at v ↦ omega arith | else-most-at v ↦ omega arith ])
        | else-one-other w ↦ tried_miss a.x a.y a.here.now a.there.now l.invariant.2 turn.0 turn.1 c.if-most-at.most
            (λ p q. false≢true (sym w.if-one-other.false ∙ and_true one other (eq-eqb _ _ (turn.2 0 ∙ p)) (eq-eqb _ _ (turn.3 0 ∙ q))))
            (elim c.if-most-at.branch [ then-most-at v ↦ omega arith | else-most-at v ↦ omega arith ])
      ],
    )

pub returns : goal.returns
returns c =
    let a = c.args in
    let l = c.loop-h in
    let end = zip_end a.here.now a.there.now l.yielded c.into_iter-h-iterator.result l.h-iterator c.next.new.self c.next.result (search rules) (search rules) l.yielded_by c.in-None.is c.next.ensures.steps in
    omega (arith, tried_all a.x a.y a.here.now a.there.now l.invariant.2 (omega (arith, end)))
