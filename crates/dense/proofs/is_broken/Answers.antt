-- `dense::is_broken`: no byte, a last one that continues, or else three in a row.
use Rattle.std.proofs.Common.{◌-◌, ◌<◌, length, sym, ◌∙◌, arith}
use Rattle.std.proofs.lemmas.List.{get_or_read}
use borrow.Author.Tests.{le-leb, lt-leb, lt-ltb, ltb-true, ltb-false}
use Rattle.dense.proofs.Reading.{broken_none, broken_last, broken_row}
use Rattle.dense.proofs.is_broken.Goals as goal

pub returns-in-None : goal.returns-in-None
returns-in-None c = sym (broken_none c.args.s c.args.stream.now (omega (arith, ltb-false _ _ (sym c.in-None.ensures.item.0))))

pub returns-then-last-least : goal.returns-then-last-least
returns-then-last-least c =
    let bytes = c.args.stream.now in
    let some : 0 < length bytes = ltb-true _ _ (sym c.in-Some.ensures.item.0) in
    let last = get_or_read bytes _ _ (omega arith) c.in-Some.ensures.item.1 0 in
    lt-ltb _ _ c.if-last-least.true ∙ sym (broken_last c.args.s bytes (length bytes - 1) (omega arith) (lt-leb _ _ (omega arith)))

pub returns-else-last-least : goal.returns-else-last-least
returns-else-last-least c =
    let bytes = c.args.stream.now in
    let some : 0 < length bytes = ltb-true _ _ (sym c.in-Some.ensures.item.0) in
    let last = get_or_read bytes _ _ (omega arith) c.in-Some.ensures.item.1 0 in
    c.three_open.ensures ∙ sym (broken_row c.args.s bytes (length bytes - 1) (omega arith) (le-leb _ _ (omega arith)))
