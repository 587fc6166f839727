use Rattle.std.proofs.Common.{◌≡◌, arith, get_or, sym, ◌∙◌}
use Rattle.base.proofs.Fronts.{front_none, front_next}
use Rattle.matching.specs.Searching.{first_bytes}
use Rattle.matching.proofs.FirstBytes.{encoded_first, first_bytes_length, first_byte_at}
use Rattle.matching.proofs.first_bytes.Goals as goal

pub loop-i-init : goal.loop-i-init
loop-i-init c = sym (front_none c.args.table.now)

pub loop-i-preserved : goal.loop-i-preserved
loop-i-preserved c =
    let l = c.loop-i in
    let ws = c.args.words.now in
    let here : c.encode.result.first ≡ get_or (first_bytes c.args.s ws) l.i 0 =
    encoded_first c.args.s (get_or ws l.i 0) c.encode.result c.encode.ensures.0 c.encode.ensures.1 ∙ sym (first_byte_at c.args.s ws l.i (omega arith)) in
    rw (l.invariant, here) (front_next (first_bytes c.args.s ws) c.args.table.now l.i (omega (arith, first_bytes_length c.args.s ws)) (omega (arith, c.requires.2)))
