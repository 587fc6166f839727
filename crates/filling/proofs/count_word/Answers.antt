-- Each byte of the codeword is counted in the node to which the bytes before it lead. Assumes nothing.
use Rattle.std.proofs.Common.{◌<◌, length, get_or, sym, ap, refl, ◌∙◌, arith}
use Rattle.filling.proofs.Filling.{word, held_none, held_all, counted_same, node_next, counted_next, next_inside, next_most}
use Rattle.filling.proofs.count_word.Goals as goal
use Rattle.filling.proofs.count_word.Goals.{In-loop-byte}

-- the next byte is one of the codeword
more : (c : In-loop-byte) → c.loop-byte.byte-index < length (word c.args.s c.args.text.now c.args.place.0)
more c = omega (arith, ap length c.encode-word.ensures.0, c.loop-byte-test.true)

-- its node is one of those that are counted
inside : (c : In-loop-byte) → c.loop-byte.node < length c.loop-byte.lengths
inside c =
    omega (
      arith,
      c.loop-byte.auto.lengths,
      next_inside c.args.s c.args.text.now c.args.place.0 _ (more c) c.loop-byte.node c.loop-byte.invariant.0 (length c.args.lengths.now) c.requires.0 c.requires.1,
    )

pub loop-byte-init : goal.loop-byte-init
loop-byte-init c = (refl, counted_same _ _ c.args.lengths.now (λ k. sym (held_none c.args.s c.args.text.now c.args.place.0 k)) c.requires.2)

pub offset_bounds-lengths-node : goal.offset_bounds-lengths-node
offset_bounds-lengths-node c = omega (arith, inside c)

pub bounds-lengths-node : goal.bounds-lengths-node
bounds-lengths-node c = inside ((goal.at.bounds-lengths-node c).In-loop-byte)

pub overflow_add-lengths : goal.overflow_add-lengths
overflow_add-lengths c =
    let l = c.loop-byte in
    omega (arith, next_most c.args.s c.args.text.now c.args.place.0 _ (more ((goal.at.overflow_add-lengths c).In-loop-byte)) l.node l.invariant.0 (length c.args.lengths.now) c.requires.0 c.requires.1 l.lengths l.auto.lengths l.invariant.1)

pub bounds-lengths-node-in-loop-byte : goal.bounds-lengths-node-in-loop-byte
bounds-lengths-node-in-loop-byte c = inside ((goal.at.bounds-lengths-node-in-loop-byte c).In-loop-byte)

pub child-node-requires : goal.child-node-requires
child-node-requires c =
    (c.requires.0.closing, omega (arith, inside ((goal.at.child-node-requires c).In-loop-byte), c.loop-byte.auto.lengths, c.requires.0.number))

pub loop-byte-preserved : goal.loop-byte-preserved
loop-byte-preserved c =
    let a = c.args in
    let l = c.loop-byte in
    let before = (goal.at.loop-byte-preserved c).In-loop-byte in
    let is = c.encode-word.ensures.0 in (
      c.child-node.ensures ∙ node_next a.s a.text.now a.place.0 l.byte-index (more before) l.node l.invariant.0 _ (ap (λ bs. get_or bs l.byte-index 0) is),
      counted_next a.s a.text.now a.place.0 l.byte-index (more before) l.node l.invariant.0 l.lengths (inside before) l.invariant.1,
    )

pub returns : goal.returns
returns c =
    counted_same _ _ c.loop-byte.lengths
    (held_all c.args.s c.args.text.now c.args.place.0 c.requires.0.closing c.requires.1 c.requires.0.codes c.loop-byte.byte-index (omega (arith, ap length c.encode-word.ensures.0)))
    c.loop-byte.invariant.1
