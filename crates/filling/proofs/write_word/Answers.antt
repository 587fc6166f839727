-- Each byte of the codeword is written in the node to which the bytes before it lead, behind those that stand there. Assumes nothing.
use Rattle.std.proofs.Common.{◌<◌, ◌≡◌, length, get_or, sym, ap, refl, ◌∙◌, length-set, arith}
use Rattle.filling.proofs.Filling.{lengths_number, word, held_none, held_all, counted_same, stands_same, node_next, counted_next, stands_next, next_inside, next_most, next_place}
use Rattle.filling.proofs.write_word.Goals as goal
use Rattle.filling.proofs.write_word.Goals.{In-loop-byte}

-- the next byte is one of the codeword
more : (c : In-loop-byte) → c.loop-byte.byte-index < length (word c.args.s c.args.text.now c.args.place.0)
more c = omega (arith, ap length c.encode-word.ensures.0, c.loop-byte-test.true)

-- its node is one of those that are written
inside : (c : In-loop-byte) → c.loop-byte.node < length c.args.lengths.now
inside c =
    next_inside c.args.s c.args.text.now c.args.place.0 _ (more c) c.loop-byte.node c.loop-byte.invariant.0 (length c.args.lengths.now) c.requires.in_nodes.0 c.requires.in_nodes.2

pub loop-byte-init : goal.loop-byte-init
loop-byte-init c =
    let a = c.args in (
      refl,
      counted_same _ _ a.lengths.now (λ k. sym (held_none a.s a.text.now a.place.0 k)) c.requires.lengths_counted.0,
      stands_same _ _ (length a.lengths.now) a.starts.now a.bytes.now (λ k. sym (held_none a.s a.text.now a.place.0 k)) c.requires.lengths_counted.1,
    )

pub write_byte-requires : goal.write_byte-requires
write_byte-requires c =
    let a = c.args in
    let l = c.loop-byte in
    let n = length a.lengths.now in
    let parted = c.requires.in_nodes.1 in
    let before = (goal.at.write_byte-requires c).In-loop-byte in (
      omega (arith, inside before, parted.begin.room, lengths_number a.s n a.text.now),
      omega (arith, inside before, l.auto.lengths),
      next_most a.s a.text.now a.place.0 l.byte-index (more before) l.node l.invariant.0 n c.requires.in_nodes.0 c.requires.in_nodes.2 l.lengths l.auto.lengths l.invariant.1,
      next_place a.s a.text.now a.place.0 l.byte-index (more before) l.node l.invariant.0 n c.requires.in_nodes.0 c.requires.in_nodes.2 a.starts.now l.lengths l.bytes parted.begin (parted.whole ∙ sym l.auto.bytes) l.auto.lengths l.invariant.1,
    )

pub child-node-requires : goal.child-node-requires
child-node-requires c =
    (c.requires.in_nodes.0.closing, omega (arith, inside ((goal.at.child-node-requires c).In-loop-byte), c.requires.in_nodes.0.number))

pub loop-byte-preserved : goal.loop-byte-preserved
loop-byte-preserved c =
    let a = c.args in
    let l = c.loop-byte in
    let n = length a.lengths.now in
    let parted = c.requires.in_nodes.1 in
    let wrote = c.write_byte.ensures in
    let before = (goal.at.loop-byte-preserved c).In-loop-byte in
    let byte = ap (λ bs. get_or bs l.byte-index 0) c.encode-word.ensures.0 in
    let as_long : length c.write_byte.new.lengths ≡ n = ap length wrote.0 ∙ simp length-set l.auto.lengths in (
      c.child-node.ensures ∙ node_next a.s a.text.now a.place.0 l.byte-index (more before) l.node l.invariant.0 _ byte,
      rw wrote.0 (counted_next a.s a.text.now a.place.0 l.byte-index (more before) l.node l.invariant.0 l.lengths (omega (arith, inside before, l.auto.lengths)) l.invariant.1),
      rw (as_long, wrote.1)
          (stands_next a.s a.text.now a.place.0 l.byte-index (more before) l.node l.invariant.0 n c.requires.in_nodes.0 c.requires.in_nodes.2 a.starts.now l.lengths l.bytes parted.begin (parted.whole ∙ sym l.auto.bytes) l.auto.lengths l.invariant.1 _ byte
          (rw l.auto.lengths at l.invariant.2)),
    )

pub returns : goal.returns
returns c =
    let a = c.args in
    let l = c.loop-byte in
    let all = held_all a.s a.text.now a.place.0 c.requires.in_nodes.0.closing c.requires.in_nodes.2 c.requires.in_nodes.0.codes l.byte-index (omega (arith, ap length c.encode-word.ensures.0)) in
    (counted_same _ _ l.lengths all l.invariant.1, stands_same _ _ (length l.lengths) a.starts.now l.bytes all l.invariant.2)
