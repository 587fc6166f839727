-- No word is counted at first, and at the end the whole text is. Assumes nothing.
use Rattle.std.proofs.Common.{length, ap, ◌∙◌, arith, rules}
use Rattle.std.proofs.Math.Seq.{take_all}
use Rattle.tree.specs.Nodes.{node_bytes}
use Rattle.filling.specs.Filling.{node_lengths}
use Rattle.filling.proofs.Filling.{counted_none, counted_same, counted_lengths}
use Rattle.filling.proofs.count_nodes.Goals as goal

pub loop-place-init : goal.loop-place-init
loop-place-init c = rw (c.fill.ensures.after (search rules)) (counted_none c.args.s c.args.text.now (length c.args.lengths.now))

pub returns : goal.returns
returns c =
    let a = c.args in
    let l = c.loop-place in
    counted_lengths a.s a.text.now l.lengths (counted_same _ _ l.lengths (λ k. ap (node_bytes a.s k) (take_all l.place a.text.now (omega arith))) l.invariant)
    ∙ ap (λ n. node_lengths a.s n a.text.now) (l.auto.lengths ∙ c.fill.ensures.len)
