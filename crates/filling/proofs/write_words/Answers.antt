-- No word stands at first, and at the end the whole text does. Assumes nothing.
use Rattle.std.proofs.Common.{ℕ, ◌≡◌, length, take, sym, ap, ◌∙◌, arith, rules}
use Rattle.std.proofs.Math.Seq.{take_all}
use Rattle.tree.specs.Nodes.{node_bytes}
use Rattle.filling.specs.Filling.{node_lengths}
use Rattle.filling.proofs.Filling.{counted_none, counted_same, counted_lengths, stands_none, stands_same, stands_whole}
use Rattle.filling.proofs.write_words.Goals as goal

pub loop-place-init : goal.loop-place-init
loop-place-init c =
    let a = c.args in
    (rw (c.fill.ensures.after (search rules)) (counted_none a.s a.text.now (length a.lengths.now)), stands_none a.s a.text.now _ a.starts.now a.bytes.now)

pub returns : goal.returns
returns c =
    let a = c.args in
    let l = c.loop-place in
    let as_long : length l.lengths ≡ length a.lengths.now = l.auto.lengths ∙ c.fill.ensures.len in
    let all : (k : ℕ) → node_bytes a.s k (take l.place a.text.now) ≡ node_bytes a.s k a.text.now = λ k. ap (node_bytes a.s k) (take_all l.place a.text.now (omega arith)) in (
      counted_lengths a.s a.text.now l.lengths (counted_same _ _ l.lengths all l.invariant.0) ∙ ap (λ n. node_lengths a.s n a.text.now) as_long,
      stands_whole a.s (length a.lengths.now) a.text.now a.starts.now l.bytes c.requires.1.begin (c.requires.1.whole ∙ sym l.auto.bytes)
          (rw as_long at (stands_same _ _ (length l.lengths) a.starts.now l.bytes all l.invariant.1)),
    )
