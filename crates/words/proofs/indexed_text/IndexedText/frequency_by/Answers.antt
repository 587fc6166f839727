-- The closing byte is counted in the whole node of the first step. Assumes nothing.
use Rattle.std.proofs.Common.{◌<◌, ℕ, List, length, get_or, take, refl, sym, ap, ap₂, ◌∙◌, arith}
use Rattle.std.proofs.Math.Seq.{take_all}
use Rattle.base.specs.Lists.{count_of}
use Rattle.index.specs.Lent.{slices_of}
use Rattle.words.proofs.Parts.{node_in, node_size, node_from_lem}
use Rattle.words.proofs.Positions.{end_there, often}
use Rattle.words.proofs.indexed_text.IndexedText.frequency_by.Goals as goal
use Rattle.words.proofs.indexed_text.IndexedText.frequency_by.Goals.{Start}

-- the node of the first step is there
here : (c : Start) → c.args.first.node < length c.args.self.now.index.lengths.now
here c = rw c.requires.1.node_is (end_there c.args.self.now.ready.checked c.args.rank c.requires.0)

pub bounds-self-first : goal.bounds-self-first
bounds-self-first c = here (goal.at.bounds-self-first c).Start

pub count_in_step-requires : goal.count_in_step-requires
count_in_step-requires c =
    let ready = c.args.self.now.ready in
    let first = c.requires.1 in
    let k = c.args.first.node in
    let h = here (goal.at.count_in_step-requires c).Start in (
      h,
      record { node_is = refl; byte_is = refl; skipped_is = rw (first.node_is, first.byte_is) first.skipped_is },
      rw (node_from_lem ready k h) (omega (arith, node_size ready.checked k)),
    )

pub returns : goal.returns
returns c =
    let ready = c.args.self.now.ready in
    let first = c.requires.1 in
    let k = c.args.first.node in
    let a = slices_of c.args.self.now.index in
    let n = get_or a.lengths k 0 in
    c.count_in_step.ensures
    ∙ ap (λ (x : List ℕ). count_of c.args.first.byte (take n x)) (node_from_lem ready k (here (goal.at.returns c).Start))
    ∙ ap (count_of c.args.first.byte) (take_all n (node_in a k) (omega (arith, node_size ready.checked k)))
    ∙ ap₂ (λ (b k : ℕ). count_of b (node_in a k)) first.byte_is first.node_is
    ∙ sym (often ready.checked c.args.rank c.requires.0)
