-- A test that fails is one that arrays that pass meet, and past all of them the nodes decide. Assumes nothing.
use Rattle.std.proofs.Common.{◌<◌, ◌≡◌, length, sym, ◌∙◌, arith}
use borrow.Author.Tests.{eq-eqb, eqb-true}
use Rattle.std.proofs.lemmas.Bool.{false≢true}
use Rattle.directory.proofs.Rows.{directory_of}
use Rattle.tree.specs.Nodes.{node_count}
use Rattle.tree.proofs.Numbers.{nodes_most, levels_most, node_below}
use Rattle.index.specs.Lent.{slices_of}
use Rattle.index.proofs.Passing.{passes_number, passes_whole, passes_bytes, passes_root, passes_directory}
use Rattle.checking.proofs.Verdicts.{nodes_decide, not_passing}
use Rattle.checking.proofs.passes.Goals as goal
use Rattle.checking.proofs.passes.Goals.{Else-lengths-node_count}

-- past the first test there are N lengths
number : (c : Else-lengths-node_count) → length c.args.index.now.lengths.now ≡ node_count c.args.index.now.s c.args.index.now.shape.vocabulary
number c = c.if-lengths-node_count.false ∙ c.node_count.ensures

-- so there is one
some : (c : Else-lengths-node_count) → 0 < length c.args.index.now.lengths.now
some c = rw (number c) (node_below c.args.index.now.s c.requires.0 c.args.index.now.shape.vocabulary 0 (omega (arith, c.requires.1.some_word)))

pub returns-then-lengths-node_count : goal.returns-then-lengths-node_count
returns-then-lengths-node_count c =
    let x = c.args.index.now in
    not_passing x.s c.requires.0 x.shape c.requires.1.most_words (slices_of x)
    (λ e. c.if-lengths-node_count.true (passes_number x.s c.requires.0 x.shape c.requires.1.most_words (slices_of x) e ∙ sym c.node_count.ensures))

pub returns-then-bytes-gt-MAX_BYTES : goal.returns-then-bytes-gt-MAX_BYTES
returns-then-bytes-gt-MAX_BYTES c =
    let x = c.args.index.now in
    not_passing x.s c.requires.0 x.shape c.requires.1.most_words (slices_of x)
    (λ e. absurd (omega (arith, c.if-bytes-gt-MAX_BYTES.true, passes_bytes x.s c.requires.0 x.shape c.requires.1.most_words (slices_of x) e)))

pub add_up-requires : goal.add_up-requires
add_up-requires c =
    let x = c.args.index.now in
    omega (arith, number ((goal.at.add_up-requires c).Else-lengths-node_count), nodes_most x.s c.requires.0 x.shape.vocabulary c.requires.1.most_words, levels_most x.s c.requires.0)

pub returns-then-not-add_up : goal.returns-then-not-add_up
returns-then-not-add_up c =
    let x = c.args.index.now in
    not_passing x.s c.requires.0 x.shape c.requires.1.most_words (slices_of x)
    (λ e. false≢true (sym (sym c.add_up.ensures.whole ∙ c.if-not-add_up.true) ∙ eq-eqb _ _ (passes_whole x.s c.requires.0 x.shape c.requires.1.most_words (slices_of x) e)))

pub bounds-lengths-0 : goal.bounds-lengths-0
bounds-lengths-0 c = some ((goal.at.bounds-lengths-0 c).Else-lengths-node_count)

pub returns-then-lengths-gt-MAX_WORDS : goal.returns-then-lengths-gt-MAX_WORDS
returns-then-lengths-gt-MAX_WORDS c =
    let x = c.args.index.now in
    not_passing x.s c.requires.0 x.shape c.requires.1.most_words (slices_of x)
    (λ e. absurd (omega (arith, c.if-lengths-gt-MAX_WORDS.true, passes_root x.s c.requires.0 x.shape c.requires.1.most_words (slices_of x) e)))

pub returns-then-not-verify : goal.returns-then-not-verify
returns-then-not-verify c =
    let x = c.args.index.now in
    not_passing x.s c.requires.0 x.shape c.requires.1.most_words (slices_of x)
    (λ e. false≢true (sym (sym c.verify.ensures ∙ c.if-not-verify.true) ∙ passes_directory x.s c.requires.0 x.shape c.requires.1.most_words (slices_of x) e))

pub invariant_of-counted : goal.invariant_of-counted
invariant_of-counted c =
    let x = c.args.index.now in
    record {
      sizes = record { block_some = c.requires.1.some_byte; per_some = c.requires.1.some_block; superblock_most = c.requires.1.most_bytes; bytes_most = c.if-bytes-gt-MAX_BYTES.false };
      directory = directory_of x.shape.block x.shape.per_superblock x.bytes.now x.superblocks.now x.blocks.now (sym c.verify.ensures ∙ c.if-not-verify.false);
    }

pub nodes_pass-requires : goal.nodes_pass-requires
nodes_pass-requires c =
    let x = c.args.index.now in (
      c.requires.0,
      omega (arith, number ((goal.at.nodes_pass-requires c).Else-lengths-node_count), nodes_most x.s c.requires.0 x.shape.vocabulary c.requires.1.most_words),
      eqb-true _ _ (sym c.add_up.ensures.whole ∙ c.if-not-add_up.false),
    )

pub returns : goal.returns
returns c =
    let x = c.args.index.now in
    c.nodes_pass.ensures
    ∙ nodes_decide x.s c.requires.0 x.shape c.requires.1.most_words (slices_of x) c.add_up.ensures.elements (number ((goal.at.returns c).Else-lengths-node_count))
    (eqb-true _ _ (sym c.add_up.ensures.whole ∙ c.if-not-add_up.false)) c.if-lengths-gt-MAX_WORDS.false
    (directory_of x.shape.block x.shape.per_superblock x.bytes.now x.superblocks.now x.blocks.now (sym c.verify.ensures ∙ c.if-not-verify.false))
