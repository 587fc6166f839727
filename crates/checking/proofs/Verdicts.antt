-- What arrays that pass have of each test of the check, and that arrays that have all of them pass. Assumes nothing.
use Prim.Native.Nat.{ℕ, ◌≤◌}
use mathlib.Core.Path.{◌≡◌, refl, sym, ◌∙◌}
use mathlib.Core.Bool.{Bool, true, false, false≢true}
use native.Mathlib.Omega.{arith}
use lib.ListN.{length, get_or}
use Rattle.base.specs.Lists.{Below, total}
use Rattle.base.specs.Texts.{max_words}
use Rattle.base.proofs.Tests.{false_of}
use Rattle.base.proofs.Segments.{segment_length}
use Rattle.dense.specs.Code.{Closing, max_vocabulary}
use Rattle.directory.specs.Counters.{Directory}
use Rattle.tree.specs.Nodes.{node_count}
use Rattle.index.specs.declared.Shape.{Shape}
use Rattle.index.specs.Arrays.{Arrays, passes}
use Rattle.node_checks.specs.Tests.{nodes_pass}
use Rattle.index.proofs.Passing.{passes_tests, tests_passes}
use Rattle.node_checks.proofs.Tested.{good_pass, pass_good}

module _ (s : ℕ) (within : Closing s) (shape : Shape) (fits : shape.vocabulary ≤ max_vocabulary s) (a : Arrays) where
  -- the nodes of arrays that pass do
  pub passes_nodes : passes s shape a ≡ true → Below 256 a.bytes → nodes_pass s shape.vocabulary a.lengths a.bytes ≡ true
  passes_nodes e b = let tested = passes_tests s within shape fits a e in
      good_pass s shape.vocabulary a.lengths a.bytes b tested.whole tested.good

  -- arrays that have all that is tested before the nodes pass exactly if their nodes do
  pub nodes_decide : Below 256 a.bytes → length a.lengths ≡ node_count s shape.vocabulary → total a.lengths ≡ length a.bytes → get_or a.lengths 0 0 ≤ max_words
      → Directory shape.block shape.per_superblock a.bytes a.superblocks a.blocks
      → nodes_pass s shape.vocabulary a.lengths a.bytes ≡ passes s shape a
  nodes_decide b number whole root d = go (nodes_pass s shape.vocabulary a.lengths a.bytes) refl
    where
      go : (t : Bool) → nodes_pass s shape.vocabulary a.lengths a.bytes ≡ t → nodes_pass s shape.vocabulary a.lengths a.bytes ≡ passes s shape a
      go true e =
          e ∙ sym (tests_passes s within shape fits a record {
            whole = whole;
            good = pass_good s shape.vocabulary a.lengths a.bytes b whole number e;
            short = omega (arith, root, segment_length a.lengths a.bytes 0 (omega arith));
            superblocks_are = d.superblocks_are;
            blocks_are = d.blocks_are;
          })
      go false e = e ∙ sym (false_of (passes s shape a) (λ p. false≢true (sym e ∙ passes_nodes p b)))

  -- arrays that lack what those that pass have do not pass
  pub not_passing : (passes s shape a ≡ true → ⊥) → false ≡ passes s shape a
  not_passing n = sym (false_of (passes s shape a) n)
