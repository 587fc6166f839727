-- The walk down that reads a word, step by step: from a position that is there to a byte that closes the word. Assumes nothing.
use Prim.Native.Nat.{ℕ, zero, suc, ◌≤◌, ◌<◌}
use mathlib.Core.Path.{◌≡◌, ◌∙◌}
use native.Mathlib.Omega.{arith}
use lib.ListN.{length, take, get_or}
use Rattle.base.specs.Lists.{count_of}
use Rattle.dense.specs.Code.{continuing}
use Rattle.tree.specs.Nodes.{child, node_count, rank_in}
use Rattle.tree.specs.Walks.{word_at}
use Rattle.tree.proofs.Walks.{word_closing, word_continued}
use Rattle.tree.proofs.GoodNodes.{leftmost, leftmost_child, three_levels, node_there, position_there}
use Rattle.tree.proofs.Words.{word_of_text}
use Rattle.index.specs.declared.Shape.{Shape}
use Rattle.index.specs.Arrays.{Arrays, nodes_in, text_in}
use Rattle.words.specs.Ready.{Checked}
use Rattle.words.proofs.Parts.{node_in, checked_tested}
use Rattle.words.proofs.Positions.{text_size_lem}

-- the walk from position i of node k, which is there, reads the word at place p, down so many levels that the nodes end
pub record Reads (s : ℕ) (shape : Shape) (a : Arrays) (p k i : ℕ) : Type 0 where
  pub levels : ℕ
  pub ends : node_count s shape.vocabulary ≤ leftmost s levels k
  pub there : i < length (node_in a k)
  pub reads : get_or (text_in s a) p 0 ≡ word_at s (nodes_in a) levels k i

module _ {s : ℕ} {shape : Shape} {a : Arrays} (checked : Checked s shape a) (p : ℕ) where
  -- it begins in the root, at the place
  pub reads_root : p < length (text_in s a) → Reads s shape a p 0 p
  unfolding text_in
  reads_root h =
      let l : p < length (node_in a 0) = omega (arith, text_size_lem checked) in
      record {
        levels = 3;
        ends = three_levels s checked.closing shape.vocabulary checked.limits.most_words;
        there = l;
        reads = word_of_text s checked.closing shape.vocabulary checked.limits.most_words (nodes_in a) (checked_tested checked).good p l;
      }

  module _ (k i : ℕ) (r : Reads s shape a p k i) where
    -- at a closing byte it has read the word
    pub reads_closing : (b : ℕ) → get_or (node_in a k) i 0 ≡ b → continuing s ≤ b → get_or (text_in s a) p 0 ≡ rank_in s k b
    reads_closing b q h = go r.levels r.ends r.reads
      where
        go : (n : ℕ) → node_count s shape.vocabulary ≤ leftmost s n k → get_or (text_in s a) p 0 ≡ word_at s (nodes_in a) n k i → get_or (text_in s a) p 0 ≡ rank_in s k b
        go zero e w = absurd (omega (arith, node_there s shape.vocabulary (nodes_in a) (checked_tested checked).good k i r.there))
        go (suc n) e w = w ∙ word_closing s (nodes_in a) n k i b q h

    -- at another it goes on in the child by that byte, at the position that counts the byte below
    pub reads_going : (b : ℕ) → get_or (node_in a k) i 0 ≡ b → b < continuing s → Reads s shape a p (child s k b) (count_of b (take i (node_in a k)))
    reads_going b q h = go r.levels r.ends r.reads
      where
        on : count_of b (take i (node_in a k)) < length (node_in a (child s k b))
        on = position_there s shape.vocabulary (nodes_in a) (checked_tested checked).good k i b r.there q h

        go : (n : ℕ) → node_count s shape.vocabulary ≤ leftmost s n k → get_or (text_in s a) p 0 ≡ word_at s (nodes_in a) n k i
            → Reads s shape a p (child s k b) (count_of b (take i (node_in a k)))
        go zero e w = absurd (omega (arith, node_there s shape.vocabulary (nodes_in a) (checked_tested checked).good k i r.there))
        go (suc zero) e w =
            absurd (omega (arith, leftmost_child s 0 k b (node_count s shape.vocabulary) e, node_there s shape.vocabulary (nodes_in a) (checked_tested checked).good (child s k b) (count_of b (take i (node_in a k))) on))
        go (suc (suc n)) e w = record {
          levels = suc n;
          ends = leftmost_child s (suc n) k b (node_count s shape.vocabulary) e;
          there = on;
          reads = w ∙ word_continued s (nodes_in a) n k i b q h;
        }
