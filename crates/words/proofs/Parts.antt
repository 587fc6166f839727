-- Arrays that have passed the check: their sizes, their directory, and their nodes as parts of the bytes. Assumes nothing.
use Prim.Native.Nat.{ℕ, suc, ◌+◌, ◌-◌, ◌≤◌, ◌<◌}
use mathlib.Core.Path.{◌≡◌, sym, ap, ◌∙◌, refl}
use mathlib.Core.List.{List}
use native.Mathlib.Omega.{arith}
use borrow.Author.Tests.{eq-eqb, not-false}
use lib.ListN.{length, take, drop, get_or, length-take, length-drop}
use lib.Seq.{take-take, get_or-take, get_or-drop}
use Rattle.base.specs.Answers.{accepted, NoneHolds}
use Rattle.base.specs.Lists.{total, count_of, nth}
use Rattle.base.proofs.Answers.{none_holds}
use Rattle.base.proofs.Lists.{all_at}
use Rattle.base.proofs.Counts.{count_most, count_part, nth_part}
use Rattle.base.proofs.Sums.{total_take_suc, total_take_whole}
use Rattle.base.proofs.Segments.{segment_at, segment_length}
use Rattle.dense.specs.Code.{Closing, vocabulary_case}
use Rattle.directory.specs.Counters.{blocks_case, max_bytes, Sizes, Directory}
use Rattle.tree.specs.Nodes.{node_count}
use Rattle.tree.specs.Walks.{node}
use Rattle.tree.proofs.Numbers.{nodes_most, levels_most, node_below}
use Rattle.tree.proofs.GoodNodes.{node_there}
use Rattle.index.specs.declared.Shape.{Shape}
use Rattle.index.specs.Arrays.{passes, Arrays, nodes_in}
use Rattle.index.specs.Entries.{index_cases, check_answer}
use Rattle.index.proofs.Limits.{tested_limits}
use Rattle.index.proofs.Passing.{Tested, passes_tests, passes_number, passes_bytes}
use Rattle.words.specs.Ready.{Checked, node_from, Counted, Ready}

-- node k of the arrays: its bytes; empty past the last node
abbrev pub node_in : Arrays → ℕ → List ℕ
node_in a k = node (nodes_in a) k

-- arrays that the check has accepted have passed it
pub accepted_checked : (s : ℕ) → Closing s → (shape : Shape) (a : Arrays) → (check_answer s shape a).refusal ≡ 0 → Checked s shape a
unfolding check_answer index_cases vocabulary_case blocks_case
accepted_checked s within shape a e =
    let n : NoneHolds (index_cases s shape a) = none_holds (index_cases s shape a) (accepted 0) (refl, (refl, (refl, tt))) (eq-eqb (check_answer s shape a).refusal 0 e) in
    record { closing = within; limits = tested_limits s shape n.0 n.1.0; passed = not-false (passes s shape a) n.1.1.0 }

module _ {s : ℕ} {shape : Shape} {a : Arrays} (checked : Checked s shape a) where
  -- what the check tests
  pub checked_tested : Tested s shape a
  checked_tested = passes_tests s checked.closing shape checked.limits.most_words a checked.passed

  -- there is a length for each of the N nodes
  pub checked_number : length a.lengths ≡ node_count s shape.vocabulary
  checked_number = passes_number s checked.closing shape checked.limits.most_words a checked.passed

  -- of which there is one, and at most 65,281
  pub checked_some : 0 < length a.lengths
  checked_some = rw checked_number (node_below s checked.closing shape.vocabulary 0 (omega (arith, checked.limits.some_word)))

  pub checked_most : length a.lengths ≤ 65281
  checked_most = omega (arith, checked_number, nodes_most s checked.closing shape.vocabulary checked.limits.most_words, levels_most s checked.closing)

  -- they make up the bytes, of which there are no more than the longest text has
  pub checked_bytes : length a.bytes ≤ max_bytes
  checked_bytes = passes_bytes s checked.closing shape checked.limits.most_words a checked.passed

  pub checked_total : total a.lengths ≤ max_bytes
  checked_total = omega (arith, checked_bytes, checked_tested.whole)

  -- B and b are within their limits, and the counters are those of the bytes
  pub checked_sizes : Sizes shape.block shape.per_superblock a.bytes
  checked_sizes = record { block_some = checked.limits.some_byte; per_some = checked.limits.some_block; superblock_most = checked.limits.most_bytes; bytes_most = checked_bytes }

  pub checked_directory : Directory shape.block shape.per_superblock a.bytes a.superblocks a.blocks
  checked_directory = record { superblocks_are = checked_tested.superblocks_are; blocks_are = checked_tested.blocks_are }

  -- a node has as many bytes as its length says
  pub node_size : (k : ℕ) → length (node_in a k) ≡ get_or a.lengths k 0
  node_size k = segment_length a.lengths a.bytes k (omega (arith, checked_tested.whole))

  -- only a node that is there has a byte
  pub node_inside : (k i : ℕ) → i < length (node_in a k) → k < length a.lengths
  node_inside k i h = omega (arith, checked_number, node_there s shape.vocabulary (nodes_in a) checked_tested.good k i h)

  -- what stands at a position of a node is a byte
  pub byte_small : (k i : ℕ) → i < length (node_in a k) → get_or (node_in a k) i 0 < 256
  byte_small k i h =
      all_at (λ (b : ℕ). b < 256) (node_in a k) 0 i
      (checked_tested.good.bytes k (node_there s shape.vocabulary (nodes_in a) checked_tested.good k i h)) h

-- the node starts of arrays that have passed the check
module _ {s : ℕ} {shape : Shape} {a : Arrays} {starts : List ℕ} (ready : Ready s shape a starts) (k : ℕ) (here : k < length a.lengths) where
  -- the start of a node is the sum of the lengths before it
  start_is : get_or starts k 0 ≡ total (take k a.lengths)
  start_is = ready.nodes.sums k (omega arith)

  -- and the next start is further by its length
  next_is_lem : get_or starts (suc k) 0 ≡ get_or starts k 0 + get_or a.lengths k 0
  next_is_lem = omega (arith, ready.nodes.sums (suc k) (omega arith), start_is, total_take_suc a.lengths k here)

  -- the node from its start on is the node of the arrays
  pub node_from_lem : node_from a.bytes starts k ≡ node_in a k
  node_from_lem =
      let n : get_or starts (suc k) 0 - get_or starts k 0 ≡ get_or a.lengths k 0 = omega (arith, next_is_lem) in
      rw (n, start_is) (sym (segment_at a.lengths a.bytes k))

  -- it can be counted in
  pub node_counted : Counted shape a.bytes a.superblocks a.blocks starts k
  node_counted = record {
    sizes = checked_sizes ready.checked;
    directory = checked_directory ready.checked;
    there = omega (arith, ready.nodes.room);
    inside = omega (arith, start_is, total_take_whole a.lengths k, (checked_tested ready.checked).whole);
  }

-- a node by its start, in all bytes
module _ (bytes starts : List ℕ) (k : ℕ) where
  -- a position of the node is inside
  pub from_inside : (i : ℕ) → i < length (node_from bytes starts k) → get_or starts k 0 + i < length bytes
  from_inside i h =
      omega (
        arith,
        length-take (get_or starts (suc k) 0 - get_or starts k 0) (drop (get_or starts k 0) bytes),
        length-drop (get_or starts k 0) bytes,
      )

  -- and the end of the node inside or at the end
  pub from_end : (i : ℕ) → get_or starts k 0 ≤ length bytes → i ≤ length (node_from bytes starts k) → get_or starts k 0 + i ≤ length bytes
  from_end i l h =
      omega (
        arith,
        length-take (get_or starts (suc k) 0 - get_or starts k 0) (drop (get_or starts k 0) bytes),
        length-drop (get_or starts k 0) bytes,
      )

  -- a position of the node is before the next start
  from_below : (i : ℕ) → i ≤ length (node_from bytes starts k) → i ≤ get_or starts (suc k) 0 - get_or starts k 0
  from_below i h = omega (arith, length-take (get_or starts (suc k) 0 - get_or starts k 0) (drop (get_or starts k 0) bytes))

  -- the byte at a position of the node
  pub from_byte : (i : ℕ) → i < length (node_from bytes starts k) → get_or bytes (get_or starts k 0 + i) 0 ≡ get_or (node_from bytes starts k) i 0
  from_byte i h =
      sym (get_or-take (get_or starts (suc k) 0 - get_or starts k 0) (drop (get_or starts k 0) bytes) i 0 (from_below (suc i) h) ∙ get_or-drop (get_or starts k 0) bytes i 0)

  -- below a position of the node a byte stands in all bytes as often as before the node and, below the position, in it
  pub from_count : (b i : ℕ) → i ≤ length (node_from bytes starts k)
      → count_of b (take (get_or starts k 0 + i) bytes) ≡ count_of b (take (get_or starts k 0) bytes) + count_of b (take i (node_from bytes starts k))
  from_count b i h =
      count_part b (get_or starts k 0) i bytes
      ∙ ap (λ (x : List ℕ). count_of b (take (get_or starts k 0) bytes) + count_of b x)
      (sym (take-take i (get_or starts (suc k) 0 - get_or starts k 0) (drop (get_or starts k 0) bytes) (from_below i h)))

  -- the occurrence of a byte in the node that has j others before it there stands in all bytes as far from the node's start, and has
  -- before it those too that stand before the node
  pub from_nth : (b j : ℕ) → j < count_of b (node_from bytes starts k)
      → nth b (count_of b (take (get_or starts k 0) bytes) + j) bytes ≡ get_or starts k 0 + nth b j (node_from bytes starts k)
  from_nth b j h =
      let before = count_of b (take (get_or starts k 0) bytes) in
      let n = get_or starts (suc k) 0 - get_or starts k 0 in
      let m : before + j - before ≡ j = omega arith in
      let some : get_or starts k 0 < length bytes = omega (arith, from_inside 0 (omega (arith, count_most b (node_from bytes starts k)))) in
      nth_part b (before + j) (get_or starts k 0) n bytes (omega arith) (omega arith) (λ l. omega (arith, count_part b (get_or starts k 0) n bytes))
      ∙ ap (λ (x : ℕ). get_or starts k 0 + nth b x (node_from bytes starts k)) m
