-- The text of arrays that have passed the check, and its places as positions in their nodes. Assumes nothing.
use Prim.Native.Nat.{ℕ, ◌+◌, ◌-◌, ◌≤◌, ◌<◌}
use mathlib.Core.Path.{◌≡◌, sym, ap, ◌∙◌}
use mathlib.Core.List.{List, [], ◌∷◌, ◌++◌}
use native.Mathlib.Nat.{div-le_self}
use native.Mathlib.Omega.{arith}
use lib.ListN.{length, take, get_or, length-take, length-map}
use Rattle.base.specs.Lists.{Below, count_of, nth}
use Rattle.base.specs.Texts.{max_words}
use Rattle.base.proofs.Lists.{all_at, below_weaken, get_d_map}
use Rattle.base.proofs.Segments.{segment_element}
use Rattle.base.proofs.Sums.{total_take_suc, total_take_whole}
use Rattle.base.proofs.Counts.{nth_here, count_take_less}
use Rattle.dense.specs.Code.{continuing, max_vocabulary, code}
use Rattle.tree.specs.Nodes.{parent, digit, node_of, closing_byte, path, first_byte, node_bytes, position}
use Rattle.tree.proofs.Numbers.{digit_below, child_of_parent, node_of_below}
use Rattle.tree.proofs.Paths.{path_further, code_end}
use Rattle.tree.proofs.Frequency.{take_position, position_root, position_child, byte_of_place, position_inside, occurrences_below_lem, frequency}
use Rattle.tree.proofs.Nodes.{byte_at, reach_root}
use Rattle.tree.proofs.Passing.{text_below}
use Rattle.tree.proofs.Words.{length_of_text, node_of_text}
use Rattle.index.specs.declared.Shape.{Shape}
use Rattle.index.specs.Arrays.{Arrays, nodes_in, text_in}
use Rattle.words.specs.Ready.{Checked}
use Rattle.words.proofs.Parts.{node_in, checked_tested, checked_number, checked_some, node_size}

-- the parent of a node other than the root has a smaller number
pub parent_less : (s k : ℕ) → 1 ≤ k → parent s k < k
parent_less s k h = omega (arith, div-le_self (k - 1) (continuing s))

-- the codeword of rank i leads to node k
abbrev pub Leads : ℕ → ℕ → ℕ → Type 0
Leads s i k = (r : List ℕ) × (code s i ≡ path s k ++ r)

module _ {s : ℕ} {shape : Shape} {a : Arrays} (checked : Checked s shape a) where
  -- ---- the text

  -- it has a word for each byte of the root
  pub text_size_lem : length (text_in s a) ≡ length (node_in a 0)
  unfolding text_in
  text_size_lem = length_of_text s checked.closing shape.vocabulary checked.limits.most_words (nodes_in a) (checked_tested checked).good

  -- it is short enough to count
  pub text_most : length (text_in s a) ≤ max_words
  text_most = rw text_size_lem (checked_tested checked).short

  -- all ranks are below V
  pub ranks_below_lem : Below shape.vocabulary (text_in s a)
  unfolding text_in
  ranks_below_lem = text_below s checked.closing shape.vocabulary checked.limits.most_words (nodes_in a) (checked_tested checked).good

  pub rank_below : (p : ℕ) → p < length (text_in s a) → get_or (text_in s a) p 0 < shape.vocabulary
  rank_below p h = all_at (λ (r : ℕ). r < shape.vocabulary) (text_in s a) 0 p ranks_below_lem h

  -- so that they have codewords
  has_codes : Below (max_vocabulary s) (text_in s a)
  has_codes = below_weaken shape.vocabulary (max_vocabulary s) (text_in s a) checked.limits.most_words ranks_below_lem

  -- each node is the node of the text
  node_is : (k : ℕ) → node_in a k ≡ node_bytes s k (text_in s a)
  unfolding text_in
  node_is k = node_of_text s checked.closing shape.vocabulary checked.limits.most_words (nodes_in a) (checked_tested checked).good k

  -- the byte of the root at a place, which is the byte at that position of all, is the first of the codeword of the word there
  pub root_byte : (p : ℕ) → p < length (text_in s a) → get_or a.bytes p 0 ≡ first_byte (code s (get_or (text_in s a) p 0))
  root_byte p h =
      let z : 0 + p ≡ p = omega arith in
      ap (λ (i : ℕ). get_or a.bytes i 0) (sym z)
      ∙ sym (segment_element a.lengths a.bytes 0 p (omega (arith, text_size_lem, node_size checked 0)))
      ∙ ap (λ (x : List ℕ). get_or x p 0) (node_is 0)
      ∙ byte_at s 0 p (text_in s a) (rw (reach_root s (text_in s a), length-map (text_in s a) (code s)) h)
      ∙ ap first_byte (ap (λ (x : List (List ℕ)). get_or x p []) (reach_root s (text_in s a)) ∙ get_d_map (code s) (text_in s a) p [] 0 h)

  -- and the root lies inside the bytes
  pub root_inside : length (text_in s a) ≤ length a.bytes
  root_inside =
      omega (arith, text_size_lem, node_size checked 0, total_take_suc a.lengths 0 (checked_some checked), total_take_whole a.lengths 1, (checked_tested checked).whole)

  -- ---- positions

  -- a position of a place is at most the length of the node
  pub position_most : (k p : ℕ) → position s k p (text_in s a) ≤ length (node_in a k)
  unfolding position
  position_most k p =
      omega (
        arith,
        ap length (node_is k),
        ap length (take_position s k p (text_in s a)),
        length-take (position s k p (text_in s a)) (node_bytes s k (text_in s a)),
      )

  -- in the root a place is a position
  pub at_root : (p : ℕ) → p ≤ length (text_in s a) → position s 0 p (text_in s a) ≡ p
  at_root p h = position_root s p (text_in s a) h

  -- the position in a node other than the root counts the digit of the node below the position in its parent
  pub at_child : (k p : ℕ) → 1 ≤ k → position s k p (text_in s a) ≡ count_of (digit s k) (take (position s (parent s k) p (text_in s a)) (node_in a (parent s k)))
  at_child k p h =
      ap (λ (x : ℕ). position s x p (text_in s a)) (sym (child_of_parent s checked.closing k h))
      ∙ position_child s (parent s k) (digit s k) p (text_in s a) (digit_below s checked.closing k)
      ∙ ap (λ (x : List ℕ). count_of (digit s k) (take (position s (parent s k) p (text_in s a)) x)) (sym (node_is (parent s k)))

  module _ (i : ℕ) (h : i < shape.vocabulary) where
    has_code : i < max_vocabulary s
    has_code = omega (arith, checked.limits.most_words)

    -- the node in which a rank ends is there
    pub end_there : node_of s i < length a.lengths
    end_there = omega (arith, checked_number checked, node_of_below s checked.closing shape.vocabulary i h)

    -- ---- how often

    -- a rank stands below a place as often as its closing byte stands below the position of the place in its node
    pub often_below : (p : ℕ) → count_of i (take p (text_in s a)) ≡ count_of (closing_byte s i) (take (position s (node_of s i) p (text_in s a)) (node_in a (node_of s i)))
    often_below p =
        occurrences_below_lem s checked.closing i p (text_in s a) has_code has_codes
        ∙ ap (λ (x : List ℕ). count_of (closing_byte s i) (take (position s (node_of s i) p (text_in s a)) x)) (sym (node_is (node_of s i)))

    -- and in the text as often as in its node
    pub often : count_of i (text_in s a) ≡ count_of (closing_byte s i) (node_in a (node_of s i))
    often = frequency s checked.closing i (text_in s a) has_code has_codes ∙ ap (count_of (closing_byte s i)) (sym (node_is (node_of s i)))

    -- ---- where

    -- a codeword leads to the node in which it ends
    pub leads_end : Leads s i (node_of s i)
    leads_end = (closing_byte s i ∷ [], code_end s checked.closing i has_code)

    -- and with a node other than the root to its parent, where it goes on with the node's digit
    leads-parent : (k : ℕ) → 1 ≤ k → (r : List ℕ) → code s i ≡ path s k ++ r → code s i ≡ path s (parent s k) ++ (digit s k ∷ r)
    leads-parent k least r e =
        e
        ∙ ap (λ (x : ℕ). path s x ++ r) (sym (child_of_parent s checked.closing k least))
        ∙ sym (path_further s (parent s k) (digit s k) r (digit_below s checked.closing k))

    pub leads_up : (k : ℕ) → 1 ≤ k → Leads s i k → Leads s i (parent s k)
    leads_up k least l = (digit s k ∷ l.0, leads-parent k least l.0 l.1)

    -- the rank stands at a place p
    module _ (p : ℕ) (inside : p < length (text_in s a)) (stands : get_or (text_in s a) p 0 ≡ i) where
      -- in a node from which its codeword goes on with b, b stands at the position of p
      module _ (k b : ℕ) (r : List ℕ) (e : code s i ≡ path s k ++ (b ∷ r)) where
        there : position s k p (text_in s a) < length (node_in a k)
        there = rw (node_is k) (position_inside s k p b r (text_in s a) inside (ap (code s) stands ∙ e))

        byte-there : get_or (node_in a k) (position s k p (text_in s a)) 0 ≡ b
        byte-there = rw (node_is k) (byte_of_place s k p b r (text_in s a) inside (ap (code s) stands ∙ e))

      -- in the node in which it ends, its closing byte stands there with as many others before it as the rank has
      pub end_position : nth (closing_byte s i) (count_of i (take p (text_in s a))) (node_in a (node_of s i)) ≡ position s (node_of s i) p (text_in s a)
      end_position =
          let k = node_of s i in
          let e = code_end s checked.closing i has_code in
          nth_here (closing_byte s i) (count_of i (take p (text_in s a))) (position s k p (text_in s a)) (node_in a k)
          (there k (closing_byte s i) [] e) (byte-there k (closing_byte s i) [] e) (sym (often_below p))

      -- from a node to which it leads, one step up: the digit of the node stands in the parent at the position there, with as many others
      -- before it as the position in the node says
      module _ (k : ℕ) (least : 1 ≤ k) (l : Leads s i k) where
        pub parent_position : nth (digit s k) (position s k p (text_in s a)) (node_in a (parent s k)) ≡ position s (parent s k) p (text_in s a)
        parent_position =
            let e = leads-parent k least l.0 l.1 in
            nth_here (digit s k) (position s k p (text_in s a)) (position s (parent s k) p (text_in s a)) (node_in a (parent s k))
            (there (parent s k) (digit s k) l.0 e) (byte-there (parent s k) (digit s k) l.0 e) (sym (at_child k p least))

        pub parent_has : position s k p (text_in s a) < count_of (digit s k) (node_in a (parent s k))
        parent_has =
            let e = leads-parent k least l.0 l.1 in
            omega (
              arith,
              at_child k p least,
              count_take_less (digit s k) (node_in a (parent s k)) (position s (parent s k) p (text_in s a))
                  (there (parent s k) (digit s k) l.0 e) (byte-there (parent s k) (digit s k) l.0 e),
            )
