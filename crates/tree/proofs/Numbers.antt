-- Laws of the numbers of the nodes: children and parents, how many nodes there are, and where a codeword ends. Assumes nothing.
use Prim.Native.Nat.{ℕ, zero, suc, ◌+◌, ◌-◌, ◌*◌, ◌/◌, ◌%◌, ◌≤◌, ◌<◌}
use mathlib.Core.Path.{◌≡◌, refl, sym, ap, ◌∙◌}
use mathlib.Core.Logic.{◌⊎◌, inl, inr}
use mathlib.Core.List.{List, [], ◌∷◌, get_last_d}
use native.Mathlib.Nat.{mod-lt, div-add-mod, div-le_self, mul-div-le, mul-le-mul, mul-le-mul_left, mul-le-mul_right, le-div_iff_mul-le}
use native.Mathlib.Omega.{arith}
use lib.ListN.{length}
use Rattle.base.proofs.Tests.{below_or_not}
use Rattle.dense.specs.Code.{Closing, continuing, max_vocabulary, code, rank_of, Word, closing, continued}
use Rattle.dense.proofs.Numbers.{digit_div, digit_mod}
use Rattle.dense.proofs.Codewords.{code_word, code_short, rank_of_code}
use Rattle.tree.specs.Nodes.{child, parent, digit, node_count, max_nodes, node_of, closing_byte, rank_in}
use Rattle.tree.specs.Walks.{end_node, end_byte, rank_from}

-- ---- children and parents

-- a child is not the root
pub child_suc : (s k e : ℕ) → child s k e ≡ suc (continuing s * k + e)
child_suc s k e = omega arith

-- a child gives its parent and its byte back
pub child_parent : (s k e : ℕ) → e < continuing s → parent s (child s k e) ≡ k
child_parent s k e h =
    let m : child s k e - 1 ≡ continuing s * k + e = omega arith in
    ap (λ (x : ℕ). x / continuing s) m ∙ digit_div (continuing s) k e h

pub child_digit : (s k e : ℕ) → e < continuing s → digit s (child s k e) ≡ e
child_digit s k e h =
    let m : child s k e - 1 ≡ continuing s * k + e = omega arith in
    ap (λ (x : ℕ). x % continuing s) m ∙ digit_mod (continuing s) k e h

-- two children are one only if parents and bytes are
pub child_same : (s k e j f : ℕ) → e < continuing s → f < continuing s → child s k e ≡ child s j f → (k ≡ j) × (e ≡ f)
child_same s k e j f he hf q = (
  sym (child_parent s k e he) ∙ ap (parent s) q ∙ child_parent s j f hf,
  sym (child_digit s k e he) ∙ ap (digit s) q ∙ child_digit s j f hf,
)

module _ (s : ℕ) (within : Closing s) where
  -- every node but the root is the child of its parent by its digit
  pub digit_below : (k : ℕ) → digit s k < continuing s
  digit_below k = mod-lt (k - 1) (omega arith)

  pub child_of_parent : (k : ℕ) → 1 ≤ k → child s (parent s k) (digit s k) ≡ k
  child_of_parent k h = omega (arith, div-add-mod (k - 1) (continuing s))

  -- a child has a larger number than its parent
  pub child_above : (k e : ℕ) → k < child s k e
  child_above k e =
      let c : 1 ≤ continuing s = omega arith in
      omega (arith, mul-le-mul_right k c)

  -- what holds of the root, and of each child of a node of which it holds, holds of every node
  pub node_ind : (P : ℕ → Type 0) → P 0 → ((k e : ℕ) → e < continuing s → P k → P (child s k e)) → (k : ℕ) → P k
  node_ind P root step k = go k k (omega arith)
    where
      go : (d k : ℕ) → k ≤ d → P k
      go zero zero h = root
      go zero (suc k) h = absurd (omega arith)
      go (suc d) zero h = root
      go (suc d) (suc k) h =
          rw (child_of_parent (suc k) (omega arith)) at
          (step (parent s (suc k)) (digit s (suc k)) (digit_below (suc k)) (go d (parent s (suc k)) (omega (arith, div-le_self (suc k - 1) (continuing s)))))

  -- ---- how many nodes

  -- a node is one of them exactly if its first rank is below V
  pub node_below : (v k : ℕ) → s * k < v → k < node_count s v
  node_below v k l = (le-div_iff_mul-le within.least).1 (omega arith)

  pub below_node : (v k : ℕ) → k < node_count s v → s * k < v
  below_node v k l = omega (arith, (le-div_iff_mul-le {x = suc k} {y = v + (s - 1)} within.least).0 l)

  -- the node of a rank of the vocabulary is one of them
  pub node_of_below : (v i : ℕ) → i < v → node_of s i < node_count s v
  node_of_below v i h = node_below v (node_of s i) (omega (arith, mul-div-le i s))

  -- ---- where a codeword ends

  -- a codeword never ends in a node with a smaller number than the one in which it starts
  pub end_below : (k : ℕ) (w : List ℕ) → k ≤ end_node s k w
  end_below k [] = omega arith
  end_below k (b ∷ []) = omega arith
  end_below k (b ∷ e ∷ w) = omega (arith, child_above k b, end_below (child s k b) (e ∷ w))

  -- so that it names at least the first rank of that node
  pub rank_least : (k : ℕ) (w : List ℕ) → s * k ≤ rank_from s k w
  rank_least k w = omega (arith, mul-le-mul_left s (end_below k w))

  -- it ends with a closing byte
  pub end_closing : (w : List ℕ) → Word s w → (continuing s ≤ end_byte w) × (end_byte w < 256)
  unfolding get_last_d
  end_closing w (closing b h l) = (h, l)
  end_closing w (continued b h (closing e g l)) = end_closing (e ∷ []) (closing e g l)
  end_closing w (continued b h (continued e {bs} g u)) = end_closing (e ∷ bs) (continued e g u)

-- the rank that ends in the node of rank i with its closing byte is i
pub rank_of_end : (s i b : ℕ) → b ≡ closing_byte s i → rank_in s (node_of s i) b ≡ i
rank_of_end s i b q = omega (arith, div-add-mod i s)

-- a codeword that goes on names what its tail names from the child on
pub rank_continued : (s k b : ℕ) (bs : List ℕ) → Word s bs → rank_from s k (b ∷ bs) ≡ rank_from s (child s k b) bs
unfolding get_last_d
rank_continued s k b bs (closing e g l) = refl
rank_continued s k b bs (continued e g u) = refl

module _ (s : ℕ) (within : Closing s) where
  -- the node in which a codeword ends and its closing byte are those of its rank
  pub word_end_lem : (k : ℕ) (w : List ℕ) → Word s w → (end_node s k w ≡ node_of s (rank_from s k w)) × (end_byte w ≡ closing_byte s (rank_from s k w))
  word_end_lem k w u =
      let b : (continuing s ≤ end_byte w) × (end_byte w < 256) = end_closing s within w u in
      let r : end_byte w - continuing s < s = omega arith in (
        sym (digit_div s (end_node s k w) (end_byte w - continuing s) r),
        omega (arith, digit_mod s (end_node s k w) (end_byte w - continuing s) r),
      )

  -- the rank that a codeword names by node numbers is the one that it names by its digits
  pub rank_from_root : (w : List ℕ) → Word s w → length w ≤ 3 → rank_from s 0 w ≡ rank_of s w
  unfolding get_last_d
  rank_from_root w (closing b h l) n = omega arith
  rank_from_root w (continued a ha (closing b h l)) n = two_digits s (continuing s) a (b - continuing s)
    where
      two_digits : (s c a r : ℕ) → s * (c * 0 + 1 + a) + r ≡ s + (s * a + r)
      two_digits s c a r = omega arith
  rank_from_root w (continued a ha (continued a' ha' (closing b h l))) n = three-digits s (continuing s) a a' (b - continuing s)
    where
      three-digits : (s c a b r : ℕ) → s * (c * (c * 0 + 1 + a) + 1 + b) + r ≡ s + s * c + (s * (c * a + b) + r)
      three-digits s c a b r = omega arith
  rank_from_root w (continued a ha (continued a' ha' (continued a'' ha'' (closing b h l)))) n = absurd (omega arith)
  rank_from_root w (continued a ha (continued a' ha' (continued a'' ha'' (continued b h u)))) n = absurd (omega arith)

  -- the codeword of a rank names it
  pub rank_from_code : (i : ℕ) → i < max_vocabulary s → rank_from s 0 (code s i) ≡ i
  rank_from_code i h = rank_from_root (code s i) (code_word s within i h) (code_short s i).1 ∙ rank_of_code s within i h

  -- and ends in its node with its closing byte
  pub code_ends : (i : ℕ) → i < max_vocabulary s → (end_node s 0 (code s i) ≡ node_of s i) × (end_byte (code s i) ≡ closing_byte s i)
  code_ends i h = rw (rank_from_code i h) at (word_end_lem 0 (code s i) (code_word s within i h))

  -- ---- limits

  -- at most 255 byte values say that another follows
  most_continuing : continuing s ≤ 255
  most_continuing = omega arith

  -- and its nodes in the first three levels
  pub nodes_most : (v : ℕ) → v ≤ max_vocabulary s → node_count s v ≤ max_nodes s
  nodes_most v h = go (below_or_not (max_nodes s) (node_count s v))
    where
      go : (max_nodes s < node_count s v) ⊎ (node_count s v ≤ max_nodes s) → node_count s v ≤ max_nodes s
      go (inl l) = absurd (omega (arith, below_node s within v (max_nodes s) l))
      go (inr l) = l

  -- of which there are at most 1 + 255 + 255 × 255, with one closing value
  pub levels_most : max_nodes s ≤ 65281
  levels_most = omega (arith, mul-le-mul most_continuing most_continuing)

  -- so that the numbers of their children are small
  pub children_most : (k : ℕ) → k < max_nodes s → continuing s * k ≤ 16646400
  children_most k h = omega (arith, levels_most, mul-le-mul_right k most_continuing)
