-- Going along a codeword counts the occurrences of its rank below a place and finds the place of one; good nodes answer for their text. Assumes nothing.
use Prim.Native.Nat.{ℕ, ◌≤◌, ◌<◌}
use mathlib.Core.Path.{◌≡◌, refl, sym, ap, ap₂, ◌∙◌}
use mathlib.Core.List.{List, [], ◌∷◌, ◌++◌, get_last_d}
use native.Mathlib.Omega.{arith}
use lib.ListN.{length, take, get_or}
use Rattle.base.specs.Lists.{Below, count_of, nth}
use Rattle.base.proofs.Lists.{below_weaken}
use Rattle.base.proofs.Counts.{Found, nth_here, nth_found}
use Rattle.base.proofs.Ranges.{get_d-map_range, length_map_range}
use Rattle.dense.specs.Code.{Closing, max_vocabulary, code, Word, closing, continued}
use Rattle.dense.proofs.Codewords.{code_word}
use Rattle.tree.specs.Nodes.{child, node_of, closing_byte, path, node_bytes, position}
use Rattle.tree.specs.Walks.{node, text_of, rank_from, word_at, count_below, nth_from, Good}
use Rattle.tree.proofs.Numbers.{rank_continued, word_end_lem, rank_from_code}
use Rattle.tree.proofs.Paths.{path_root, path_further}
use Rattle.tree.proofs.Frequency.{position_root, position_child, byte_of_place, position_inside, occurrences_below_lem}
use Rattle.tree.proofs.Reading.{nodes_at}
use Rattle.tree.proofs.Passing.{root_read, text_below, nodes_of_text}

-- nodes that are those of a text with codewords
module _ (s : ℕ) (within : Closing s) (t : List ℕ) (below : Below (max_vocabulary s) t) (ns : List (List ℕ)) (at : (k : ℕ) → node ns k ≡ node_bytes s k t) where
  -- rank i stands below place p as often as the byte with which it ends in node k stands below the position of p
  closing_count : (k p i b : ℕ) → i < max_vocabulary s → Word s (b ∷ []) → rank_from s k (b ∷ []) ≡ i → count_of b (take (position s k p t) (node_bytes s k t)) ≡ count_of i (take p t)
  unfolding get_last_d
  closing_count k p i b h u q =
      let e : (k ≡ node_of s i) × (b ≡ closing_byte s i) = rw q at (word_end_lem s within k (b ∷ []) u) in
      ap₂ (λ (b k : ℕ). count_of b (take (position s k p t) (node_bytes s k t))) e.1 e.0 ∙ sym (occurrences_below_lem s within i p t h below)

  -- from the position of place p in node k on, the way down counts the occurrences of the rank below p
  count_from : (k p i : ℕ) (w : List ℕ) → i < max_vocabulary s → Word s w → rank_from s k w ≡ i → count_below s ns k (position s k p t) w ≡ count_of i (take p t)
  count_from k p i w h (closing b g l) q =
      ap (λ (x : List ℕ). count_of b (take (position s k p t) x)) (at k) ∙ closing_count k p i b h (closing b g l) q
  count_from k p i w h (continued b {bs} g u) q =
      ap (λ (x : List ℕ). count_below s ns (child s k b) (count_of b (take (position s k p t) x)) bs) (at k)
      ∙ ap (λ (x : ℕ). count_below s ns (child s k b) x bs) (sym (position_child s k b p t g))
      ∙ count_from (child s k b) p i bs h u (sym (rank_continued s k b bs u) ∙ q)

  -- how often rank i stands below place p
  count_below_lem : (i p : ℕ) → i < max_vocabulary s → p ≤ length t → count_below s ns 0 p (code s i) ≡ count_of i (take p t)
  count_below_lem i p h l =
      ap (λ (x : ℕ). count_below s ns 0 x (code s i)) (sym (position_root s p t l))
      ∙ count_from 0 p i (code s i) h (code_word s within i h) (rank_from_code s within i h)

  -- the way back up ends, at each node, at the position of the place of the word
  nth_from_lem : (k p i : ℕ) (w : List ℕ) → i < max_vocabulary s → Word s w → rank_from s k w ≡ i → p < length t → get_or t p 0 ≡ i → code s i ≡ path s k ++ w
      → nth_from s ns k (count_of i (take p t)) w ≡ position s k p t
  nth_from_lem k p i w h (closing b g l) q m o r =
      ap (nth b (count_of i (take p t))) (at k)
      ∙ nth_here b (count_of i (take p t)) (position s k p t) (node_bytes s k t)
      (position_inside s k p b [] t m (ap (code s) o ∙ r)) (byte_of_place s k p b [] t m (ap (code s) o ∙ r)) (closing_count k p i b h (closing b g l) q)
  nth_from_lem k p i w h (continued b {bs} g u) q m o r =
      ap₂ (nth b)
      (nth_from_lem (child s k b) p i bs h u (sym (rank_continued s k b bs u) ∙ q) m o (r ∙ path_further s k b bs g) ∙ position_child s k b p t g)
      (at k)
      ∙ nth_here b (count_of b (take (position s k p t) (node_bytes s k t))) (position s k p t) (node_bytes s k t)
      (position_inside s k p b bs t m (ap (code s) o ∙ r)) (byte_of_place s k p b bs t m (ap (code s) o ∙ r)) refl

  -- where rank i stands with j others before it
  nth_place_lem : (i j : ℕ) → i < max_vocabulary s → j < count_of i t → nth_from s ns 0 j (code s i) ≡ nth i j t
  nth_place_lem i j h l =
      let f : Found i j t = nth_found i j t l in
      ap (λ (x : ℕ). nth_from s ns 0 x (code s i)) (sym f.before)
      ∙ nth_from_lem 0 (nth i j t) i (code s i) h (code_word s within i h) (rank_from_code s within i h) f.inside f.stands (ap (λ (p : List ℕ). p ++ code s i) (sym (path_root s)))
      ∙ position_root s (nth i j t) t (omega (arith, f.inside))

-- good nodes answer for the text that they are read as
module _ (s : ℕ) (within : Closing s) (v : ℕ) (fits : v ≤ max_vocabulary s) (ns : List (List ℕ)) (good : Good s v ns) where
  -- each of them is the node of that text
  pub node_of_text : (k : ℕ) → node ns k ≡ node_bytes s k (text_of s ns)
  node_of_text k =
      ap (λ (x : List (List ℕ)). node x k) (sym (nodes_of_text s within v fits ns good))
      ∙ nodes_at s within v fits (text_of s ns) (text_below s within v fits ns good) k

  has_codes : Below (max_vocabulary s) (text_of s ns)
  has_codes = below_weaken v (max_vocabulary s) (text_of s ns) fits (text_below s within v fits ns good)

  -- its length, the word at a place, how often a rank stands below a place, and where a rank stands
  pub length_of_text : length (text_of s ns) ≡ length (node ns 0)
  unfolding text_of
  length_of_text = length_map_range _ 0 (length (node ns 0))

  pub word_of_text : (p : ℕ) → p < length (node ns 0) → get_or (text_of s ns) p 0 ≡ word_at s ns 3 0 p
  unfolding text_of
  word_of_text p h = get_d-map_range _ (length (node ns 0)) p 0 h ∙ sym (root_read s within v fits ns good p h)

  pub count_of_text : (i p : ℕ) → i < v → p ≤ length (node ns 0) → count_of i (take p (text_of s ns)) ≡ count_below s ns 0 p (code s i)
  count_of_text i p h l = sym (count_below_lem s within (text_of s ns) has_codes ns node_of_text i p (omega arith) (rw length_of_text l))

  pub nth_of_text : (i j : ℕ) → i < v → j < count_of i (text_of s ns) → nth i j (text_of s ns) ≡ nth_from s ns 0 j (code s i)
  nth_of_text i j h l = sym (nth_place_lem s within (text_of s ns) has_codes ns node_of_text i j (omega arith) l)
