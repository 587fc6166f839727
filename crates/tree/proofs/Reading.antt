-- The nodes of a text are read back as the text, and are good. Assumes nothing.
use Prim.Native.Nat.{ℕ, zero, suc, ◌≤◌, ◌<◌}
use mathlib.Core.Path.{◌≡◌, refl, sym, ap, ◌∙◌}
use mathlib.Core.Logic.{◌⊎◌, inl, inr}
use mathlib.Core.List.{List, [], ◌∷◌, map, tail, get_last_d}
use native.Mathlib.Omega.{arith}
use lib.ListN.{length, take, get_or, length-map, get_or-eq_default}
use Rattle.base.specs.Lists.{All, Below, count_of}
use Rattle.base.proofs.Tests.{below_or_not}
use Rattle.base.proofs.Lists.{all_at, all_imp, all_map, get_d_map}
use Rattle.base.proofs.Counts.{count_take_less}
use Rattle.base.proofs.Ranges.{get_d-map_range, length_map_range, map_range_is}
use Rattle.dense.specs.Code.{Closing, continuing, max_vocabulary, code, rank_of, Word, closing, continued}
use Rattle.dense.proofs.Codewords.{code_word, code_short, rank_of_code}
use Rattle.tree.specs.Nodes.{child, node_count, rank_in, first_byte, reach, node_bytes, nodes}
use Rattle.tree.specs.Walks.{node, walk, text_of, rank_from, Good}
use Rattle.tree.proofs.Numbers.{node_below, rank_least}
use Rattle.tree.proofs.Walks.{walk_closing, walk_continued}
use Rattle.tree.proofs.Nodes.{reach_root, length_root, length_node_bytes, byte_at, child_length_lem, child_position_lem, Named, named_reach}

module _ (s : ℕ) (within : Closing s) (v : ℕ) (fits : v ≤ max_vocabulary s) (t : List ℕ) (below : Below v t) where
  -- all that reaches a node names a rank below V
  pub names_below : (k : ℕ) → All (Named s (λ (r : ℕ). r < v) k) (reach s k t)
  names_below = named_reach s within (λ (r : ℕ). r < v) t (all_imp (λ (i : ℕ). i < v) _ (λ i h. (omega (arith, h), h)) t below)

  -- a node past the last has no bytes
  pub bytes_past : (k : ℕ) → node_count s v ≤ k → node_bytes s k t ≡ []
  unfolding node_bytes
  bytes_past k h = ap (map first_byte) (go (reach s k t) (names_below k))
    where
      go : (ws : List (List ℕ)) → All (Named s (λ (r : ℕ). r < v) k) ws → ws ≡ []
      go [] a = refl
      go (w ∷ ws) a =
          let l : rank_from s k w < v = a.0.rank in
          let m : k < node_count s v = node_below s within v k (omega (arith, rank_least s within k w)) in
          absurd (omega arith)

  pub length_nodes : length (nodes s v t) ≡ node_count s v
  unfolding nodes
  length_nodes = length_map_range _ 0 (node_count s v)

  -- node k of the nodes of a text, past the last too
  pub nodes_at : (k : ℕ) → node (nodes s v t) k ≡ node_bytes s k t
  unfolding nodes
  nodes_at k = go (below_or_not k (node_count s v))
    where
      go : (k < node_count s v) ⊎ (node_count s v ≤ k) → node (nodes s v t) k ≡ node_bytes s k t
      go (inl h) = get_d-map_range _ (node_count s v) k [] h
      go (inr h) = get_or-eq_default (nodes s v t) [] (omega (arith, length_nodes)) ∙ sym (bytes_past k h)

  -- the walk meets, from position i of node k on, the codeword that stands there
  pub walk_reads : (n k i : ℕ) (w : List ℕ) → Word s w → length w ≤ n → i < length (reach s k t) → get_or (reach s k t) i [] ≡ w → walk s (nodes s v t) n k i ≡ w
  walk_reads zero k i w (closing b h l) m g q = absurd (omega arith)
  walk_reads zero k i w (continued b h u) m g q = absurd (omega arith)
  walk_reads (suc n) k i w (closing b h l) m g q =
      walk_closing s (nodes s v t) n k i b (ap (λ (x : List ℕ). get_or x i 0) (nodes_at k) ∙ byte_at s k i t g ∙ ap first_byte q) h
  walk_reads (suc n) k i w (continued b {bs} h u) m g q =
      let c : get_or (node_bytes s k t) i 0 ≡ b = byte_at s k i t g ∙ ap first_byte q in
      let len : length (node_bytes s k t) ≡ length (reach s k t) = length_node_bytes s k t in
      let less : count_of b (take i (node_bytes s k t)) < count_of b (node_bytes s k t) = count_take_less b (node_bytes s k t) i (omega arith) c in
      walk_continued s (nodes s v t) n k i b (ap (λ (x : List ℕ). get_or x i 0) (nodes_at k) ∙ c) h
      ∙ ap (λ (x : List ℕ). b ∷ x)
      (ap (λ (x : List ℕ). walk s (nodes s v t) n (child s k b) (count_of b (take i x))) (nodes_at k)
      ∙ walk_reads n (child s k b) (count_of b (take i (node_bytes s k t))) bs u (omega arith)
      (omega (arith, child_length_lem s k b t h, length_node_bytes s (child s k b) t))
      (child_position_lem s k b i t h g (ap first_byte q) ∙ ap tail q))

  -- the nodes of a text are read back as the text
  pub text_of_nodes : text_of s (nodes s v t) ≡ t
  unfolding text_of
  text_of_nodes = sym (map_range_is 0 t _ (length (node (nodes s v t) 0)) (sym (ap length (nodes_at 0) ∙ length_root s t)) read)
    where
      read : (i : ℕ) → i < length (node (nodes s v t) 0) → get_or t i 0 ≡ rank_of s (walk s (nodes s v t) 3 0 i)
      read i l =
          let h : i < length t = omega (arith, ap length (nodes_at 0) ∙ length_root s t) in
          let r : get_or t i 0 < v = all_at (λ (x : ℕ). x < v) t 0 i below h in
          let g : get_or t i 0 < max_vocabulary s = omega arith in
          sym (ap (rank_of s) (walk_reads 3 0 i (code s (get_or t i 0)) (code_word s within (get_or t i 0) g) (code_short s (get_or t i 0)).1
          (omega (arith, ap length (reach_root s t) ∙ length-map t (code s)))
          (ap (λ (x : List (List ℕ)). get_or x i []) (reach_root s t) ∙ get_d_map (code s) t i [] 0 h))
          ∙ rank_of_code s within (get_or t i 0) g)

  -- and are good
  pub nodes_good : Good s v (nodes s v t)
  unfolding node_bytes get_last_d
  nodes_good = record {
    number = length_nodes;
    counts = λ k e h l. rw (nodes_at k, nodes_at (child s k e)) (sym (child_length_lem s k e t l));
    bytes = λ k h. rw (nodes_at k) (all_map _ _ first_byte (λ w n. first_byte_lem w n.word) (reach s k t) (names_below k));
    named = λ k h. rw (nodes_at k) (all_map _ _ first_byte (λ w n. last_byte k w n.word n.rank) (reach s k t) (names_below k));
  }
    where
      first_byte_lem : (w : List ℕ) → Word s w → first_byte w < 256
      first_byte_lem w (closing b h l) = l
      first_byte_lem w (continued b h u) = omega arith

      last_byte : (k : ℕ) (w : List ℕ) → Word s w → rank_from s k w < v → continuing s ≤ first_byte w → rank_in s k (first_byte w) < v
      last_byte k w (closing b h l) r c = r
      last_byte k w (continued b h u) r c = absurd (omega arith)

-- two texts with one vocabulary never share nodes
pub nodes_injective : (s : ℕ) → Closing s → (v : ℕ) → v ≤ max_vocabulary s → (t u : List ℕ) → Below v t → Below v u → nodes s v t ≡ nodes s v u → t ≡ u
nodes_injective s within v h t u a b q = sym (text_of_nodes s within v h t a) ∙ ap (text_of s) q ∙ text_of_nodes s within v h u b
