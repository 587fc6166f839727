-- Good nodes are the nodes of a text: of the one that they are read as. Assumes nothing.
use Prim.Native.Nat.{ℕ, zero, suc, ◌≤◌, ◌<◌}
use mathlib.Core.Path.{◌≡◌, sym, ap, ◌∙◌, subst}
use mathlib.Core.Logic.{◌↔◌}
use mathlib.Core.List.{List, [], map}
use native.Mathlib.Omega.{arith}
use lib.ListN.{length}
use Rattle.base.specs.Lists.{Below, range_from}
use Rattle.base.proofs.Lists.{all_map, map_map}
use Rattle.base.proofs.Ranges.{all_range, map_range_is, map_range_same, map_get_d-range}
use Rattle.dense.specs.Code.{Closing, continuing, max_vocabulary, code, rank_of}
use Rattle.dense.proofs.Codewords.{code_of_rank}
use Rattle.tree.specs.Nodes.{child, node_count, first_byte, through, reach, node_bytes, nodes}
use Rattle.tree.specs.Walks.{node, walk, text_of, Good, rank_from}
use Rattle.tree.proofs.Numbers.{child_above, node_ind, rank_from_root}
use Rattle.tree.proofs.Nodes.{reach_root, reach_child, Named}
use Rattle.tree.proofs.Reading.{nodes_good}
use Rattle.tree.proofs.Walks.{walk_length}
use Rattle.tree.proofs.GoodNodes.{leftmost, leftmost_child, three_levels, walk_named, walks_through}

module _ (s : ℕ) (within : Closing s) (v : ℕ) (fits : v ≤ max_vocabulary s) where
  module _ (ns : List (List ℕ)) (good : Good s v ns) where
    -- the walk from a position of the root meets a codeword that names a rank below V
    root-named : (i : ℕ) → i < length (node ns 0) → Named s (λ (r : ℕ). r < v) 0 (walk s ns 3 0 i)
    root-named i h = walk_named s v ns good 3 0 i (three_levels s within v fits) h

    -- which is read by node numbers too
    pub root_read : (i : ℕ) → i < length (node ns 0) → rank_from s 0 (walk s ns 3 0 i) ≡ rank_of s (walk s ns 3 0 i)
    root_read i h = rank_from_root s within (walk s ns 3 0 i) (root-named i h).word (walk_length s ns 3 0 i)

    -- all ranks read are below V
    pub text_below : Below v (text_of s ns)
    unfolding text_of
    text_below =
        all_map (λ (i : ℕ). i < length (node ns 0)) _ _
        (λ i h. rw (root_read i h) at (root-named i h).rank)
        (range_from 0 (length (node ns 0)))
        (all_range _ 0 (length (node ns 0)) (λ i h. omega (arith, h)))

    -- the codewords of the text read are the walks from the root
    code-of-text : map (code s) (text_of s ns) ≡ map (walk s ns 3 0) (range_from 0 (length (node ns 0)))
    unfolding text_of
    code-of-text =
        map_map (code s) _ (range_from 0 (length (node ns 0)))
        ∙ map_range_same _ (walk s ns 3 0) (length (node ns 0))
        (λ i h. (code_of_rank s within (walk s ns 3 0 i) (root-named i h).word (walk_length s ns 3 0 i)).1)

    -- codewords that are the walks from the positions of node k, down so many levels that the nodes end
    record Starts (k : ℕ) (ws : List (List ℕ)) : Type 0 where
      pub levels : ℕ
      pub ends : node_count s v ≤ leftmost s levels k
      pub walks : ws ≡ map (walk s ns levels k) (range_from 0 (length (node ns k)))

    -- those that come through e are the walks from the positions of its child by e
    starts-child : (k e : ℕ) (ws : List (List ℕ)) → k < node_count s v → e < continuing s → Starts k ws → Starts (child s k e) (through e ws)
    starts-child k e ws h l st = go st.levels st.ends st.walks
      where
        go : (n : ℕ) → node_count s v ≤ leftmost s n k → ws ≡ map (walk s ns n k) (range_from 0 (length (node ns k))) → Starts (child s k e) (through e ws)
        go zero b q = absurd (omega arith)
        go (suc n) b q = record { levels = n; ends = leftmost_child s n k e (node_count s v) b; walks = ap (through e) q ∙ walks_through s v ns good n k e h l }

    -- what reaches a node of the text read
    starts : (k : ℕ) → k < node_count s v → Starts k (reach s k (text_of s ns))
    starts =
        node_ind s within (λ (k : ℕ). k < node_count s v → Starts k (reach s k (text_of s ns)))
        (λ h. record { levels = 3; ends = three_levels s within v fits; walks = reach_root s (text_of s ns) ∙ code-of-text })
        (λ k e l st h.
        let g : k < node_count s v = omega (arith, child_above s within k e) in
        rw (reach_child s k e (text_of s ns) l) (starts-child k e (reach s k (text_of s ns)) g l (st g)))

    -- node k of the text read is node k
    nodeBytes-of-text : (k : ℕ) → k < node_count s v → node_bytes s k (text_of s ns) ≡ node ns k
    unfolding node_bytes
    nodeBytes-of-text k h = go (starts k h).levels (starts k h).ends (starts k h).walks
      where
        go : (n : ℕ) → node_count s v ≤ leftmost s n k → reach s k (text_of s ns) ≡ map (walk s ns n k) (range_from 0 (length (node ns k))) → map first_byte (reach s k (text_of s ns)) ≡ node ns k
        go zero b q = absurd (omega arith)
        go (suc n) b q = ap (map first_byte) q ∙ map_map first_byte _ (range_from 0 (length (node ns k))) ∙ map_get_d-range 0 (node ns k)

    -- the nodes of the text read are the nodes
    pub nodes_of_text : nodes s v (text_of s ns) ≡ ns
    unfolding nodes
    nodes_of_text =
        sym (map_range_is [] ns _ (node_count s v) good.number (λ k h. sym (nodeBytes-of-text k h)))

  -- nodes are good exactly if some text with ranks below V has them
  pub good_iff_text : (ns : List (List ℕ)) → Good s v ns ↔ ((t : List ℕ) × Below v t × (nodes s v t ≡ ns))
  good_iff_text ns = (
    (λ good. (text_of s ns, text_below ns good, nodes_of_text ns good)),
    (λ has. subst (Good s v) has.2 (nodes_good s within v fits has.0 has.1)),
  )
