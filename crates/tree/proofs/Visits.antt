-- Which byte of a codeword lies in which node, and how many bytes all nodes have. Assumes nothing.
use Prim.Native.Nat.{ℕ, suc, ◌+◌, ◌≤◌, ◌<◌}
use mathlib.Core.Path.{◌≡◌, refl, sym, ap, ap₂, ◌∙◌}
use mathlib.Core.Bool.{Bool, true, false, cond}
use mathlib.Core.Logic.{◌⊎◌, inl, inr}
use mathlib.Core.List.{List, [], ◌∷◌, ◌++◌, map, map-append}
use native.Mathlib.Omega.{arith}
use lib.Dec.{eqb}
use lib.ListN.{length, length-append}
use Rattle.base.specs.Lists.{Below, range_from, total}
use Rattle.base.proofs.Tests.{same_or_not, cond_same, cond_other}
use Rattle.base.proofs.Lists.{map_map}
use Rattle.base.proofs.Ranges.{map_range_same}
use Rattle.base.proofs.Sums.{total_range_add, total_range_zero, total_range_one}
use Rattle.dense.specs.Code.{Closing, continuing, max_vocabulary, code, Word, closing, continued}
use Rattle.dense.specs.Laws.{code_length}
use Rattle.dense.proofs.Codewords.{code_word, code_length_lem}
use Rattle.tree.specs.Nodes.{child, node_count, first_byte, through, reach, node_bytes, nodes}
use Rattle.tree.specs.Walks.{rank_from}
use Rattle.tree.proofs.Numbers.{child_same, child_above, node_ind, node_below, rank_least, rank_continued, rank_from_code}
use Rattle.tree.proofs.Through.{through_hit, through_miss, through_append}
use Rattle.tree.proofs.Nodes.{reach_root, reach_child, node_bytes-append, node_bytes-nil}

-- the bytes that a codeword, starting in node j, leaves in node k
abbrev pub leaves : ℕ → ℕ → ℕ → List ℕ → List ℕ
leaves s k j [] = []
leaves s k j (b ∷ bs) = cond (eqb j k) (b ∷ []) [] ++ leaves s k (child s j b) bs

-- what is left of it when it arrives at node k
abbrev arrives : ℕ → ℕ → ℕ → List ℕ → List (List ℕ)
arrives s k j [] = []
arrives s k j (b ∷ bs) = cond (eqb j k) ((b ∷ bs) ∷ []) [] ++ arrives s k (child s j b) bs

first_arrives : (s k j : ℕ) (w : List ℕ) → map first_byte (arrives s k j w) ≡ leaves s k j w
first_arrives s k j [] = refl
first_arrives s k j (b ∷ bs) = map-append first_byte (cond (eqb j k) ((b ∷ bs) ∷ []) []) (arrives s k (child s j b) bs) ∙ ap₂ ◌++◌ (go (eqb j k)) (first_arrives s k (child s j b) bs)
  where
    go : (t : Bool) → map first_byte (cond t ((b ∷ bs) ∷ []) []) ≡ cond t (b ∷ []) []
    go true = refl
    go false = refl

module _ (s : ℕ) (within : Closing s) where
  -- a codeword never comes back to a lower node
  arrives_above : (k j : ℕ) (w : List ℕ) → k < j → arrives s k j w ≡ []
  arrives_above k j [] h = refl
  arrives_above k j (b ∷ bs) h = rw (cond_other ((b ∷ bs) ∷ []) [] j k (λ q. omega arith)) (arrives_above k (child s j b) bs (omega (arith, child_above s within j b)))

  -- it arrives at a child if it comes through the child's byte at the parent, or starts in the child
  arrives_child : (k e j : ℕ) (w : List ℕ) → Word s w → e < continuing s
      → arrives s (child s k e) j w ≡ cond (eqb j (child s k e)) (w ∷ []) [] ++ through e (arrives s k j w)
  arrives_child k e j w (closing b h l) he = ap (λ (x : List (List ℕ)). cond (eqb j (child s k e)) ((b ∷ []) ∷ []) [] ++ x) (sym (go (eqb j k)))
    where
      go : (t : Bool) → through e (cond t ((b ∷ []) ∷ []) [] ++ []) ≡ []
      go true = through_miss e (b ∷ []) [] (λ q. omega arith)
      go false = refl
  arrives_child k e j w (continued b {bs} h u) he =
      ap (λ (x : List (List ℕ)). cond (eqb j (child s k e)) ((b ∷ bs) ∷ []) [] ++ x)
      (arrives_child k e (child s j b) bs u he
      ∙ ap (λ (x : List (List ℕ)). x ++ through e (arrives s k (child s j b) bs)) (go (same_or_not j k) (same_or_not b e))
      ∙ sym (through_append e (cond (eqb j k) ((b ∷ bs) ∷ []) []) (arrives s k (child s j b) bs)))
    where
      go : (j ≡ k) ⊎ (j ≡ k → ⊥) → (b ≡ e) ⊎ (b ≡ e → ⊥) → cond (eqb (child s j b) (child s k e)) (bs ∷ []) [] ≡ through e (cond (eqb j k) ((b ∷ bs) ∷ []) [])
      go (inl p) (inl q) =
          cond_same (bs ∷ []) [] (child s j b) (child s k e) (ap₂ (child s) p q)
          ∙ sym (ap (through e) (cond_same ((b ∷ bs) ∷ []) [] j k p) ∙ through_hit e (b ∷ bs) [] q)
      go (inl p) (inr n) =
          cond_other (bs ∷ []) [] (child s j b) (child s k e) (λ r. n (child_same s j b k e h he r).1)
          ∙ sym (ap (through e) (cond_same ((b ∷ bs) ∷ []) [] j k p) ∙ through_miss e (b ∷ bs) [] n)
      go (inr n) q =
          cond_other (bs ∷ []) [] (child s j b) (child s k e) (λ r. n (child_same s j b k e h he r).0)
          ∙ sym (ap (through e) (cond_other ((b ∷ bs) ∷ []) [] j k n))

  arrives_root : (w : List ℕ) → Word s w → w ∷ [] ≡ arrives s 0 0 w
  arrives_root w (closing b h l) = refl
  arrives_root w (continued b {bs} h u) = ap (λ (x : List (List ℕ)). (b ∷ bs) ∷ x) (sym (arrives_above 0 (child s 0 b) bs (omega arith)))

  -- what reaches a node of the text of one word is what is left of its codeword there
  reach_arrives : (i : ℕ) → i < max_vocabulary s → (k : ℕ) → reach s k (i ∷ []) ≡ arrives s k 0 (code s i)
  reach_arrives i h =
      node_ind s within (λ (k : ℕ). reach s k (i ∷ []) ≡ arrives s k 0 (code s i)) (reach_root s (i ∷ []) ∙ arrives_root (code s i) u)
      (λ k e l ih.
      reach_child s k e (i ∷ []) l ∙ ap (through e) ih
      ∙ sym (arrives_child k e 0 (code s i) u l
      ∙ ap (λ (x : List (List ℕ)). x ++ through e (arrives s k 0 (code s i))) (cond_other (code s i ∷ []) [] 0 (child s k e) (λ q. omega arith))))
    where
      u : Word s (code s i)
      u = code_word s within i h

  -- the bytes that one word has in a node are those that its codeword leaves there
  pub node_of_word : (k i : ℕ) → i < max_vocabulary s → node_bytes s k (i ∷ []) ≡ leaves s k 0 (code s i)
  unfolding node_bytes
  node_of_word k i h = ap (map first_byte) (reach_arrives i h k) ∙ first_arrives s k 0 (code s i)

  -- one word more: each node gains what the codeword leaves there
  pub node_of_next : (k i : ℕ) (t : List ℕ) → i < max_vocabulary s → node_bytes s k (t ++ (i ∷ [])) ≡ node_bytes s k t ++ leaves s k 0 (code s i)
  node_of_next k i t h = node_bytes-append s k t (i ∷ []) ∙ ap (λ (x : List ℕ). node_bytes s k t ++ x) (node_of_word k i h)

  -- ---- how many bytes there are

  length_leaves : (k j b : ℕ) (bs : List ℕ) → length (leaves s k j (b ∷ bs)) ≡ cond (eqb j k) 1 0 + length (leaves s k (child s j b) bs)
  length_leaves k j b bs = length-append (cond (eqb j k) (b ∷ []) []) (leaves s k (child s j b) bs) ∙ ap (λ (x : ℕ). x + length (leaves s k (child s j b) bs)) (go (eqb j k))
    where
      go : (t : Bool) → length (cond t (b ∷ []) []) ≡ cond t 1 0
      go true = refl
      go false = refl

  -- a codeword that names a rank below V leaves each of its bytes in one of the nodes
  leaves_total : (v j : ℕ) (w : List ℕ) → Word s w → rank_from s j w < v → total (map (λ (k : ℕ). length (leaves s k j w)) (range_from 0 (node_count s v))) ≡ length w
  leaves_total v j w u h = go j w u h
    where
      n : ℕ
      n = node_count s v

      step : (j b : ℕ) (bs : List ℕ) → rank_from s j (b ∷ bs) < v
          → total (map (λ (k : ℕ). length (leaves s k j (b ∷ bs))) (range_from 0 n)) ≡ suc (total (map (λ (k : ℕ). length (leaves s k (child s j b) bs)) (range_from 0 n)))
      step j b bs h =
          ap total (map_range_same _ _ n (λ k _. length_leaves k j b bs))
          ∙ total_range_add (λ (k : ℕ). cond (eqb j k) 1 0) (λ (k : ℕ). length (leaves s k (child s j b) bs)) n
          ∙ ap (λ (x : ℕ). x + total (map (λ (k : ℕ). length (leaves s k (child s j b) bs)) (range_from 0 n)))
          (total_range_one j n (node_below s within v j (omega (arith, rank_least s within j (b ∷ bs)))))
          ∙ omega arith

      go : (j : ℕ) (w : List ℕ) → Word s w → rank_from s j w < v → total (map (λ (k : ℕ). length (leaves s k j w)) (range_from 0 n)) ≡ length w
      go j w (closing b g l) h = step j b [] h ∙ ap suc (total_range_zero n)
      go j w (continued b {bs} g u) h = step j b bs h ∙ ap suc (go (child s j b) bs u (rw (rank_continued s j b bs u) at h))

  -- the nodes of a text have together as many bytes as its codewords
  pub total_nodes : (v : ℕ) (t : List ℕ) → v ≤ max_vocabulary s → Below v t → total (map length (nodes s v t)) ≡ total (map (code_length s) t)
  unfolding nodes
  total_nodes v t fits below = ap total (map_map length _ (range_from 0 n)) ∙ go t below
    where
      n : ℕ
      n = node_count s v

      word : (i : ℕ) → i < v → total (map (λ (k : ℕ). length (node_bytes s k (i ∷ []))) (range_from 0 n)) ≡ code_length s i
      word i h =
          let g : i < max_vocabulary s = omega arith in
          ap total (map_range_same _ _ n (λ k _. ap length (node_of_word k i g)))
          ∙ leaves_total v 0 (code s i) (code_word s within i g) (rw (rank_from_code s within i g) h) ∙ code_length_lem s i

      go : (t : List ℕ) → Below v t → total (map (λ (k : ℕ). length (node_bytes s k t)) (range_from 0 n)) ≡ total (map (code_length s) t)
      go [] a = ap total (map_range_same _ _ n (λ k _. ap length (node_bytes-nil s k))) ∙ total_range_zero n
      go (i ∷ t) a =
          ap total (map_range_same _ _ n
          (λ k _. ap length (node_bytes-append s k (i ∷ []) t) ∙ length-append (node_bytes s k (i ∷ [])) (node_bytes s k t)))
          ∙ total_range_add (λ (k : ℕ). length (node_bytes s k (i ∷ []))) (λ (k : ℕ). length (node_bytes s k t)) n
          ∙ ap₂ ◌+◌ (word i a.0) (go t a.1)
