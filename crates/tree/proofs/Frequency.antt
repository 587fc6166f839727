-- Places become positions, and occurrences of a rank are occurrences of its closing byte in its node, position for position. Assumes nothing.
use Prim.Native.Nat.{ℕ, suc, ◌+◌, ◌≤◌, ◌<◌}
use mathlib.Core.Path.{◌≡◌, refl, sym, ap, ◌∙◌}
use mathlib.Core.Logic.{◌⊎◌, inl, inr}
use mathlib.Core.List.{List, [], ◌∷◌, ◌++◌, map, get_last_d}
use native.Mathlib.Omega.{arith}
use lib.ListN.{length, take, drop, get_or, take-append-drop, length-append}
use lib.Seq.{take-append_seam, length-take-le, get_or-append_seam, split_at}
use Rattle.base.specs.Lists.{Below, count_of}
use Rattle.base.proofs.Tests.{same_or_not, cond_same, cond_other}
use Rattle.base.proofs.Lists.{all_map, all_take}
use Rattle.base.proofs.Counts.{count_append, count_none}
use Rattle.dense.specs.Code.{Closing, continuing, max_vocabulary, code, Word, closing, continued}
use Rattle.tree.specs.Nodes.{child, node_of, closing_byte, path, first_byte, reach, node_bytes, position}
use Rattle.tree.specs.Walks.{rank_from}
use Rattle.tree.proofs.Numbers.{rank_of_end}
use Rattle.tree.proofs.Paths.{code_end}
use Rattle.tree.proofs.Nodes.{node_bytes-append, node_bytes-nil, length_root, child_length_lem, own, named_reach}

-- ---- positions

-- what the words below place p have in a node is the part of the node below that position
pub take_position : (s k p : ℕ) (t : List ℕ) → take (position s k p t) (node_bytes s k t) ≡ node_bytes s k (take p t)
unfolding position
take_position s k p t =
    ap (λ (u : List ℕ). take (length (node_bytes s k (take p t))) (node_bytes s k u)) (sym (take-append-drop p t))
    ∙ ap (take (length (node_bytes s k (take p t)))) (node_bytes-append s k (take p t) (drop p t))
    ∙ take-append_seam (node_bytes s k (take p t)) (node_bytes s k (drop p t))

-- in the root a place is a position
pub position_root : (s p : ℕ) (t : List ℕ) → p ≤ length t → position s 0 p t ≡ p
unfolding position
position_root s p t h = length_root s (take p t) ∙ length-take-le p t h

-- one step down: the position in the child by e counts the e below the position in the parent
pub position_child : (s k e p : ℕ) (t : List ℕ) → e < continuing s → position s (child s k e) p t ≡ count_of e (take (position s k p t) (node_bytes s k t))
unfolding position
position_child s k e p t h = child_length_lem s k e (take p t) h ∙ ap (count_of e) (sym (take_position s k p t))

-- where the word at place p has a codeword that leads to node k and goes on with b, the position of p in the node is inside, and has b
module _ (s k p b : ℕ) (r t : List ℕ) (h : p < length t) (q : code s (get_or t p 0) ≡ path s k ++ (b ∷ r)) where
  parts : node_bytes s k t ≡ node_bytes s k (take p t) ++ b ∷ node_bytes s k (drop (suc p) t)
  parts =
      ap (node_bytes s k) (split_at t p 0 h) ∙ node_bytes-append s k (take p t) (get_or t p 0 ∷ drop (suc p) t)
      ∙ ap (λ (x : List ℕ). node_bytes s k (take p t) ++ x)
      (node_bytes-append s k (get_or t p 0 ∷ []) (drop (suc p) t) ∙ ap (λ (x : List ℕ). x ++ node_bytes s k (drop (suc p) t)) (own s k (get_or t p 0) b r q))

  pub byte_of_place : get_or (node_bytes s k t) (position s k p t) 0 ≡ b
  unfolding position
  byte_of_place =
      ap (λ (x : List ℕ). get_or x (length (node_bytes s k (take p t))) 0) parts
      ∙ get_or-append_seam (node_bytes s k (take p t)) b (node_bytes s k (drop (suc p) t)) 0

  pub position_inside : position s k p t < length (node_bytes s k t)
  unfolding position
  position_inside = omega (arith, ap length parts ∙ length-append (node_bytes s k (take p t)) (b ∷ node_bytes s k (drop (suc p) t)))

-- ---- how often

module _ (s : ℕ) (within : Closing s) where
  -- rank i has its closing byte alone in its node
  pub node_of_own : (i : ℕ) → i < max_vocabulary s → node_bytes s (node_of s i) (i ∷ []) ≡ closing_byte s i ∷ []
  node_of_own i h = own s (node_of s i) i (closing_byte s i) [] (code_end s within i h)

  -- another rank has no such byte there
  node_of_other : (i j : ℕ) → j < max_vocabulary s → (j ≡ i → ⊥) → count_of (closing_byte s i) (node_bytes s (node_of s i) (j ∷ [])) ≡ 0
  unfolding node_bytes get_last_d
  node_of_other i j h n =
      count_none (closing_byte s i) (map first_byte (reach s (node_of s i) (j ∷ [])))
      (all_map _ _ first_byte (λ w m. no w m.word m.rank) (reach s (node_of s i) (j ∷ [])) (named_reach s within (λ (r : ℕ). r ≡ j) (j ∷ []) ((h, refl), tt) (node_of s i)))
    where
      no : (w : List ℕ) → Word s w → rank_from s (node_of s i) w ≡ j → first_byte w ≡ closing_byte s i → ⊥
      no w (closing b g l) r q = n (sym r ∙ rank_of_end s i b q)
      no w (continued b g u) r q = omega arith

  -- a rank stands in a text as often as its closing byte stands in its node
  pub frequency : (i : ℕ) (t : List ℕ) → i < max_vocabulary s → Below (max_vocabulary s) t → count_of i t ≡ count_of (closing_byte s i) (node_bytes s (node_of s i) t)
  frequency i [] h a = rw (node_bytes-nil s (node_of s i)) refl
  frequency i (j ∷ t) h a =
      one (frequency i t h a.1) (same_or_not j i)
      ∙ sym (count_append (closing_byte s i) (node_bytes s (node_of s i) (j ∷ [])) (node_bytes s (node_of s i) t))
      ∙ ap (count_of (closing_byte s i)) (sym (node_bytes-append s (node_of s i) (j ∷ []) t))
    where
      one : count_of i t ≡ count_of (closing_byte s i) (node_bytes s (node_of s i) t) → (j ≡ i) ⊎ (j ≡ i → ⊥)
          → count_of i (j ∷ t) ≡ count_of (closing_byte s i) (node_bytes s (node_of s i) (j ∷ [])) + count_of (closing_byte s i) (node_bytes s (node_of s i) t)
      one ih (inl q) =
          cond_same (suc (count_of i t)) (count_of i t) j i q
          ∙ rw (q, node_of_own i h) (ap suc ih ∙ rw (cond_same (suc 0) 0 (closing_byte s i) (closing_byte s i) refl) (omega arith))
      one ih (inr n) = cond_other (suc (count_of i t)) (count_of i t) j i n ∙ rw (node_of_other i j a.0 n) (ih ∙ omega arith)

  -- and below place p as often as its closing byte stands below the position of p in its node
  pub occurrences_below_lem : (i p : ℕ) (t : List ℕ) → i < max_vocabulary s → Below (max_vocabulary s) t
      → count_of i (take p t) ≡ count_of (closing_byte s i) (take (position s (node_of s i) p t) (node_bytes s (node_of s i) t))
  occurrences_below_lem i p t h a =
      rw (take_position s (node_of s i) p t) (frequency i (take p t) h (all_take _ p t a))
