-- Over good nodes every walk meets a codeword of the vocabulary, and the walks through a byte go on in its child. Assumes nothing.
use Prim.Native.Nat.{ℕ, zero, suc, ◌+◌, ◌*◌, ◌≤◌, ◌<◌}
use mathlib.Core.Path.{◌≡◌, refl, ap, ◌∙◌}
use mathlib.Core.Logic.{◌⊎◌, inl, inr}
use mathlib.Core.List.{List, [], map, tail, get_last_d}
use native.Mathlib.Nat.{mul-le-mul_left}
use native.Mathlib.Omega.{arith}
use lib.ListN.{length, take, get_or-eq_default}
use lib.Seq.{take-length}
use Rattle.base.specs.Lists.{range_from, count_of}
use Rattle.base.proofs.Tests.{below_or_not}
use Rattle.base.proofs.Lists.{all_at}
use Rattle.base.proofs.Counts.{count_take_less}
use Rattle.dense.specs.Code.{Closing, continuing, max_vocabulary, closing, continued}
use Rattle.tree.specs.Nodes.{child, node_count, through}
use Rattle.tree.specs.Walks.{node, byte, walk, Good}
use Rattle.tree.proofs.Numbers.{nodes_most, rank_continued}
use Rattle.tree.proofs.Through.{through_range}
use Rattle.tree.proofs.Nodes.{Named}
use Rattle.tree.proofs.Walks.{walk_closing, walk_continued}

-- ---- levels

-- the first node that lies n levels below node k
abbrev pub leftmost : ℕ → ℕ → ℕ → ℕ
leftmost s zero k = k
leftmost s (suc n) k = leftmost s n (child s k 0)

leftmost_mono : (s n k j : ℕ) → k ≤ j → leftmost s n k ≤ leftmost s n j
leftmost_mono s zero k j h = h
leftmost_mono s (suc n) k j h = leftmost_mono s n (child s k 0) (child s j 0) (omega (arith, mul-le-mul_left (continuing s) h))

-- where the nodes end n + 1 levels below node k, they end n levels below its children
pub leftmost_child : (s n k e m : ℕ) → m ≤ leftmost s (suc n) k → m ≤ leftmost s n (child s k e)
leftmost_child s n k e m h = omega (arith, leftmost_mono s n (child s k 0) (child s k e) (omega arith))

-- the nodes end three levels below the root
pub three_levels : (s : ℕ) → Closing s → (v : ℕ) → v ≤ max_vocabulary s → node_count s v ≤ leftmost s 3 0
three_levels s within v fits = rw (third (continuing s)) (nodes_most s within v fits)
  where
    third : (c : ℕ) → c * (c * (c * 0 + 1 + 0) + 1 + 0) + 1 + 0 ≡ 1 + c + c * c
    third c = omega arith

-- ---- good nodes

module _ (s v : ℕ) (ns : List (List ℕ)) (good : Good s v ns) where
  -- only a node that is there has a byte
  pub node_there : (k i : ℕ) → i < length (node ns k) → k < node_count s v
  node_there k i h = go (below_or_not k (node_count s v))
    where
      go : (k < node_count s v) ⊎ (node_count s v ≤ k) → k < node_count s v
      go (inl l) = l
      go (inr g) =
          let n : length ns ≡ node_count s v = good.number in
          let e : length (node ns k) ≡ 0 = ap length (get_or-eq_default ns [] (omega arith)) in
          absurd (omega arith)

  -- a continuing byte leads to a position that is there
  pub position_there : (k i b : ℕ) → i < length (node ns k) → byte ns k i ≡ b → b < continuing s → count_of b (take i (node ns k)) < length (node ns (child s k b))
  position_there k i b h q l = omega (arith, count_take_less b (node ns k) i h q, good.counts k b (node_there k i h) l)

  -- where the nodes end within n levels, a walk meets a codeword that names a rank below V
  pub walk_named : (n k i : ℕ) → node_count s v ≤ leftmost s n k → i < length (node ns k) → Named s (λ (r : ℕ). r < v) k (walk s ns n k i)
  unfolding get_last_d
  walk_named zero k i e h = absurd (omega (arith, node_there k i h))
  walk_named (suc n) k i e h = go (below_or_not b (continuing s)) (walk_named n (child s k b) (count_of b (take i (node ns k))) (leftmost_child s n k b (node_count s v) e))
    where
      b : ℕ
      b = byte ns k i

      w : List ℕ
      w = walk s ns n (child s k b) (count_of b (take i (node ns k)))

      go : (b < continuing s) ⊎ (continuing s ≤ b) → (count_of b (take i (node ns k)) < length (node ns (child s k b)) → Named s (λ (r : ℕ). r < v) (child s k b) w)
          → Named s (λ (r : ℕ). r < v) k (walk s ns (suc n) k i)
      go (inl l) ih =
          let m : Named s (λ (r : ℕ). r < v) (child s k b) w = ih (position_there k i b h refl l) in
          rw (walk_continued s ns n k i b refl l) (record { word = continued b l m.word; rank = rw (rank_continued s k b w m.word) m.rank })
      go (inr g) ih =
          rw (walk_closing s ns n k i b refl g)
          (record {
            word = closing b g (all_at _ (node ns k) 0 i (good.bytes k (node_there k i h)) h);
            rank = all_at _ (node ns k) 0 i (good.named k (node_there k i h)) h g;
          })

  -- the walks of a node that begin with e go on as the walks of its child by e
  pub walks_through : (n k e : ℕ) → k < node_count s v → e < continuing s
      → through e (map (walk s ns (suc n) k) (range_from 0 (length (node ns k)))) ≡ map (walk s ns n (child s k e)) (range_from 0 (length (node ns (child s k e))))
  walks_through n k e h l =
      through_range e (node ns k) (walk s ns (suc n) k) (walk s ns n (child s k e)) (λ i m. refl)
      (λ i m q. ap tail (walk_continued s ns n k i e q l)) (length (node ns k)) (omega arith)
      ∙ ap (λ (m : ℕ). map (walk s ns n (child s k e)) (range_from 0 m)) (ap (count_of e) (take-length (node ns k)) ∙ good.counts k e h l)
