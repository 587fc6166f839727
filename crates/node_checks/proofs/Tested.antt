-- The tests of the check, as the functions make them: the limits, the byte values of a node, the nodes. Assumes nothing.
use Prim.Native.Nat.{ℕ, ◌+◌, ◌≤◌, ◌<◌}
use mathlib.Core.Path.{◌≡◌, refl, sym, ap, ◌∙◌}
use mathlib.Core.Bool.{Bool, true, false, ◌||◌}
use mathlib.Core.Logic.{◌⊎◌, inl, inr}
use mathlib.Core.List.{List, []}
use native.Mathlib.Numerals.{add-one}
use native.Mathlib.Omega.{arith}
use borrow.Author.Tests.{eq-eqb, ne_eqb, eqb-true, lt-ltb, ltb-true}
use lib.Dec.{eqb, ltb}
use lib.ListN.{length, get_or, set, take, length-set}
use lib.Seq.{get_or-set_same, get_or-set_other}
use Rattle.base.specs.Lists.{Below, all_pass, range_from, count_of, nth, total, segments}
use Rattle.base.proofs.Tests.{same_or_not, below_or_not, cond_most, cond_above, or_left, or_right}
use Rattle.base.proofs.Lists.{all_at, all_of_at}
use Rattle.base.proofs.Counts.{count_hit, count_miss, count_take_less, Found, nth_found}
use Rattle.base.proofs.Ranges.{pass_range, range_pass, range_fails, map_range_is}
use Rattle.base.proofs.Segments.{count_segments, segment_length, all_segment}
use Rattle.dense.specs.Code.{continuing}
use Rattle.directory.specs.Counters.{row}
use Rattle.directory.proofs.Rows.{row_length, row_at}
use Rattle.tree.specs.Nodes.{child, node_count, rank_in}
use Rattle.tree.specs.Walks.{Good}
use Rattle.node_checks.specs.Tests.{value_test, node_passes, nodes_pass}

-- ---- histograms

-- one byte more: its counter goes up by one
pub row_more : (part : List ℕ) (i : ℕ) → i < length part → get_or part i 0 < 256
    → set (row (take i part)) (get_or part i 0) (get_or (row (take i part)) (get_or part i 0) 0 + 1) ≡ row (take (i + 1) part)
unfolding row
row_more part i h b =
    map_range_is 0 (set (row (take i part)) x (get_or (row (take i part)) x 0 + 1)) (λ (e : ℕ). count_of e (take (i + 1) part)) 256
    (length-set (row (take i part)) x _ ∙ row_length (take i part)) (λ e l. go e l (same_or_not e x))
  where
    x : ℕ
    x = get_or part i 0

    go : (e : ℕ) → e < 256 → (e ≡ x) ⊎ (e ≡ x → ⊥) → get_or (set (row (take i part)) x (get_or (row (take i part)) x 0 + 1)) e 0 ≡ count_of e (take (i + 1) part)
    go e l (inl q) =
        rw q (get_or-set_same (row (take i part)) x (get_or (row (take i part)) x 0 + 1) 0 (rw (row_length (take i part)) b)
        ∙ ap (λ (n : ℕ). n + 1) (row_at (take i part) x b) ∙ add-one (count_of x (take i part))
        ∙ sym (ap (λ (n : ℕ). count_of x (take n part)) (add-one i) ∙ count_hit x part i h refl))
    go e l (inr d) =
        get_or-set_other (row (take i part)) x e (get_or (row (take i part)) x 0 + 1) 0 d ∙ row_at (take i part) e l
        ∙ sym (ap (λ (n : ℕ). count_of e (take n part)) (add-one i) ∙ count_miss e part i h (λ q. d (sym q)))

-- ---- byte values and nodes

-- a value that continues, and one that closes
pub value_continuing : (s vocab : ℕ) (lengths : List ℕ) (k e n : ℕ) → e < continuing s → value_test s vocab lengths k e n ≡ eqb n (get_or lengths (child s k e) 0)
value_continuing s vocab lengths k e n h = cond_above _ _ (continuing s) e h

pub value_closing : (s vocab : ℕ) (lengths : List ℕ) (k e n : ℕ) → continuing s ≤ e → value_test s vocab lengths k e n ≡ (eqb n 0 || ltb (rank_in s k e) vocab)
value_closing s vocab lengths k e n h = cond_most _ _ (continuing s) e h

module _ (s vocab : ℕ) (lengths bytes : List ℕ) (b : Below 256 bytes) (whole : total lengths ≡ length bytes) where
  -- the bytes of node k
  abbrev part : ℕ → List ℕ
  part k = get_or (segments lengths bytes) k []

  -- the length of a node is its number among the lengths
  part_length : (k : ℕ) → length (part k) ≡ get_or lengths k 0
  part_length k = segment_length lengths bytes k (omega arith)

  -- good nodes pass
  pub good_pass : Good s vocab (segments lengths bytes) → nodes_pass s vocab lengths bytes ≡ true
  unfolding nodes_pass node_passes
  good_pass good = pass_range _ (length lengths) (λ k h. pass_range _ 256 (λ e l. value k (rw (← count_segments lengths bytes, good.number) at h) e l (below_or_not e (continuing s))))
    where
      value : (k : ℕ) → k < node_count s vocab → (e : ℕ) → e < 256 → (e < continuing s) ⊎ (continuing s ≤ e) → value_test s vocab lengths k e (count_of e (part k)) ≡ true
      value k h e l (inl g) =
          value_continuing s vocab lengths k e (count_of e (part k)) g ∙ eq-eqb (count_of e (part k)) (get_or lengths (child s k e) 0) (good.counts k e h g ∙ part_length (child s k e))
      value k h e l (inr g) = value_closing s vocab lengths k e (count_of e (part k)) g ∙ go (below_or_not 0 (count_of e (part k)))
        where
          go : (0 < count_of e (part k)) ⊎ (count_of e (part k) ≤ 0) → eqb (count_of e (part k)) 0 || ltb (rank_in s k e) vocab ≡ true
          go (inl m) =
              let f : Found e 0 (part k) = nth_found e 0 (part k) m in
              let r = all_at (λ (x : ℕ). continuing s ≤ x → rank_in s k x < vocab) (part k) 0 (nth e 0 (part k)) (good.named k h) f.inside in
              or_right (eqb (count_of e (part k)) 0) (ltb (rank_in s k e) vocab) (lt-ltb (rank_in s k e) vocab (rw f.stands at r g))
          go (inr m) = or_left (eqb (count_of e (part k)) 0) (ltb (rank_in s k e) vocab) (eq-eqb (count_of e (part k)) 0 (omega arith))

  -- nodes that pass are good
  pub pass_good : length lengths ≡ node_count s vocab → nodes_pass s vocab lengths bytes ≡ true → Good s vocab (segments lengths bytes)
  unfolding nodes_pass node_passes
  pass_good number e = record {
    number = count_segments lengths bytes ∙ number;
    counts = λ k v h g. eqb-true (count_of v (part k)) (get_or lengths (child s k v) 0) (sym (value_continuing s vocab lengths k v (count_of v (part k)) g) ∙ tested k h v (omega arith)) ∙ sym (part_length (child s k v));
    bytes = λ k h. all_segment (λ (x : ℕ). x < 256) lengths bytes k b;
    named = λ k h. all_of_at (λ (x : ℕ). continuing s ≤ x → rank_in s k x < vocab) (part k) 0 (λ i l g. rank k h i l g);
  }
    where
      tested : (k : ℕ) → k < node_count s vocab → (v : ℕ) → v < 256 → value_test s vocab lengths k v (count_of v (part k)) ≡ true
      tested k h v l =
          range_pass (λ (v : ℕ). value_test s vocab lengths k v (count_of v (part k))) 256
          (range_pass (λ (k : ℕ). all_pass (λ (v : ℕ). value_test s vocab lengths k v (count_of v (part k))) (range_from 0 256)) (length lengths) e k (rw number h)) v l

      rank : (k : ℕ) → k < node_count s vocab → (i : ℕ) → i < length (part k) → continuing s ≤ get_or (part k) i 0 → rank_in s k (get_or (part k) i 0) < vocab
      rank k h i l g =
          let x : ℕ = get_or (part k) i 0 in
          let small : x < 256 = all_at (λ (x : ℕ). x < 256) (part k) 0 i (all_segment (λ (x : ℕ). x < 256) lengths bytes k b) l in
          let some : count_of x (take i (part k)) < count_of x (part k) = count_take_less x (part k) i l refl in
          ltb-true (rank_in s k x) vocab
          (or-not (eqb (count_of x (part k)) 0) (ltb (rank_in s k x) vocab) (ne_eqb (count_of x (part k)) 0 (λ q. omega arith)) (sym (value_closing s vocab lengths k x (count_of x (part k)) g) ∙ tested k h x small))
        where
          or-not : (p q : Bool) → p ≡ false → p || q ≡ true → q ≡ true
          or-not p q n h = rw n at h

-- a value that fails fails its node, and a node that fails fails them all
pub value_fails : (s vocab : ℕ) (lengths : List ℕ) (k : ℕ) (part : List ℕ) (e : ℕ) → e < 256 → value_test s vocab lengths k e (count_of e part) ≡ false → node_passes s vocab lengths k part ≡ false
unfolding node_passes
value_fails s vocab lengths k part e h q = range_fails (λ (e : ℕ). value_test s vocab lengths k e (count_of e part)) 256 e h q

pub node_fails : (s vocab : ℕ) (lengths bytes : List ℕ) (k : ℕ) → k < length lengths → node_passes s vocab lengths k (get_or (segments lengths bytes) k []) ≡ false → nodes_pass s vocab lengths bytes ≡ false
unfolding nodes_pass
node_fails s vocab lengths bytes k h q = range_fails (λ (k : ℕ). node_passes s vocab lengths k (get_or (segments lengths bytes) k [])) (length lengths) k h q
