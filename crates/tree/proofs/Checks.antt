-- The test of nodes holds exactly if they are good. Assumes nothing.
use Prim.Native.Nat.{ℕ, ◌≤◌, ◌<◌}
use mathlib.Core.Path.{◌≡◌, refl, sym, ◌∙◌}
use mathlib.Core.Bool.{true, cond}
use mathlib.Core.Logic.{◌⊎◌, inl, inr, ◌↔◌}
use mathlib.Core.List.{List, [], ◌∷◌}
use native.Mathlib.Omega.{arith}
use borrow.Author.Tests.{eqb-true, eq-eqb, ltb-true, lt-ltb}
use lib.Dec.{ltb, eqb}
use lib.ListN.{length}
use Rattle.base.specs.Lists.{All, Below, all_pass, count_of}
use Rattle.base.proofs.Tests.{below_or_not, and_left, and_right, and_true, cond_most, cond_above}
use Rattle.base.proofs.Lists.{all_imp, all_of_pass}
use Rattle.base.proofs.Ranges.{pass_range, range_pass}
use Rattle.dense.specs.Code.{continuing, closes}
use Rattle.tree.specs.Nodes.{child, node_count, rank_in}
use Rattle.tree.specs.Walks.{node, Good, byte_test, counts_test, node_test, good_test}

module _ (s v : ℕ) (ns : List (List ℕ)) where
  good_of_test : good_test s v ns ≡ true → Good s v ns
  unfolding good_test
  good_of_test h = record {
    number = eqb-true (length ns) (node_count s v) (and_left _ _ h);
    counts = λ k e l m. eqb-true (count_of e (node ns k)) (length (node ns (child s k e))) (range_pass _ (continuing s) (and_left _ _ (at k (omega (arith, l)))) e m);
    bytes = λ k l. all_imp _ _ (λ b q. ltb-true b 256 (and_left _ _ q)) (node ns k) (passed k l);
    named = λ k l. all_imp _ _ (λ b q c. ltb-true (rank_in s k b) v (sym (cond_most _ true (continuing s) b c) ∙ and_right (ltb b 256) _ q)) (node ns k) (passed k l);
  }
    where
      at : (k : ℕ) → k < node_count s v → node_test s v ns k ≡ true
      at = range_pass (node_test s v ns) (node_count s v) (and_right (eqb (length ns) (node_count s v)) _ h)

      passed : (k : ℕ) → k < node_count s v → All (λ (b : ℕ). byte_test s v k b ≡ true) (node ns k)
      passed k l = all_of_pass (byte_test s v k) (node ns k) (and_right (counts_test s ns k) _ (at k l))

  test_of_good : Good s v ns → good_test s v ns ≡ true
  unfolding good_test
  test_of_good g =
      and_true _ _ (eq-eqb (length ns) (node_count s v) g.number)
      (pass_range (node_test s v ns) (node_count s v) (λ k l. and_true _ _ (counted k l) (bytes k (node ns k) (g.bytes k l) (g.named k l))))
    where
      counted : (k : ℕ) → k < node_count s v → counts_test s ns k ≡ true
      counted k l = pass_range _ (continuing s) (λ e m. eq-eqb (count_of e (node ns k)) (length (node ns (child s k e))) (g.counts k e l m))

      word : (k b : ℕ) → (continuing s ≤ b → rank_in s k b < v) → (b < continuing s) ⊎ (continuing s ≤ b) → cond (closes s b) (ltb (rank_in s k b) v) true ≡ true
      word k b n (inl c) = cond_above _ true (continuing s) b c
      word k b n (inr c) = cond_most _ true (continuing s) b c ∙ lt-ltb (rank_in s k b) v (n c)

      bytes : (k : ℕ) (bs : List ℕ) → Below 256 bs → All (λ (b : ℕ). continuing s ≤ b → rank_in s k b < v) bs → all_pass (byte_test s v k) bs ≡ true
      bytes k [] a n = refl
      bytes k (b ∷ bs) a n =
          and_true _ _ (and_true _ _ (lt-ltb b 256 a.0) (word k b n.0 (below_or_not b (continuing s)))) (bytes k bs a.1 n.1)

  -- the test decides the condition
  pub good_test_lem : (good_test s v ns ≡ true) ↔ Good s v ns
  good_test_lem = (good_of_test, test_of_good)
