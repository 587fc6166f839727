-- Laws of words that are in a list twice, found part by part. Assumes nothing.
use Prim.Native.Nat.{ℕ, zero, suc, ◌+◌, ◌-◌, ◌≤◌, ◌<◌}
use mathlib.Core.Path.{◌≡◌, refl, sym, ap, ◌∙◌}
use mathlib.Core.Bool.{Bool, true, false, not, ◌||◌, false≢true}
use mathlib.Core.Logic.{◌⊎◌, inl, inr}
use mathlib.Core.List.{List, []}
use native.Mathlib.Omega.{arith}
use borrow.Author.Tests.{eq-eqb, ne_eqb, eqb-true, not-true}
use lib.Dec.{eqb}
use lib.ListN.{length, get_or}
use Rattle.base.proofs.Lists.{first_where_inside, first_where_passes}
use Rattle.base.proofs.Ranges.{length_range, get_d-range, pass_range, range_pass}
use Rattle.base.proofs.Tests.{below_or_not, or_false, or_left, or_right, false_of}
use Rattle.base.specs.Lists.{all_pass, first_where, range_from}
use Rattle.hashing.proofs.HashTables.{index_most, index_word, index_absent}
use Rattle.hashing.specs.HashTables.{spelled_at, index_in}
use Rattle.lexicon.proofs.Members.{distinct_place}
use Rattle.lexicon.specs.Lexicon.{distinct}
use Rattle.list_rules.specs.Repeats.{is_own, is_unrepeated}
use Rattle.lexicon.specs.Reading.{spellings}
use Rattle.hashing.proofs.Parts.{WordsBefore, spelled_in_lem, index_place}

-- ---- whether a word is found at its own place

module _ (table list : List ℕ) (from k : ℕ) where
  pub own_none : (q : ℕ) → index_in table list from k (spelled_at table list from q) ≡ 0 → is_own table list from k q ≡ true
  unfolding is_own
  own_none q e =
      or_left (eqb (index_in table list from k (spelled_at table list from q)) 0) (eqb (index_in table list from k (spelled_at table list from q)) (suc q))
      (eq-eqb (index_in table list from k (spelled_at table list from q)) 0 e)

  pub own_here : (q : ℕ) → index_in table list from k (spelled_at table list from q) ≡ suc q → is_own table list from k q ≡ true
  unfolding is_own
  own_here q e =
      or_right (eqb (index_in table list from k (spelled_at table list from q)) 0) (eqb (index_in table list from k (spelled_at table list from q)) (suc q))
      (eq-eqb (index_in table list from k (spelled_at table list from q)) (suc q) e)

  pub own_not : (q : ℕ) → 0 < index_in table list from k (spelled_at table list from q) → (index_in table list from k (spelled_at table list from q) ≡ suc q → ⊥) → is_own table list from k q ≡ false
  unfolding is_own
  own_not q h n =
      or_false (eqb (index_in table list from k (spelled_at table list from q)) 0) (eqb (index_in table list from k (spelled_at table list from q)) (suc q))
      (ne_eqb (index_in table list from k (spelled_at table list from q)) 0 (λ e. omega arith))
      (ne_eqb (index_in table list from k (spelled_at table list from q)) (suc q) n)

  -- all of them, or one that is not
  pub unrepeated_yes : (n : ℕ) → ((q : ℕ) → q < n → is_own table list from k q ≡ true) → is_unrepeated table list from k n ≡ true
  unfolding is_unrepeated
  unrepeated_yes n h = pass_range (is_own table list from k) n h

  pub unrepeated_not : (n q : ℕ) → q < n → is_own table list from k q ≡ false → is_unrepeated table list from k n ≡ false
  unfolding is_unrepeated
  unrepeated_not n q h e = false_of (all_pass (is_own table list from k) (range_from 0 n)) (λ r. false≢true (sym e ∙ range_pass (is_own table list from k) n r q h))

  pub unrepeated_which : (n : ℕ) → is_unrepeated table list from k n ≡ false
      → (first_where (λ (q : ℕ). not (is_own table list from k q)) (range_from 0 n) < n) × (is_own table list from k (first_where (λ (q : ℕ). not (is_own table list from k q)) (range_from 0 n)) ≡ false)
  unfolding is_unrepeated
  unrepeated_which n e =
      let q : ℕ = first_where (λ (q : ℕ). not (is_own table list from k q)) (range_from 0 n) in
      let h : q < length (range_from 0 n) = first_where_inside (λ (q : ℕ). not (is_own table list from k q)) (is_own table list from k) (λ x. refl) (range_from 0 n) e in
      let l : q < n = omega (arith, length_range 0 n) in
      let z : get_or (range_from 0 n) q 0 ≡ q = get_d-range 0 n q 0 l ∙ omega arith in
      (l, ap (is_own table list from k) (sym z) ∙ not-true (is_own table list from k (get_or (range_from 0 n) q 0)) (first_where_passes (λ (q : ℕ). not (is_own table list from k q)) (range_from 0 n) 0 h))

  pub unrepeated_own : (n q : ℕ) → is_unrepeated table list from k n ≡ true → q < n → is_own table list from k q ≡ true
  unfolding is_unrepeated
  unrepeated_own n q e h = range_pass (is_own table list from k) n e q h

  -- more words are repeated where some of them are
  pub repeated_more : (m n : ℕ) → m ≤ n → is_unrepeated table list from k m ≡ false → is_unrepeated table list from k n ≡ false
  repeated_more m n h e = let w = unrepeated_which m e in unrepeated_not n _ (omega (arith, w.0)) w.1

  -- ---- words of the part that are alike

  -- a word is found nowhere or at its own place
  own_either : (q : ℕ) → is_own table list from k q ≡ true → (index_in table list from k (spelled_at table list from q) ≡ 0) ⊎ (index_in table list from k (spelled_at table list from q) ≡ suc q)
  unfolding is_own
  own_either q e = by (eqb (index_in table list from k (spelled_at table list from q)) 0) refl
    where
      by : (t : Bool) → eqb (index_in table list from k (spelled_at table list from q)) 0 ≡ t
          → (index_in table list from k (spelled_at table list from q) ≡ 0) ⊎ (index_in table list from k (spelled_at table list from q) ≡ suc q)
      by true r = inl (eqb-true (index_in table list from k (spelled_at table list from q)) 0 r)
      by false r =
          inr (eqb-true (index_in table list from k (spelled_at table list from q)) (suc q)
          (ap (λ (t : Bool). t || eqb (index_in table list from k (spelled_at table list from q)) (suc q)) (sym r) ∙ e))

  -- no word of a part that is not repeated is alike a later one
  pub unrepeated_apart : (n : ℕ) → is_unrepeated table list from k n ≡ true → (i j : ℕ) → i < k → i < j → j < n → spelled_at table list from i ≡ spelled_at table list from j → ⊥
  unrepeated_apart n e i j h l m q = by (own_either i (unrepeated_own n i e (omega arith))) (own_either j (unrepeated_own n j e m))
    where
      by : (index_in table list from k (spelled_at table list from i) ≡ 0) ⊎ (index_in table list from k (spelled_at table list from i) ≡ suc i)
          → (index_in table list from k (spelled_at table list from j) ≡ 0) ⊎ (index_in table list from k (spelled_at table list from j) ≡ suc j) → ⊥
      by (inl a) b = index_absent table list from (spelled_at table list from i) k i h a refl
      by (inr a) (inl b) = index_absent table list from (spelled_at table list from j) k i h b (sym q)
      by (inr a) (inr b) = absurd (omega (arith, ap (index_in table list from k) q))

  -- a word of the part that is alike a later one repeats it
  pub part_repeated : (i j : ℕ) → i < j → j < k → spelled_at table list from i ≡ spelled_at table list from j → is_unrepeated table list from k k ≡ false
  part_repeated i j l h q = false_of (is_unrepeated table list from k k) (λ e. unrepeated_apart k e i j (omega arith) l h q)

  -- a part none of whose words is alike a later one is not repeated in itself
  pub part_unrepeated : ((i : ℕ) → i < k → (j : ℕ) → i < j → j < k → spelled_at table list from i ≡ spelled_at table list from j → ⊥) → is_unrepeated table list from k k ≡ true
  part_unrepeated f = unrepeated_yes k (λ q h. at q h (index_in table list from k (spelled_at table list from q)) refl)
    where
      at : (q : ℕ) → q < k → (r : ℕ) → index_in table list from k (spelled_at table list from q) ≡ r → is_own table list from k q ≡ true
      at q h zero e = own_none q e
      at q h (suc i) e = go (below_or_not i q) (below_or_not q i)
        where
          m : i < k
          m = omega (arith, index_most table list from (spelled_at table list from q) k)

          found : spelled_at table list from q ≡ spelled_at table list from i
          found = index_word table list from (spelled_at table list from q) k i e

          go : (i < q) ⊎ (q ≤ i) → (q < i) ⊎ (i ≤ q) → is_own table list from k q ≡ true
          go (inl l) d = absurd (f i m q l h (sym found))
          go (inr l) (inl d) = absurd (f q h i d m found)
          go (inr l) (inr d) =
              let x : i ≡ q = omega arith in
              own_here q (e ∙ ap suc x)

-- ---- part by part

module _ (table list : List ℕ) (from first : ℕ) (stands : WordsBefore table list from first) where
  -- the words up to the end of a part that is not repeated are not repeated, if those before it are not
  pub unrepeated_more : (k n : ℕ) → first + n ≡ length (spellings table list) → k ≤ n → is_unrepeated table list from k n ≡ true
      → ((i j : ℕ) → i < first → i < j → j < length (spellings table list) → get_or (spellings table list) i [] ≡ get_or (spellings table list) j [] → ⊥)
      → (i j : ℕ) → i < first + k → i < j → j < length (spellings table list) → get_or (spellings table list) i [] ≡ get_or (spellings table list) j [] → ⊥
  unrepeated_more k n all inside e before i j h l m q = go (below_or_not i first)
    where
      S : List (List ℕ)
      S = spellings table list

      go : (i < first) ⊎ (first ≤ i) → ⊥
      go (inl a) = before i j a l m q
      go (inr a) =
          let x : first + (i - first) ≡ i = omega arith in
          let y : first + (j - first) ≡ j = omega arith in
          unrepeated_apart table list from k n e (i - first) (j - first) (omega arith) (omega arith) (omega arith)
          (spelled_in_lem table list from first stands (i - first) ∙ ap (λ (n : ℕ). get_or S n []) x ∙ q ∙ ap (λ (n : ℕ). get_or S n []) (sym y) ∙ sym (spelled_in_lem table list from first stands (j - first)))

  -- a part that is repeated has a word twice
  pub repeated : (k n q : ℕ) → first + n ≡ length (spellings table list) → k ≤ n → q < n → is_own table list from k q ≡ false → distinct (spellings table list) ≡ false
  unfolding is_own
  repeated k n q all inside h e = false_of (distinct S) (λ d. go d (index_in table list from k (spelled_at table list from q)) refl)
    where
      S : List (List ℕ)
      S = spellings table list

      go : distinct S ≡ true → (r : ℕ) → index_in table list from k (spelled_at table list from q) ≡ r → ⊥
      go d zero r = false≢true (sym e ∙ or_left (eqb (index_in table list from k (spelled_at table list from q)) 0) (eqb (index_in table list from k (spelled_at table list from q)) (suc q)) (eq-eqb (index_in table list from k (spelled_at table list from q)) 0 r))
      go d (suc i) r =
          let m : i < k = omega (arith, index_most table list from (spelled_at table list from q) k) in
          let p : first + q ≡ first + i = distinct_place S (first + q) (first + i) d (omega arith) (omega arith) (sym (spelled_in_lem table list from first stands q) ∙ index_place table list from first stands k i (spelled_at table list from q) r) in
          let x : i ≡ q = omega arith in
          false≢true (sym e ∙ or_right (eqb (index_in table list from k (spelled_at table list from q)) 0) (eqb (index_in table list from k (spelled_at table list from q)) (suc q)) (eq-eqb (index_in table list from k (spelled_at table list from q)) (suc q) (r ∙ ap suc x)))
