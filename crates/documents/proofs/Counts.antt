-- How often a phrase stands in each document. Assumes nothing.
use Prim.Native.Nat.{ℕ, zero, suc, ◌+◌, ◌-◌, ◌≤◌, ◌<◌}
use mathlib.Core.Path.{◌≡◌, refl, sym, ap, ◌∙◌}
use mathlib.Core.Bool.{Bool, true, false, cond, ◌&&◌}
use mathlib.Core.Logic.{◌⊎◌, inl, inr}
use mathlib.Core.List.{List, [], ◌∷◌, map, ◌++◌}
use native.Mathlib.Omega.{arith}
use borrow.Author.Tests.{eqb-true, eq-eqb, ne_eqb}
use lib.Dec.{eqb}
use lib.ListN.{length, take, drop, get_or, length-take, length-drop, get_or-eq_default}
use lib.Seq.{get_or-take, get_or-drop}
use Rattle.base.specs.Lists.{All, filter_by, range_from, total}
use Rattle.base.proofs.Tests.{and_left, and_right, and_true, below_or_not, false_of}
use Rattle.base.proofs.Ranges.{map_range_same, filter_range_append, filter_range_none, all_filter_range}
use Rattle.base.proofs.Filters.{filter_range_same, filter_range_end, length_filter_shift}
use Rattle.base.proofs.Sums.{total_range_add, total_range_zero, total_range_one}
use Rattle.phrases.specs.Phrases.{stands, places}
use Rattle.documents.specs.Documents.{are_starts, document_of, stands_in, places_in, count_in_document, counts_by_document}
use Rattle.phrases.proofs.Standing.{stands_inside, stands_word, stands_yes}
use Rattle.documents.proofs.Starts.{Starts, ascending_step}
use Rattle.documents.proofs.Numbers.{document_most, document_some, document_together, document_started, document_ahead}
use Rattle.documents.proofs.Inside.{stands_in_lem, in_stands}

-- numbers from 1 to n each count once among the counts of 1 to n
counts_total : (f : ℕ → ℕ) (n : ℕ) (xs : List ℕ) → All (λ (x : ℕ). (1 ≤ f x) × (f x ≤ n)) xs
    → total (map (λ (k : ℕ). length (filter_by (λ (x : ℕ). eqb (f x) (suc k)) xs)) (range_from 0 n)) ≡ length xs
counts_total f n [] h = total_range_zero n
counts_total f n (x ∷ xs) h =
    ap total (map_range_same (λ (k : ℕ). length (filter_by (λ (y : ℕ). eqb (f y) (suc k)) (x ∷ xs))) (λ (k : ℕ). cond (eqb (f x - 1) k) 1 0 + length (filter_by (λ (y : ℕ). eqb (f y) (suc k)) xs)) n (λ k l. each k (below_or_not (f x - 1) k) (below_or_not k (f x - 1))))
    ∙ total_range_add (λ (k : ℕ). cond (eqb (f x - 1) k) 1 0) (λ (k : ℕ). length (filter_by (λ (y : ℕ). eqb (f y) (suc k)) xs)) n
    ∙ omega (arith, total_range_one (f x - 1) n (omega (arith, h.0.0, h.0.1)), counts_total f n xs h.1)
  where
    each : (k : ℕ) → (f x - 1 < k) ⊎ (k ≤ f x - 1) → (k < f x - 1) ⊎ (f x - 1 ≤ k)
        → length (filter_by (λ (y : ℕ). eqb (f y) (suc k)) (x ∷ xs)) ≡ cond (eqb (f x - 1) k) 1 0 + length (filter_by (λ (y : ℕ). eqb (f y) (suc k)) xs)
    each k (inl a) b = rw (ne_eqb (f x) (suc k) (λ e. omega (arith, h.0.0)), ne_eqb (f x - 1) k (λ e. omega arith)) (omega arith)
    each k (inr a) (inl b) = rw (ne_eqb (f x) (suc k) (λ e. omega (arith, h.0.0)), ne_eqb (f x - 1) k (λ e. omega arith)) (omega arith)
    each k (inr a) (inr b) = rw (eq-eqb (f x) (suc k) (omega (arith, h.0.0)), eq-eqb (f x - 1) k (omega arith)) (omega arith)

-- the counts of the documents add up
pub counts_add_up : (starts t phrase : List ℕ) → are_starts (length t) starts ≡ true → 1 ≤ length phrase → total (counts_by_document starts t phrase) ≡ length (places_in starts t phrase)
unfolding counts_by_document count_in_document places_in
counts_add_up starts t phrase e some =
    counts_total (document_of starts) (length starts) (filter_by (stands_in starts t phrase) (range_from 0 (suc (length t))))
    (all_filter_range (stands_in starts t phrase) (λ (q : ℕ). (1 ≤ document_of starts q) × (document_of starts q ≤ length starts)) 0 (suc (length t))
    (λ q l u p. (document_some (length t) starts q e (omega (arith, stands_inside t phrase q (stands_in_lem starts t phrase q p).1)), document_most starts q)))

-- two tests, one after the other
filter_twice : (f g : ℕ → Bool) (xs : List ℕ) → filter_by f (filter_by g xs) ≡ filter_by (λ (x : ℕ). g x && f x) xs
filter_twice f g [] = refl
filter_twice f g (x ∷ xs) = by (g x) (filter_twice f g xs)
  where
    by : (b : Bool) → filter_by f (filter_by g xs) ≡ filter_by (λ (y : ℕ). g y && f y) xs
        → filter_by f (cond b (x ∷ filter_by g xs) (filter_by g xs)) ≡ cond (b && f x) (x ∷ filter_by (λ (y : ℕ). g y && f y) xs) (filter_by (λ (y : ℕ). g y && f y) xs)
    by true ih = ap (λ (ys : List ℕ). cond (f x) (x ∷ ys) ys) ih
    by false ih = ih

-- two tests that imply each other
test_same : (a b : Bool) → (a ≡ true → b ≡ true) → (b ≡ true → a ≡ true) → a ≡ b
test_same true b f g = sym (f refl)
test_same false true f g = g refl
test_same false false f g = refl

-- inside a list the default does not matter
get_d_any : (xs : List ℕ) (i d d' : ℕ) → i < length xs → get_or xs i d ≡ get_or xs i d'
get_d_any [] i d d' h = absurd (omega arith)
get_d_any (x ∷ xs) zero d d' h = refl
get_d_any (x ∷ xs) (suc i) d d' h = get_d_any xs i d d' (omega arith)

-- the count of a document is that of its words by themselves
module _ (starts t phrase : List ℕ) (ok : Starts (length t) starts) (some : 1 ≤ length phrase) (k : ℕ) (there : k < length starts) where
  abbrev from : ℕ
  from = get_or starts k 0

  abbrev to : ℕ
  to = get_or starts (suc k) (length t)

  abbrev own : List ℕ
  own = take (to - from) (drop from t)

  abbrev here : ℕ → Bool
  here q = stands_in starts t phrase q && eqb (document_of starts q) (suc k)

  -- where document k ends
  ends : (suc k < length starts) ⊎ (length starts ≤ suc k) → (from < to) × (to ≤ length t)
  ends (inl h) =
      let e : to ≡ get_or starts (suc k) 0 = get_d_any starts (suc k) (length t) 0 h in
      (omega (arith, ascending_step starts ok.ascending k h), omega (arith, ok.below (suc k) h))
  ends (inr h) =
      let e : to ≡ length t = get_or-eq_default starts (length t) h in
      (omega (arith, ok.below k there), omega arith)

  -- a place lies in document k exactly if it is from its start to its end
  number_is : (q : ℕ) → from ≤ q → q < to → document_of starts q ≡ suc k
  number_is q l u = by (below_or_not (suc k) (length starts))
    where
      by : (suc k < length starts) ⊎ (length starts ≤ suc k) → document_of starts q ≡ suc k
      by (inl h) =
          let e : to ≡ get_or starts (suc k) 0 = get_d_any starts (suc k) (length t) 0 h in
          omega (arith, document_started starts ok.ascending q k there l, document_ahead starts ok.ascending q (suc k) (omega arith))
      by (inr h) = omega (arith, document_started starts ok.ascending q k there l, document_most starts q)

  is_number : (q : ℕ) → document_of starts q ≡ suc k → q < length t → (from ≤ q) × (q < to)
  is_number q e h = (low (below_or_not q from), high (below_or_not q to) (below_or_not (suc k) (length starts)))
    where
      low : (q < from) ⊎ (from ≤ q) → from ≤ q
      low (inr l) = l
      low (inl l) = absurd (omega (arith, document_ahead starts ok.ascending q k l))

      high : (q < to) ⊎ (to ≤ q) → (suc k < length starts) ⊎ (length starts ≤ suc k) → q < to
      high (inl l) c = l
      high (inr l) (inl c) =
          let d : to ≡ get_or starts (suc k) 0 = get_d_any starts (suc k) (length t) 0 c in
          absurd (omega (arith, document_started starts ok.ascending q (suc k) c (omega arith)))
      high (inr l) (inr c) =
          let d : to ≡ length t = get_or-eq_default starts (length t) c in
          absurd (omega arith)

  own_length : length own ≡ to - from
  own_length = let b = ends (below_or_not (suc k) (length starts)) in length-take (to - from) (drop from t) ∙ omega (arith, length-drop from t)

  own_word : (i : ℕ) → i < to - from → get_or own i 0 ≡ get_or t (from + i) 0
  own_word i h = get_or-take (to - from) (drop from t) i 0 h ∙ get_or-drop from t i 0

  -- the phrase stands in the document by itself exactly where it stands in it in the text
  own_stands : (i : ℕ) → here (i + from) ≡ stands own phrase i
  own_stands i = test_same (here (i + from)) (stands own phrase i) forth back
    where
      forth : here (i + from) ≡ true → stands own phrase i ≡ true
      forth e =
          let s = stands_in_lem starts t phrase (i + from) (and_left (stands_in starts t phrase (i + from)) (eqb (document_of starts (i + from)) (suc k)) e) in
          let d : document_of starts (i + from) ≡ suc k = eqb-true _ _ (and_right (stands_in starts t phrase (i + from)) (eqb (document_of starts (i + from)) (suc k)) e) in
          let l : i + from + length phrase ≤ length t = stands_inside t phrase (i + from) s.1 in
          let m : document_of starts (i + from + (length phrase - 1)) ≡ suc k = (document_together starts (i + from) (length phrase)).0 s.0 (length phrase - 1) (omega arith) ∙ d in
          let b = is_number (i + from + (length phrase - 1)) m (omega arith) in
          stands_yes own phrase i (omega (arith, own_length, b.1))
          (λ j h.
          let z : from + (i + j) ≡ i + from + j = omega arith in
          let w : get_or own (i + j) 0 ≡ get_or t (i + from + j) 0 = own_word (i + j) (omega (arith, b.1)) ∙ ap (λ (n : ℕ). get_or t n 0) z in
          w ∙ stands_word t phrase (i + from) s.1 j h)

      back : stands own phrase i ≡ true → here (i + from) ≡ true
      back e =
          let l : i + length phrase ≤ to - from = omega (arith, stands_inside own phrase i e, own_length) in
          let b = ends (below_or_not (suc k) (length starts)) in
          let first : document_of starts (i + from) ≡ suc k = number_is (i + from) (omega arith) (omega arith) in
          and_true (stands_in starts t phrase (i + from)) (eqb (document_of starts (i + from)) (suc k))
          (in_stands starts t phrase (i + from)
          ((document_together starts (i + from) (length phrase)).1 (λ j h. number_is (i + from + j) (omega arith) (omega arith) ∙ sym first))
          (stands_yes t phrase (i + from) (omega (arith, b.1))
          (λ j h.
          let z : i + from + j ≡ from + (i + j) = omega arith in
          let w : get_or t (i + from + j) 0 ≡ get_or own (i + j) 0 = ap (λ (n : ℕ). get_or t n 0) z ∙ sym (own_word (i + j) (omega arith)) in
          w ∙ stands_word own phrase i e j h)))
          (eq-eqb (document_of starts (i + from)) (suc k) first)

  pub count_alone : count_in_document starts t phrase k ≡ length (places own phrase)
  unfolding count_in_document places_in places
  count_alone =
      let b = ends (below_or_not (suc k) (length starts)) in
      let e : suc (length t) ≡ from + (suc (to - from) + (length t - to)) = omega arith in
      ap length (filter_twice (λ (q : ℕ). eqb (document_of starts q) (suc k)) (stands_in starts t phrase) (range_from 0 (suc (length t))))
      ∙ ap (λ (n : ℕ). length (filter_by here (range_from 0 n))) e
      ∙ ap length (filter_range_append here 0 from (suc (to - from) + (length t - to)))
      ∙ ap (λ (xs : List ℕ). length (xs ++ filter_by here (range_from (0 + from) (suc (to - from) + (length t - to))))) (filter_range_none here 0 from (λ q l u. outside q (inl (omega arith))))
      ∙ ap length (filter_range_end here (0 + from) (suc (to - from)) (length t - to) (λ q l. outside q (inr (omega arith))))
      ∙ length_filter_shift here from 0 (suc (to - from))
      ∙ ap length (filter_range_same (λ (i : ℕ). here (i + from)) (stands own phrase) 0 (suc (to - from)) (λ i l u. own_stands i))
      ∙ ap (λ (n : ℕ). length (filter_by (stands own phrase) (range_from 0 (suc n)))) (sym own_length)
    where
      outside : (q : ℕ) → (q < from) ⊎ (to ≤ q) → here q ≡ false
      outside q c = false_of (here q) (λ e.
          let s = stands_in_lem starts t phrase q (and_left (stands_in starts t phrase q) (eqb (document_of starts q) (suc k)) e) in
          let d : document_of starts q ≡ suc k = eqb-true _ _ (and_right (stands_in starts t phrase q) (eqb (document_of starts q) (suc k)) e) in
          let b = is_number q d (omega (arith, stands_inside t phrase q s.1)) in
          by b c)
        where
          by : (from ≤ q) × (q < to) → (q < from) ⊎ (to ≤ q) → ⊥
          by b (inl l) = omega (arith, b.0)
          by b (inr l) = omega (arith, b.1)
