-- An absent word stands nowhere. Assumes nothing.
use Prim.Native.Nat.{ℕ, suc, ◌+◌, ◌<◌}
use mathlib.Core.Path.{◌≡◌, refl, ap, ◌∙◌}
use mathlib.Core.Bool.{false}
use mathlib.Core.List.{List, [], map}
use native.Mathlib.Omega.{arith}
use borrow.Author.Tests.{ltb-true, eqb-true}
use lib.Dec.{eqb, ltb}
use lib.IntN.{ℤ, pos, negsuc, ◌+ℤ◌, nat_abs}
use lib.ListN.{length, get_or}
use Rattle.base.specs.Lists.{Below, filter_by, range_from, count_of}
use Rattle.base.proofs.Tests.{and_never, and_left, and_right, false_of}
use Rattle.base.proofs.Lists.{all_at, all_imp}
use Rattle.base.proofs.Counts.{count_none, count_take_whole}
use Rattle.base.proofs.Ranges.{filter_range_none}
use Rattle.phrases.specs.Neighbours.{stands_at, neighbour_at}
use Rattle.phrases.proofs.Standing.{stands_inside, stands_word}
use Rattle.documents.specs.Documents.{document_of, same_document, stands_in, places_in, neighbour_in, neighbours_in, count_in_document, counts_by_document}
use Rattle.documents.specs.Absent.{AbsentWord, AbsentWords}
use Rattle.documents.proofs.Inside.{stands_in_lem}

module _ (vocab : ℕ) (starts t : List ℕ) (below : Below vocab t) where
  -- no place of the text has the rank V
  other : (p : ℕ) → p < length t → get_or t p 0 ≡ vocab → ⊥
  other p h e = omega (arith, all_at (λ (x : ℕ). x < vocab) t 0 p below h)

  never_counted : count_of vocab t ≡ 0
  never_counted = count_none vocab t (all_imp (λ (x : ℕ). x < vocab) (λ (x : ℕ). x ≡ vocab → ⊥) (λ x h e. omega arith) t below)

  -- nor does it stand left of the text or past its end
  never_at : (z : ℤ) → stands_at t vocab z ≡ false
  unfolding stands_at
  never_at (pos k) =
      false_of (stands_at t vocab (pos k)) (λ e.
      other k (ltb-true k (length t) (and_left (ltb k (length t)) (eqb (get_or t k 0) vocab) e)) (eqb-true (get_or t k 0) vocab (and_right (ltb k (length t)) (eqb (get_or t k 0) vocab) e)))
  never_at (negsuc k) = refl

  first_none : (v : ℕ) (d : ℤ) (q : ℕ) → neighbour_in starts t vocab v d q ≡ false
  unfolding neighbour_in neighbour_at
  first_none v d q = rw (never_at (pos q)) (and_never (same_document starts q (nat_abs (pos q +ℤ d))))

  second_none : (w : ℕ) (d : ℤ) (q : ℕ) → neighbour_in starts t w vocab d q ≡ false
  unfolding neighbour_in neighbour_at
  second_none w d q = rw (never_at (pos q +ℤ d), and_never (stands_at t w (pos q))) (and_never (same_document starts q (nat_abs (pos q +ℤ d))))

  module _ (phrase : List ℕ) (i : ℕ) (h : i < length phrase) (e : get_or phrase i 0 ≡ vocab) where
    stands-nowhere : (q : ℕ) → stands_in starts t phrase q ≡ false
    stands-nowhere q =
        false_of (stands_in starts t phrase q) (λ s.
        let both = stands_in_lem starts t phrase q s in
        other (q + i) (omega (arith, stands_inside t phrase q both.1)) (stands_word t phrase q both.1 i h ∙ e))

    no-places : places_in starts t phrase ≡ []
    unfolding places_in
    no-places = filter_range_none (stands_in starts t phrase) 0 (suc (length t)) (λ q l u. stands-nowhere q)

    no-count : (k : ℕ) → count_in_document starts t phrase k ≡ 0
    unfolding count_in_document
    no-count k = ap (λ (ps : List ℕ). length (filter_by (λ (q : ℕ). eqb (document_of starts q) (suc k)) ps)) no-places

    no-counts : counts_by_document starts t phrase ≡ map (λ (k : ℕ). 0) (range_from 0 (length starts))
    unfolding counts_by_document
    no-counts = ap (λ (f : ℕ → ℕ). map f (range_from 0 (length starts))) (λ j k. no-count k j)

  absent_word : AbsentWord vocab starts t
  unfolding neighbours_in
  absent_word = record {
    below = λ p. omega (arith, count_take_whole vocab p t, never_counted);
    never = never_counted;
    first = λ v d. ap length (filter_range_none (neighbour_in starts t vocab v d) 0 (length t) (λ q l u. first_none v d q));
    second = λ w d. ap length (filter_range_none (neighbour_in starts t w vocab d) 0 (length t) (λ q l u. second_none w d q));
    stands = stands-nowhere;
    nowhere = no-places;
    uncounted = no-counts;
  }

pub absent_words : AbsentWords
absent_words vocab starts t below = absent_word vocab starts t below
