-- What stands inside one document, and a text that is one document. Assumes nothing.
use Prim.Native.Nat.{ℕ, zero, suc, ◌+◌, ◌≤◌, ◌<◌}
use mathlib.Core.Path.{◌≡◌, refl, sym, ap, ◌∙◌}
use mathlib.Core.Bool.{Bool, true, false, cond, ◌&&◌}
use mathlib.Core.Logic.{◌⊎◌, inl, inr}
use mathlib.Core.List.{List}
use native.Mathlib.Omega.{arith}
use borrow.Author.Tests.{le-leb, lt-ltb, eq-eqb}
use lib.Dec.{leb}
use lib.IntN.{ℤ, pos, ◌+ℤ◌, neg_ℤ, nat_abs}
use lib.ListN.{length, get_or}
use Rattle.base.specs.Lists.{filter_by, count_of}
use Rattle.base.proofs.Tests.{and_never, and_left, and_right, and_true, below_or_not, false_of}
use Rattle.base.proofs.Filters.{filter_range_same, count_filter_range, count_filter_outside}
use Rattle.phrases.specs.Phrases.{stands, places}
use Rattle.phrases.specs.Neighbours.{neighbour_at, neighbours}
use Rattle.phrases.specs.Anchors.{Anchored}
use Rattle.documents.specs.Documents.{is_ascending, are_starts, one_start, document_of, same_document, in_one_document, stands_in, places_in, neighbour_in, neighbours_in}
use Rattle.phrases.proofs.Standing.{stands_inside, stands_word}
use Rattle.phrases.proofs.Mirror.{mirror_by}
use Rattle.documents.proofs.Numbers.{document_either}

module _ (starts t phrase : List ℕ) where
  -- a phrase that stands inside one document stands
  pub stands_in_lem : (q : ℕ) → stands_in starts t phrase q ≡ true → (in_one_document starts q (length phrase) ≡ true) × (stands t phrase q ≡ true)
  unfolding stands_in
  stands_in_lem q e = (and_left (in_one_document starts q (length phrase)) (stands t phrase q) e, and_right (in_one_document starts q (length phrase)) (stands t phrase q) e)

  pub in_stands : (q : ℕ) → in_one_document starts q (length phrase) ≡ true → stands t phrase q ≡ true → stands_in starts t phrase q ≡ true
  unfolding stands_in
  in_stands q o e = and_true (in_one_document starts q (length phrase)) (stands t phrase q) o e

  -- one that does not lie in one document, or does not stand, does not; in one document it stands if it stands in the text
  pub apart_in : (q : ℕ) → in_one_document starts q (length phrase) ≡ false → stands_in starts t phrase q ≡ false
  unfolding stands_in
  apart_in q e = rw e

  pub nowhere_in : (q : ℕ) → stands t phrase q ≡ false → stands_in starts t phrase q ≡ false
  unfolding stands_in
  nowhere_in q e = rw e (and_never (in_one_document starts q (length phrase)))

  pub together_in : (q : ℕ) → in_one_document starts q (length phrase) ≡ true → stands_in starts t phrase q ≡ stands t phrase q
  unfolding stands_in
  together_in q e = rw e

  -- so that one of no words stands where it stands in the text
  pub none_in : length phrase ≡ 0 → (q : ℕ) → stands_in starts t phrase q ≡ stands t phrase q
  unfolding in_one_document
  none_in none q = together_in q (ap (in_one_document starts q) none)

  -- each word is an anchor
  pub anchored_in : (i : ℕ) → i < length phrase → Anchored t (get_or phrase i 0) i (stands_in starts t phrase)
  anchored_in i h = record {
    inside = λ q e. omega (arith, stands_inside t phrase q (stands_in_lem q e).1);
    word = λ q e. stands_word t phrase q (stands_in_lem q e).1 i h;
  }

  -- none past the end
  pub past_in : (q : ℕ) → length t < q + length phrase → stands_in starts t phrase q ≡ false
  past_in q h = false_of (stands_in starts t phrase q) (λ e. omega (arith, stands_inside t phrase q (stands_in_lem q e).1))

  pub places_in_once : (q : ℕ) → count_of q (places_in starts t phrase) ≡ cond (stands_in starts t phrase q) 1 0
  unfolding places_in
  places_in_once q = by (below_or_not q (suc (length t)))
    where
      by : (q < suc (length t)) ⊎ (suc (length t) ≤ q) → count_of q (places_in starts t phrase) ≡ cond (stands_in starts t phrase q) 1 0
      by (inl h) = count_filter_range (stands_in starts t phrase) q 0 (suc (length t)) (omega arith) (omega arith)
      by (inr h) =
          count_filter_outside (stands_in starts t phrase) q 0 (suc (length t)) (inr (omega arith))
          ∙ sym (ap (λ (b : Bool). cond {A = ℕ} b 1 0) (past_in q (omega arith)))

  -- where each place lies in one document with those after it, documents do not matter
  pub places_in_all : ((q : ℕ) → in_one_document starts q (length phrase) ≡ true) → places_in starts t phrase ≡ places t phrase
  unfolding places_in places stands_in
  places_in_all h = filter_range_same (stands_in starts t phrase) (stands t phrase) 0 (suc (length t)) (λ q l u. ap (λ (b : Bool). b && stands t phrase q) (h q))

-- a text of one document
module _ (t : List ℕ) where
  pub one_document : (q : ℕ) → document_of (one_start (length t)) q ≡ length (one_start (length t))
  unfolding document_of
  one_document q = by (length t)
    where
      by : (n : ℕ) → length (filter_by (λ (s : ℕ). leb s q) (one_start n)) ≡ length (one_start n)
      by zero = refl
      by (suc n) = rw (le-leb 0 q (omega arith))

  pub one_same : (p q : ℕ) → same_document (one_start (length t)) p q ≡ true
  unfolding same_document
  one_same p q = eq-eqb _ _ (one_document p ∙ sym (one_document q))

  pub one_whole : (q m : ℕ) → in_one_document (one_start (length t)) q m ≡ true
  unfolding in_one_document
  one_whole q zero = refl
  one_whole q (suc m) = one_same q (q + m)

  pub one_starts : are_starts (length t) (one_start (length t)) ≡ true
  unfolding are_starts is_ascending
  one_starts = by (length t)
    where
      by : (n : ℕ) → are_starts n (one_start n) ≡ true
      by zero = refl
      by (suc n) = rw (lt-ltb 0 (suc n) (omega arith))

  pub one_pairs : (w v : ℕ) (d : ℤ) → neighbours_in (one_start (length t)) t w v d ≡ neighbours t w v d
  unfolding neighbours_in neighbours neighbour_in
  one_pairs w v d =
      ap length (filter_range_same (neighbour_in (one_start (length t)) t w v d) (neighbour_at t w v d) 0 (length t) (λ q l u. ap (λ (b : Bool). b && neighbour_at t w v d q) (one_same q (nat_abs (pos q +ℤ d)))))

-- the mirror law inside documents
pub mirror_in : (starts t : List ℕ) (w v : ℕ) (d : ℤ) → neighbours_in starts t w v d ≡ neighbours_in starts t v w (neg_ℤ d)
unfolding neighbours_in neighbour_in
mirror_in starts t w v d = mirror_by (same_document starts) (document_either starts) t w v d
