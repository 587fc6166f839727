-- The counts of documents, as places are added to them. Assumes nothing.
use Prim.Native.Nat.{ℕ, suc, ◌+◌, ◌-◌, ◌≤◌, ◌<◌}
use mathlib.Core.Path.{◌≡◌, refl, sym, ap, ◌∙◌}
use mathlib.Core.Bool.{Bool, true, false, cond}
use mathlib.Core.Logic.{◌⊎◌, inl, inr}
use mathlib.Core.List.{List, [], ◌∷◌, ◌++◌, map}
use native.Mathlib.Omega.{arith}
use borrow.Author.Tests.{eq-eqb, ne_eqb}
use lib.Dec.{eqb}
use lib.ListN.{length, get_or, set, drop, length-append, length-set}
use lib.Seq.{set-append_left, get_or-set_same, get_or-set_other}
use Rattle.base.specs.Lists.{filter_by, range_from}
use Rattle.base.specs.Answers.{front}
use Rattle.base.proofs.Tests.{same_or_not}
use Rattle.base.proofs.Lists.{filter_append, filter_most}
use Rattle.base.proofs.Ranges.{length_map_range, get_d-map_range, map_range_is, length_filter_range}
use Rattle.base.proofs.Fronts.{front_is, front_inside}
use Rattle.documents.specs.Documents.{document_of, are_starts, stands_in}
use Rattle.documents.proofs.Numbers.{document_some}
use Rattle.documents.proofs.Inside.{anchored_in}
use Rattle.hits.specs.Hits.{hits_between}
use Rattle.hits.proofs.Left.{is_one}

-- how many of some places lie in document k, counted from 0, and in each document, in order
abbrev pub count_among : List ℕ → List ℕ → ℕ → ℕ
count_among starts qs k = length (filter_by (λ (q : ℕ). eqb (document_of starts q) (suc k)) qs)

abbrev pub counts_among : List ℕ → List ℕ → List ℕ
counts_among starts qs = map (count_among starts qs) (range_from 0 (length starts))

-- of a list in front an element is set as in the list
front_set : (xs z : List ℕ) (k v : ℕ) → k < length xs → set (front xs z) k v ≡ front (set xs k v) z
front_set xs z k v h =
    ap (λ (ys : List ℕ). set ys k v) (front_is xs z)
    ∙ set-append_left xs (drop (length xs) z) k v h
    ∙ ap (λ (n : ℕ). set xs k v ++ drop n z) (sym (length-set xs k v))
    ∙ sym (front_is (set xs k v) z)

module _ (starts qs : List ℕ) (q : ℕ) where
  -- one place more is in its own document, and in no other
  one_more : (k : ℕ) → count_among starts (qs ++ q ∷ []) k ≡ count_among starts qs k + cond (eqb (document_of starts q) (suc k)) 1 0
  one_more k =
      ap length (filter_append (λ (p : ℕ). eqb (document_of starts p) (suc k)) qs (q ∷ []))
      ∙ length-append (filter_by (λ (p : ℕ). eqb (document_of starts p) (suc k)) qs) _
      ∙ ap (λ (n : ℕ). count_among starts qs k + n) (by (eqb (document_of starts q) (suc k)))
    where
      by : (b : Bool) → length (cond b (q ∷ []) []) ≡ cond b 1 0
      by true = refl
      by false = refl

  -- no count is above the number of places
  pub count_few_lem : (k : ℕ) → count_among starts qs k ≤ length qs
  count_few_lem k = filter_most (λ (p : ℕ). eqb (document_of starts p) (suc k)) qs

  module _ (z : List ℕ) (some : 1 ≤ document_of starts q) (most : document_of starts q ≤ length starts) where
    abbrev at : ℕ
    at = document_of starts q - 1

    -- the count of its document, as it stands in a slice
    pub count_stands : get_or (front (counts_among starts qs) z) at 0 ≡ count_among starts qs at
    count_stands =
        front_inside (counts_among starts qs) z at (omega (arith, length_map_range (count_among starts qs) 0 (length starts)))
        ∙ get_d-map_range (count_among starts qs) (length starts) at 0 (omega arith)

    -- with 1 added to it
    pub count_more : set (front (counts_among starts qs) z) at (get_or (front (counts_among starts qs) z) at 0 + 1) ≡ front (counts_among starts (qs ++ q ∷ [])) z
    count_more =
        ap (λ (v : ℕ). set (front (counts_among starts qs) z) at (v + 1)) count_stands
        ∙ front_set (counts_among starts qs) z at (count_among starts qs at + 1) inside
        ∙ ap (λ (xs : List ℕ). front xs z) (map_range_is 0 _ (count_among starts (qs ++ q ∷ [])) (length starts) (length-set (counts_among starts qs) at _ ∙ long) (λ i h. each i h (same_or_not i at)))
      where
        long : length (counts_among starts qs) ≡ length starts
        long = length_map_range (count_among starts qs) 0 (length starts)

        inside : at < length (counts_among starts qs)
        inside = omega (arith, long)

        each : (i : ℕ) → i < length starts → (i ≡ at) ⊎ (i ≡ at → ⊥) → get_or (set (counts_among starts qs) at (count_among starts qs at + 1)) i 0 ≡ count_among starts (qs ++ q ∷ []) i
        each i h (inl e) =
            let d : document_of starts q ≡ suc i = omega arith in
            ap (λ (k : ℕ). get_or (set (counts_among starts qs) at (count_among starts qs at + 1)) k 0) e
            ∙ get_or-set_same (counts_among starts qs) at (count_among starts qs at + 1) 0 inside
            ∙ ap (λ (k : ℕ). count_among starts qs k + 1) (sym e)
            ∙ sym (one_more i ∙ ap (λ (b : Bool). count_among starts qs i + cond b 1 0) (eq-eqb (document_of starts q) (suc i) d))
        each i h (inr d) =
            let o : count_among starts qs i + 0 ≡ count_among starts qs i = omega arith in
            get_or-set_other (counts_among starts qs) at i (count_among starts qs at + 1) 0 d
            ∙ get_d-map_range (count_among starts qs) (length starts) i 0 h
            ∙ sym (one_more i ∙ ap (λ (b : Bool). count_among starts qs i + cond b 1 0) (ne_eqb (document_of starts q) (suc i) (λ e. d (omega arith))) ∙ o)

-- a hit of a phrase after some others, of a text
module _ (starts t ws xs rest : List ℕ) (q : ℕ) (some : 1 ≤ length ws) (rules : are_starts (length t) starts ≡ true)
    (is : hits_between (stands_in starts t ws) 0 (suc (length t)) ≡ xs ++ q ∷ rest) where
  -- lies in a document
  pub hit_numbered : 1 ≤ document_of starts q
  hit_numbered =
      document_some (length t) starts q rules (omega (arith, (anchored_in starts t ws 0 some).inside q (is_one (stands_in starts t ws) 0 (length t) xs rest q is).1))

  -- and there are few before it
  pub hits_few : length xs ≤ length t
  hits_few = omega (arith, ap length is, length-append xs (q ∷ rest), length_filter_range (stands_in starts t ws) 0 (suc (length t) - 0))
