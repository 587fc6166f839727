-- What one search takes of the hits that are left. Assumes nothing.
use Rattle.std.proofs.Common.{Bool, List, MatchOption, None, Option, Some, [], ap, append-nil, arith, length, map, refl, suc, sym, true, ℕ, ◌++◌, ◌-◌, ◌∙◌, ◌∷◌, ◌≡◌, ◌≤◌}
use Rattle.base.specs.Lists.{All}
use Rattle.base.proofs.Ranges.{all_filter_range}
use Rattle.std.specs.Iterator.{MakesProgress, item_count, Yields, YieldsFirstBy}
use native.Mathlib.Nat.{sub_self}
use Rattle.tree.specs.declared.Place.{Place}
use Rattle.hits.specs.declared.Hits.{Hits}
use Rattle.hits.specs.declared.Search.{Search}
use Rattle.hits.specs.Hits.{hits_between, least_hit}
use Rattle.hits.specs.Searches.{place_after}
use Rattle.hits.specs.Queries.{is_hit, SearchIn}
use Rattle.hits.specs.Left.{IsOn, hits_left}
use Rattle.hits.proofs.Least.{hit_below, hit_first, hit_none}

-- it takes the first of them, or there is none
pub taken : (P : ℕ → Bool) (from end : ℕ) (r : Option Place) (next : ℕ) → r ≡ least_hit P from end → next ≡ place_after r end
    → MatchOption r ((hits_between P from end ≡ []) × (hits_between P next end ≡ [])) (λ q. hits_between P from end ≡ q.0 ∷ hits_between P next end)
taken P from end None next e a = (hit_none P from end (sym e), rw (a, sub_self end) refl)
taken P from end (Some q) next e a = rw a (hit_first P from end q (sym e))

-- and the search goes on after it
pub goes_on : (s : Hits) (r : Option Place) (x : Search) → SearchIn s.query.now x → r ≡ least_hit (is_hit s.query.now) s.search.place.0 s.end.0
    → x.place.0 ≡ place_after r s.end.0 → MakesProgress IsOn (item_count hits_left) s r (record { query = s.query; search = x; end = s.end })
goes_on s None x on e a = record { on = λ h. tt; keeps = tt; rests = λ h. tt }
goes_on s (Some q) x on e a =
    let inside : x.place.0 ≤ s.end.0 = omega (arith, hit_below (is_hit s.query.now) s.search.place.0 s.end.0 q (sym e)) in
    let shorter = ap length (taken (is_hit s.query.now) s.search.place.0 s.end.0 (Some q) x.place.0 e a) in
    record { on = λ h. ((on, inside), tt, omega (arith, shorter)); keeps = (on, inside); rests = λ h. tt }

-- those of which calls have taken some are these and the ones that are left
pub split : (s t : Hits) (xs : List Place) → Yields (YieldsFirstBy (λ (place : Place). place.0) hits_left) s xs t → hits_left s ≡ map (λ (place : Place). place.0) xs ++ hits_left t
split s t [] y = ap hits_left y
split s t (x ∷ xs) y = y.1 ∙ ap (λ (qs : List ℕ). x.0 ∷ qs) (split y.0 t xs y.2)

-- so that at a turn of a `for` over them the hits are those so far, the hit and the ones that are left
pub at_turn : {all rest : List ℕ} (h s t : Hits) (xs : List Place) (q : Place) → hits_left h ≡ all → s ≡ h
    → Yields (YieldsFirstBy (λ (place : Place). place.0) hits_left) s xs t → hits_left t ≡ q.0 ∷ rest → all ≡ map (λ (place : Place). place.0) xs ++ q.0 ∷ rest
at_turn h s t xs q is e y step =
    sym is ∙ ap hits_left (sym e) ∙ split s t xs y ∙ ap (λ (qs : List ℕ). map (λ (place : Place). place.0) xs ++ qs) step

-- and at its end they are those so far
pub at_end : {all : List ℕ} (h s t : Hits) (xs : List Place) → hits_left h ≡ all → s ≡ h
    → Yields (YieldsFirstBy (λ (place : Place). place.0) hits_left) s xs t → hits_left t ≡ [] → all ≡ map (λ (place : Place). place.0) xs
at_end h s t xs is e y none =
    sym is ∙ ap hits_left (sym e) ∙ split s t xs y ∙ ap (λ (qs : List ℕ). map (λ (place : Place). place.0) xs ++ qs) none ∙ append-nil (map (λ (place : Place). place.0) xs)

-- each of the hits up to the end of a text is one, and stands in the text or at its end
pub is_one : (P : ℕ → Bool) (from n : ℕ) (xs rest : List ℕ) (q : ℕ) → hits_between P from (suc n) ≡ xs ++ q ∷ rest → (q ≤ n) × (P q ≡ true)
is_one P from n xs rest q is =
    there xs (rw is at (all_filter_range P (λ (p : ℕ). (p ≤ n) × (P p ≡ true)) from (suc n - from) (λ i a b e. (omega arith, e))))
  where
    there : (ys : List ℕ) → All (λ (p : ℕ). (p ≤ n) × (P p ≡ true)) (ys ++ q ∷ rest) → (q ≤ n) × (P q ≡ true)
    there [] h = h.0
    there (y ∷ ys) h = there ys h.1
