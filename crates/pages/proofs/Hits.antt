-- Laws of hits: which places are hits, and which are left after the first of them. Assumes nothing.
use Prim.Native.Nat.{ℕ, zero, suc, ◌+◌, ◌-◌, ◌≤◌, ◌<◌}
use mathlib.Core.Path.{◌≡◌, refl, sym, ap, ◌∙◌}
use mathlib.Core.Bool.{Bool, true, false, cond, false≢true}
use mathlib.Core.Logic.{◌⊎◌, inl, inr}
use mathlib.Core.List.{List, [], ◌∷◌, ◌++◌, Memᴰ}
use native.Mathlib.Nat.{sub-zero}
use native.Mathlib.Omega.{arith}
use lib.ListN.{length, take, drop, get_or, length-take}
use lib.Seq.{get_or-take}
use Rattle.base.specs.Lists.{filter_by, range_from}
use Rattle.base.proofs.Tests.{below_or_not}
use Rattle.base.proofs.Ranges.{filter_range_ascends}
use Rattle.pages.specs.Hits.{hits_from, all_hits, last_or}
use Rattle.base.proofs.Members.{get_d-mem, mem_get_d}
use Rattle.base.proofs.Filters.{filter_range_sound, filter_range_has}

-- the last of a list with one element more
pub last_append : (d : ℕ) (xs : List ℕ) (q : ℕ) → last_or d (xs ++ q ∷ []) ≡ q
last_append d [] q = refl
last_append d (x ∷ xs) q = last_append x xs q

-- the hits past a place, up to below a bound
abbrev past : (ℕ → Bool) → ℕ → ℕ → List ℕ
past P bound q = filter_by P (range_from (suc q) (bound - suc q))

-- after the first m + 1 hits of a range, those past the last of them are the rest
rest_past : (P : ℕ → Bool) (k from m d : ℕ) → m < length (filter_by P (range_from from k))
    → past P (from + k) (last_or d (take (suc m) (filter_by P (range_from from k)))) ≡ drop (suc m) (filter_by P (range_from from k))
rest_past P zero from m d h = absurd (omega arith)
rest_past P (suc k) from m d h = go (P from) m h (rest_past P k (suc from))
  where
    hs : List ℕ
    hs = filter_by P (range_from (suc from) k)

    bound : from + suc k ≡ suc from + k
    bound = omega arith

    go : (b : Bool) (m : ℕ) → m < length (cond b (from ∷ hs) hs) → ((m d : ℕ) → m < length hs → past P (suc from + k) (last_or d (take (suc m) hs)) ≡ drop (suc m) hs)
        → past P (from + suc k) (last_or d (take (suc m) (cond b (from ∷ hs) hs))) ≡ drop (suc m) (cond b (from ∷ hs) hs)
    go true zero h ih =
        let e : from + suc k - suc from ≡ k = omega arith in
        ap (λ (n : ℕ). filter_by P (range_from (suc from) n)) e
    go true (suc m) h ih = ap (λ (n : ℕ). past P n (last_or from (take (suc m) hs))) bound ∙ ih m from (omega arith)
    go false m h ih = ap (λ (n : ℕ). past P n (last_or d (take (suc m) hs))) bound ∙ ih m d h

module _ (P : ℕ → Bool) (end : ℕ) where
  -- the hits at or after place 0 are all hits
  pub hits_from_start : hits_from P end 0 ≡ all_hits P end
  hits_from_start = ap (λ (n : ℕ). filter_by P (range_from 0 n)) (sub-zero (suc end))

  -- after the first m + 1 hits from a place on, those past the last of them are the rest
  pub hits_rest : (next m : ℕ) → next ≤ end → m < length (hits_from P end next)
      → hits_from P end (suc (last_or 0 (take (suc m) (hits_from P end next)))) ≡ drop (suc m) (hits_from P end next)
  hits_rest next m h l =
      let e : next + (suc end - next) ≡ suc end = omega arith in
      ap (λ (n : ℕ). past P n (last_or 0 (take (suc m) (hits_from P end next)))) (sym e) ∙ rest_past P (suc end - next) next m 0 l

  -- a hit is a place up to the end at which P holds
  pub is_hit : (q : ℕ) → Memᴰ q (all_hits P end) → (q ≤ end) × (P q ≡ true)
  is_hit q m = let h = filter_range_sound P 0 (suc end) q m in (omega arith, h.2)

  -- and each such place is a hit
  pub hit_is : (q : ℕ) → q ≤ end → P q ≡ true → Memᴰ q (all_hits P end)
  hit_is q h e = filter_range_has P 0 (suc end) q (omega arith) (omega arith) e

  -- the first k hits are all hits if the last hit is among them
  pub last_among : (k q : ℕ) → Memᴰ q (take k (all_hits P end)) → ((p : ℕ) → q < p → p ≤ end → P p ≡ false) → length (all_hits P end) ≤ k
  last_among k q m none = by (below_or_not k (length (all_hits P end)))
    where
      by : (k < length (all_hits P end)) ⊎ (length (all_hits P end) ≤ k) → length (all_hits P end) ≤ k
      by (inr h) = h
      by (inl h) =
          let w = mem_get_d (take k (all_hits P end)) m in
          let i = w.0 in
          let l : i < k = omega (arith, length-take k (all_hits P end)) in
          let later = is_hit (get_or (all_hits P end) k 0) (get_d-mem (all_hits P end) k h) in
          let e : get_or (all_hits P end) i 0 ≡ q = sym (get_or-take k (all_hits P end) i 0 l) ∙ w.2 in
          let less : q < get_or (all_hits P end) k 0 = omega (arith, filter_range_ascends P 0 (suc end) i k l h) in
          absurd (false≢true (sym (none (get_or (all_hits P end) k 0) less later.0) ∙ later.1))
