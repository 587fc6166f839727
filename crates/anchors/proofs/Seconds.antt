-- The second word of a phrase and of a pair. Assumes nothing.
use Prim.Native.Nat.{ℕ, suc, ◌+◌, ◌-◌, ◌≤◌, ◌<◌}
use mathlib.Core.Path.{◌≡◌, refl, sym, ap}
use mathlib.Core.Bool.{Bool, true, false, cond}
use mathlib.Core.List.{List}
use native.Mathlib.Omega.{arith}
use borrow.Author.Tests.{ltb-true, ltb-false, leb-true, le-leb, eqb-true}
use lib.Dec.{eqb, leb, ltb}
use lib.IntN.{ℤ, pos, negsuc, ◌+ℤ◌}
use lib.ListN.{length, get_or}
use Rattle.base.specs.Texts.{max_words, max_phrase}
use Rattle.base.proofs.Tests.{and_left, and_right}
use Rattle.tree.specs.declared.Place.{Place}
use Rattle.std.proofs.Common.{Some, None}
use Rattle.phrases.specs.Phrases.{stands}
use Rattle.phrases.specs.Neighbours.{stands_at, neighbour_at}
use Rattle.phrases.specs.Offsets.{found_at, place_within, shifted_of}
use Rattle.phrases.proofs.Standing.{stands_inside, stands_word}
use Rattle.phrases.proofs.Neighbours.{neighbour_anchored}
use Rattle.anchors.specs.declared.Second.{Second}
use Rattle.matching.specs.declared.Sought.{Sought}
use Rattle.matching.specs.declared.Sought.TheVariants.{Phrase, Pair}
use Rattle.matching.specs.Searching.{Paired}
use Rattle.anchors.specs.Anchors.{AnchorOf}
use Rattle.anchors.specs.Seconds.{Beside, second_at, SecondOf}

-- ---- of a phrase

-- each word of a phrase stands beside each other, as far as their numbers say
pub phrase_beside : (t ws : List ℕ) (i k : ℕ) → i < length ws → k < length ws → Beside t (get_or ws k 0) i (i - k) (k - i) (stands t ws)
phrase_beside t ws i k hi hk = record {
  back = λ q e. omega arith;
  inside = λ q e. omega (arith, stands_inside t ws q e);
  word = λ q e. let m : q + i - (i - k) + (k - i) ≡ q + k = omega arith in rw m (stands_word t ws q e k hk);
}

-- ---- of a pair

-- where a pair stands, its second word stands at the moved place, which is in the text
second_there : (t : List ℕ) (v : ℕ) (z : ℤ) → stands_at t v z ≡ true → (r : ℕ) × (z ≡ pos r) × (r < length t) × (get_or t r 0 ≡ v)
unfolding stands_at
second_there t v (pos r) e =
    (r, refl, ltb-true r (length t) (and_left (ltb r (length t)) (eqb (get_or t r 0) v) e), eqb-true (get_or t r 0) v (and_right (ltb r (length t)) (eqb (get_or t r 0) v) e))
second_there t v (negsuc k) e = cc

module _ (t : List ℕ) (w v : ℕ) (d : ℤ) (q : ℕ) (e : neighbour_at t w v d q ≡ true) where
  neighbour_there : (r : ℕ) × (pos q +ℤ d ≡ pos r) × (r < length t) × (get_or t r 0 ≡ v)
  unfolding neighbour_at
  neighbour_there = second_there t v (pos q +ℤ d) (and_right (stands_at t w (pos q)) (stands_at t v (pos q +ℤ d)) e)

-- a number as an integer is that number
number_is : (a b : ℕ) → pos a ≡ pos b → a ≡ b
number_is a b e = cc

-- a place moved back is so many before it
back_is : (q k r : ℕ) → pos q +ℤ negsuc k ≡ pos r → (suc k ≤ q) × (r ≡ q - suc k)
back_is q k r e = by (ltb q (suc k)) refl e
  where
    by : (b : Bool) → ltb q (suc k) ≡ b → cond b (negsuc (suc k - suc q)) (pos (q - suc k)) ≡ pos r → (suc k ≤ q) × (r ≡ q - suc k)
    by true h e = cc
    by false h e = (omega (arith, ltb-false q (suc k) h), sym (number_is (q - suc k) r e))

-- the first word is beside itself
pair_itself : (t : List ℕ) (w v : ℕ) (d : ℤ) → Beside t w 0 0 0 (neighbour_at t w v d)
pair_itself t w v d = record {
  back = λ q e. omega arith;
  inside = λ q e. omega (arith, (neighbour_anchored t w v d).inside q e);
  word = λ q e. let m : q + 0 - 0 + 0 ≡ q + 0 = omega arith in rw m ((neighbour_anchored t w v d).word q e);
}

pair_after : (t : List ℕ) (w v k : ℕ) → Beside t v 0 0 k (neighbour_at t w v (pos k))
pair_after t w v k = record {
  back = λ q e. omega arith;
  inside = λ q e. omega (arith, at q e, (neighbour_there t w v (pos k) q e).2);
  word = λ q e. rw (at q e) (neighbour_there t w v (pos k) q e).3;
}
  where
    at : (q : ℕ) (e : neighbour_at t w v (pos k) q ≡ true) → q + 0 - 0 + k ≡ (neighbour_there t w v (pos k) q e).0
    at q e = omega (arith, number_is (q + k) (neighbour_there t w v (pos k) q e).0 (neighbour_there t w v (pos k) q e).1)

pair_before : (t : List ℕ) (w v k : ℕ) → Beside t v 0 (suc k) 0 (neighbour_at t w v (negsuc k))
pair_before t w v k = record {
  back = λ q e. omega (arith, (moved q e).0);
  inside = λ q e. omega (arith, at q e, (neighbour_there t w v (negsuc k) q e).2);
  word = λ q e. rw (at q e) (neighbour_there t w v (negsuc k) q e).3;
}
  where
    moved : (q : ℕ) (e : neighbour_at t w v (negsuc k) q ≡ true) → (suc k ≤ q) × ((neighbour_there t w v (negsuc k) q e).0 ≡ q - suc k)
    moved q e = back_is q k (neighbour_there t w v (negsuc k) q e).0 (neighbour_there t w v (negsuc k) q e).1

    at : (q : ℕ) (e : neighbour_at t w v (negsuc k) q ≡ true) → q + 0 - suc k + 0 ≡ (neighbour_there t w v (negsuc k) q e).0
    at q e = omega (arith, (moved q e).0, (moved q e).1)

-- what is said of a second word holds of the one of a pair
pub second_known : (C : Second → Type 0) (d : ℤ) (n : ℕ) → ((k : ℕ) → d ≡ pos k → k < n → C (record { number = 1; here = 0; there = k }))
    → ((k : ℕ) → d ≡ negsuc k → suc k ≤ n → C (record { number = 1; here = suc k; there = 0 })) → C (record { number = 0; here = 0; there = 0 }) → C (second_at d n)
second_known C (pos k) n after before itself = by (ltb k n) refl
  where
    by : (b : Bool) → ltb k n ≡ b → C (cond b (record { number = 1; here = 0; there = k }) (record { number = 0; here = 0; there = 0 }))
    by true e = after k refl (ltb-true k n e)
    by false e = itself
second_known C (negsuc k) n after before itself = by (leb (suc k) n) refl
  where
    by : (b : Bool) → leb (suc k) n ≡ b → C (cond b (record { number = 1; here = suc k; there = 0 }) (record { number = 0; here = 0; there = 0 }))
    by true e = before k refl (leb-true (suc k) n e)
    by false e = itself

-- the second word of a pair stands beside the first
pub pair_beside : (t ws : List ℕ) (d : ℤ) (n : ℕ) → Beside t (get_or ws (second_at d n).number 0) 0 (second_at d n).here (second_at d n).there (neighbour_at t (get_or ws 0 0) (get_or ws 1 0) d)
pair_beside t ws d n =
    second_known (λ (r : Second). Beside t (get_or ws r.number 0) 0 r.here r.there (neighbour_at t (get_or ws 0 0) (get_or ws 1 0) d)) d n
    (λ k e h. rw e (pair_after t (get_or ws 0 0) (get_or ws 1 0) k))
    (λ k e h. rw e (pair_before t (get_or ws 0 0) (get_or ws 1 0) k))
    (pair_itself t (get_or ws 0 0) (get_or ws 1 0) d)

-- ---- of what is sought

pub phrase_second : (t ws : List ℕ) (sought : Sought) (i k : ℕ) → sought ≡ Phrase → i < length ws → k < length ws → length ws ≤ max_phrase
    → SecondOf t ws sought i (record { number = k; here = i - k; there = k - i })
phrase_second t ws sought i k e hi hk few = record {
  numbered = hk;
  beside = rw e (phrase_beside t ws i k hi hk);
  near = omega arith;
  far = omega arith;
}

pub pair_second : (t ws : List ℕ) (sought : Sought) (d : ℤ) (i n : ℕ) → sought ≡ Pair d → Paired ws sought → AnchorOf ws sought i → n ≤ max_words → SecondOf t ws sought i (second_at d n)
pair_second t ws sought d i n e two at most =
    let length-is : length ws ≡ 2 = rw e at two in
    let first : i ≡ 0 = rw e at at in
    record {
      numbered = second_known (λ (r : Second). r.number < length ws) d n (λ k g h. omega arith) (λ k g h. omega arith) (omega arith);
      beside = rw (e, first) (pair_beside t ws d n);
      near = second_known (λ (r : Second). r.here ≤ max_words) d n (λ k g h. omega arith) (λ k g h. omega arith) (omega arith);
      far = second_known (λ (r : Second). r.there ≤ max_words) d n (λ k g h. omega arith) (λ k g h. omega arith) (omega arith);
    }

-- ---- by places that are moved

-- the three that there are
abbrev after_by : ℕ → Second
after_by k = record { number = 1; here = 0; there = k }

abbrev before_by : ℕ → Second
before_by k = record { number = 1; here = k; there = 0 }

abbrev itself : Second
itself = record { number = 0; here = 0; there = 0 }

-- 0 moved by the offset is a place
pub moved_after : (d : ℤ) (n : ℕ) (p : Place) → shifted_of 0 d n ≡ Some p → ◌≡◌ {A = Second} (record { number = 1; here = 0; there = p.0 }) (second_at d n)
unfolding shifted_of
moved_after (pos k) n p e = let z : 0 + k ≡ k = omega arith in by (ltb k n) (rw z at e)
  where
    by : (b : Bool) → cond b (found_at k) None ≡ Some p → after_by p.0 ≡ cond b (after_by k) itself
    by true e = let s : k ≡ p.0 = cc in ap after_by (sym s)
    by false e = cc
moved_after (negsuc k) n p e = by (ltb 0 (suc k)) refl e
  where
    by : (b : Bool) → ltb 0 (suc k) ≡ b → place_within (cond b (negsuc (suc k - 1)) (pos (0 - suc k))) n ≡ Some p → after_by p.0 ≡ second_at (negsuc k) n
    by true h e = cc
    by false h e = absurd (omega (arith, ltb-false 0 (suc k) h))

-- n is
pub moved_before : (d : ℤ) (n : ℕ) (p : Place) → shifted_of n d n ≡ Some p → ◌≡◌ {A = Second} (record { number = 1; here = n - p.0; there = 0 }) (second_at d n)
unfolding shifted_of
moved_before (pos k) n p e = by (ltb (n + k) n) refl e
  where
    by : (b : Bool) → ltb (n + k) n ≡ b → cond b (found_at (n + k)) None ≡ Some p → before_by (n - p.0) ≡ cond (ltb k n) (after_by k) itself
    by true h e = absurd (omega (arith, ltb-true (n + k) n h))
    by false h e = cc
moved_before (negsuc k) n p e = by (ltb n (suc k)) refl e
  where
    inside : suc k ≤ n → (b : Bool) → cond b (found_at (n - suc k)) None ≡ Some p → before_by (n - p.0) ≡ cond (leb (suc k) n) (before_by (suc k)) itself
    inside h true e =
        let s : n - suc k ≡ p.0 = cc in
        let m : n - p.0 ≡ suc k = omega arith in
        rw (le-leb (suc k) n h) (ap before_by m)
    inside h false e = cc

    by : (b : Bool) → ltb n (suc k) ≡ b → place_within (cond b (negsuc (suc k - suc n)) (pos (n - suc k))) n ≡ Some p → before_by (n - p.0) ≡ cond (leb (suc k) n) (before_by (suc k)) itself
    by true h e = cc
    by false h e = inside (ltb-false n (suc k) h) (ltb (n - suc k) n) e

-- neither is
pub moved_outside : (d : ℤ) (n : ℕ) → shifted_of 0 d n ≡ None → shifted_of n d n ≡ None → ◌≡◌ {A = Second} (record { number = 0; here = 0; there = 0 }) (second_at d n)
unfolding shifted_of
moved_outside (pos k) n e f = let z : 0 + k ≡ k = omega arith in by (ltb k n) (rw z at e)
  where
    by : (b : Bool) → cond b (found_at k) None ≡ None → itself ≡ cond b (after_by k) itself
    by true e = cc
    by false e = refl
moved_outside (negsuc k) n e f = by (leb (suc k) n) refl
  where
    inside : suc k ≤ n → (b : Bool) → ltb n (suc k) ≡ b → (c : Bool) → ltb (n - suc k) n ≡ c → place_within (cond b (negsuc (suc k - suc n)) (pos (n - suc k))) n ≡ None → ⊥
    inside h true g c i f = omega (arith, ltb-true n (suc k) g)
    inside h false g true i f = let o : cond true (found_at (n - suc k)) None ≡ None = rw i at f in cc
    inside h false g false i f = omega (arith, ltb-false (n - suc k) n i)

    by : (b : Bool) → leb (suc k) n ≡ b → itself ≡ cond b (before_by (suc k)) itself
    by true h = absurd (inside (leb-true (suc k) n h) (ltb n (suc k)) refl (ltb (n - suc k) n) refl f)
    by false h = refl
