-- Laws of lists laid end to end, and of the segments of a list. Assumes nothing.
use Prim.Native.Nat.{ℕ, zero, suc, ◌+◌, ◌≤◌, ◌<◌}
use mathlib.Core.Path.{◌≡◌, refl, sym, ap, ap₂, ◌∙◌}
use mathlib.Core.List.{List, [], ◌∷◌, ◌++◌, map, flatten, append_assoc}
use native.Mathlib.Omega.{arith}
use lib.ListN.{length, take, drop, get_or, length-append, length-drop, take-append-drop, get_or-map}
use lib.Seq.{take-append_seam, drop-append_seam, drop-drop, get_or-take, get_or-drop, length-take-le}
use Rattle.base.specs.Lists.{All, total, segments}
use Rattle.base.proofs.Lists.{all_front, all_back, all_take, all_drop}

-- ---- lists laid end to end

pub flatten_append : (xs ys : List (List ℕ)) → flatten (xs ++ ys) ≡ flatten xs ++ flatten ys
unfolding flatten
flatten_append [] ys = refl
flatten_append (x ∷ xs) ys = ap (λ (r : List ℕ). x ++ r) (flatten_append xs ys) ∙ sym (append_assoc x (flatten xs) (flatten ys))

pub length_flatten : (xs : List (List ℕ)) → length (flatten xs) ≡ total (map length xs)
unfolding flatten
length_flatten [] = refl
length_flatten (x ∷ xs) = length-append x (flatten xs) ∙ ap (λ (n : ℕ). length x + n) (length_flatten xs)

-- what holds of all elements of the lists laid end to end holds of all elements of each
pub flatten_all : (P : ℕ → Type 0) (xs : List (List ℕ)) → All P (flatten xs) → All (All P) xs
unfolding flatten
flatten_all P [] a = tt
flatten_all P (x ∷ xs) a = (all_front P x (flatten xs) a, flatten_all P xs (all_back P x (flatten xs) a))

-- ---- segments

-- lists laid end to end are cut apart again by their lengths
pub segments_flatten : (xs : List (List ℕ)) → segments (map length xs) (flatten xs) ≡ xs
unfolding flatten
segments_flatten [] = refl
segments_flatten (x ∷ xs) =
    ap₂ (λ (a : List ℕ) (r : List (List ℕ)). a ∷ r) (take-append_seam x (flatten xs)) (ap (segments (map length xs)) (drop-append_seam x (flatten xs)) ∙ segments_flatten xs)

-- segments whose lengths make up the whole are the whole again
pub flatten_segments : (ns xs : List ℕ) → total ns ≡ length xs → flatten (segments ns xs) ≡ xs
unfolding flatten
flatten_segments [] [] h = refl
flatten_segments [] (x ∷ xs) h = absurd (omega arith)
flatten_segments (n ∷ ns) xs h =
    ap (λ (r : List ℕ). take n xs ++ r) (flatten_segments ns (drop n xs) (omega (arith, length-drop n xs))) ∙ take-append-drop n xs

-- and have the lengths
pub length_segments : (ns xs : List ℕ) → total ns ≤ length xs → map length (segments ns xs) ≡ ns
length_segments [] xs h = refl
length_segments (n ∷ ns) xs h =
    ap₂ (λ (a : ℕ) (r : List ℕ). a ∷ r) (length-take-le n xs (omega arith)) (length_segments ns (drop n xs) (omega (arith, length-drop n xs)))

-- segment k begins where the segments before it end; past the last it is empty
pub segment_at : (ns xs : List ℕ) (k : ℕ) → get_or (segments ns xs) k [] ≡ take (get_or ns k 0) (drop (total (take k ns)) xs)
segment_at [] xs k = refl
segment_at (n ∷ ns) xs zero = refl
segment_at (n ∷ ns) xs (suc k) = segment_at ns (drop n xs) k ∙ ap (take (get_or ns k 0)) (drop-drop (total (take k ns)) n xs)

-- element i of segment k stands i further
pub segment_element : (ns xs : List ℕ) (k i : ℕ) → i < get_or ns k 0 → get_or (get_or (segments ns xs) k []) i 0 ≡ get_or xs (total (take k ns) + i) 0
segment_element ns xs k i h =
    ap (λ (x : List ℕ). get_or x i 0) (segment_at ns xs k) ∙ get_or-take (get_or ns k 0) (drop (total (take k ns)) xs) i 0 h ∙ get_or-drop (total (take k ns)) xs i 0

-- there are as many as lengths, and each has its length; past the last it is 0
pub count_segments : (ns xs : List ℕ) → length (segments ns xs) ≡ length ns
count_segments [] xs = refl
count_segments (n ∷ ns) xs = ap suc (count_segments ns (drop n xs))

pub segment_length : (ns xs : List ℕ) (k : ℕ) → total ns ≤ length xs → length (get_or (segments ns xs) k []) ≡ get_or ns k 0
segment_length ns xs k h = sym (get_or-map length (segments ns xs) k []) ∙ ap (λ (ms : List ℕ). get_or ms k 0) (length_segments ns xs h)

-- what holds of all elements holds of all of each segment
pub all_segment : (P : ℕ → Type 0) (ns xs : List ℕ) (k : ℕ) → All P xs → All P (get_or (segments ns xs) k [])
all_segment P ns xs k a = rw (segment_at ns xs k) (all_take P (get_or ns k 0) (drop (total (take k ns)) xs) (all_drop P (total (take k ns)) xs a))
