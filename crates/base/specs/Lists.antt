-- The functions on lists that the definitions of the engine are made of.
use Rattle.std.specs.Prelude.{ℕ, zero, suc, ◌+◌, ◌<◌, Bool, true, false, cond, ◌&&◌, List, [], ◌∷◌, eqb, take, drop}

-- P holds of every element
abbrev pub All {ℓ} : {A : Type ℓ} → (A → Type 0) → List A → Type 0
All P [] = Unit {0}
All P (x ∷ xs) = P x × All P xs

-- every number is below the bound
abbrev pub Below : ℕ → List ℕ → Type 0
Below bound xs = All (λ (x : ℕ). x < bound) xs

-- whether every element passes the test
abbrev pub all_pass {ℓ} : {A : Type ℓ} → (A → Bool) → List A → Bool
all_pass test [] = true
all_pass test (x ∷ xs) = test x && all_pass test xs

-- the elements that pass the test, in order
abbrev pub filter_by {ℓ} : {A : Type ℓ} → (A → Bool) → List A → List A
filter_by test [] = []
filter_by test (x ∷ xs) = cond (test x) (x ∷ filter_by test xs) (filter_by test xs)

-- the index of the first element that passes the test; the length where there is none
abbrev pub first_where {ℓ} : {A : Type ℓ} → (A → Bool) → List A → ℕ
first_where test [] = 0
first_where test (x ∷ xs) = cond (test x) 0 (suc (first_where test xs))

-- n numbers from a on: a, a + 1, up to a + n - 1
abbrev pub range_from : ℕ → ℕ → List ℕ
range_from a zero = []
range_from a (suc n) = a ∷ range_from (suc a) n

-- the numbers from n down to 1
abbrev pub down_from : ℕ → List ℕ
down_from zero = []
down_from (suc n) = suc n ∷ down_from n

-- the sum of a list
abbrev pub total : List ℕ → ℕ
total [] = 0
total (x ∷ xs) = x + total xs

-- how often x stands in a list
abbrev pub count_of : ℕ → List ℕ → ℕ
count_of x [] = 0
count_of x (y ∷ ys) = cond (eqb y x) (suc (count_of x ys)) (count_of x ys)

-- where the x stands that has j others before it, so the place of the x number j + 1; the length where there is none
abbrev pub nth : ℕ → ℕ → List ℕ → ℕ
nth x j [] = 0
nth x zero (y ∷ ys) = cond (eqb y x) 0 (suc (nth x 0 ys))
nth x (suc j) (y ∷ ys) = suc (cond (eqb y x) (nth x j ys) (nth x (suc j) ys))

-- whether two lists are the same
abbrev pub same : List ℕ → List ℕ → Bool
same [] [] = true
same [] (y ∷ ys) = false
same (x ∷ xs) [] = false
same (x ∷ xs) (y ∷ ys) = eqb x y && same xs ys

-- a list cut into segments of the given lengths; what is left past the last is left out
abbrev pub segments : List ℕ → List ℕ → List (List ℕ)
segments [] xs = []
segments (n ∷ ns) xs = take n xs ∷ segments ns (drop n xs)

-- a number put in front of the first list; where there is none, it is a list by itself
abbrev pub cons_first : ℕ → List (List ℕ) → List (List ℕ)
cons_first x [] = (x ∷ []) ∷ []
cons_first x (xs ∷ xss) = (x ∷ xs) ∷ xss

-- a list cut after each element that passes the test; the last piece ends in none where the list goes on past the last of them
abbrev pub cut_after : (ℕ → Bool) → List ℕ → List (List ℕ)
cut_after test [] = []
cut_after test (x ∷ xs) = cond (test x) ((x ∷ []) ∷ cut_after test xs) (cons_first x (cut_after test xs))
