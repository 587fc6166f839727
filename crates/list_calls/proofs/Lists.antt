-- Laws of words as a list: one word more, and how many bytes the first of them take. Assumes nothing.
use Prim.Native.Nat.{ℕ, suc, ◌+◌, ◌≤◌, ◌<◌}
use mathlib.Core.Path.{◌≡◌, refl, sym, ap, ◌∙◌}
use mathlib.Core.List.{List, [], ◌∷◌, ◌++◌, flatten, append_assoc, append-nil}
use native.Mathlib.Omega.{arith}
use native.Mathlib.Numerals.{add-one}
use lib.ListN.{length, get_or, take, drop, length-append, take-append-drop}
use lib.Seq.{take-suc}
use Rattle.base.proofs.Fronts.{front_more}
use Rattle.base.specs.Answers.{front, written}
use Rattle.lexicon.specs.Letters.{line_feed}
use Rattle.list_calls.specs.Making.{list_of, made_words, made_list}

-- no word, and a word in front
pub list_none : list_of [] ≡ []
unfolding list_of flatten
list_none = refl

pub list_cons : (w : List ℕ) (ws : List (List ℕ)) → list_of (w ∷ ws) ≡ (w ++ line_feed ∷ []) ++ list_of ws
unfolding list_of flatten
list_cons w ws = refl

-- words behind words
list_append : (vs ws : List (List ℕ)) → list_of (vs ++ ws) ≡ list_of vs ++ list_of ws
list_append [] ws = ap (λ (xs : List ℕ). xs ++ list_of ws) (sym list_none)
list_append (v ∷ vs) ws =
    list_cons v (vs ++ ws) ∙ ap (λ (xs : List ℕ). (v ++ line_feed ∷ []) ++ xs) (list_append vs ws)
    ∙ sym (append_assoc (v ++ line_feed ∷ []) (list_of vs) (list_of ws)) ∙ ap (λ (xs : List ℕ). xs ++ list_of ws) (sym (list_cons v vs))

-- one word more of the first words
pub list_next : (ws : List (List ℕ)) (r : ℕ) → r < length ws → list_of (take (r + 1) ws) ≡ list_of (take r ws) ++ (get_or ws r [] ++ line_feed ∷ [])
list_next ws r h =
    ap (λ (n : ℕ). list_of (take n ws)) (add-one r) ∙ ap list_of (take-suc ws r [] h) ∙ list_append (take r ws) (get_or ws r [] ∷ [])
    ∙ ap (λ (xs : List ℕ). list_of (take r ws) ++ xs)
    (list_cons (get_or ws r []) [] ∙ ap (λ (xs : List ℕ). (get_or ws r [] ++ line_feed ∷ []) ++ xs) list_none ∙ append-nil (get_or ws r [] ++ line_feed ∷ []))

-- the bytes that it takes
pub bytes_next : (ws : List (List ℕ)) (r : ℕ) → r < length ws → length (list_of (take (r + 1) ws)) ≡ length (list_of (take r ws)) + suc (length (get_or ws r []))
bytes_next ws r h =
    ap length (list_next ws r h) ∙ length-append (list_of (take r ws)) (get_or ws r [] ++ line_feed ∷ [])
    ∙ omega (arith, length-append (get_or ws r []) (line_feed ∷ []))

-- the first words take at most what all take
pub bytes_most : (ws : List (List ℕ)) (r : ℕ) → length (list_of (take r ws)) ≤ length (list_of ws)
bytes_most ws r =
    omega (
      arith,
      ap (λ (vs : List (List ℕ)). length (list_of vs)) (take-append-drop r ws),
      ap length (list_append (take r ws) (drop r ws)),
      length-append (list_of (take r ws)) (list_of (drop r ws)),
    )

-- the list that is made of a text is that of its words
pub made_list_lem : (table text : List ℕ) → made_list table text ≡ list_of (made_words table text)
unfolding made_list
made_list_lem table text = refl

-- a word that is written, closed, behind the list of those before it
pub front_word : (ws : List (List ℕ)) (r at : ℕ) (w slice z : List ℕ) → r < length ws → at ≡ length (list_of (take r ws)) → w ≡ get_or ws r [] → slice ≡ front (list_of (take r ws)) z
    → written (w ++ line_feed ∷ []) at slice ≡ front (list_of (take (r + 1) ws)) z
front_word ws r at w slice z h a e f = rw (a, e, f) (front_more (list_of (take r ws)) (get_or ws r [] ++ line_feed ∷ []) z ∙ ap (λ (xs : List ℕ). front xs z) (sym (list_next ws r h)))
