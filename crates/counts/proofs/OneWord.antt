-- A phrase of one word stands where the word does. Assumes nothing.
use Prim.Native.Nat.{ℕ, zero, suc, ◌+◌, ◌-◌, ◌≤◌, ◌<◌}
use mathlib.Core.Path.{◌≡◌, refl, sym, ap, ◌∙◌}
use mathlib.Core.Bool.{Bool, true}
use mathlib.Core.List.{List, [], ◌∷◌, map}
use native.Mathlib.Nat.{sub-zero}
use native.Mathlib.Omega.{arith}
use lib.ListN.{length, get_or}
use Rattle.base.specs.Lists.{filter_by, range_from, count_of, nth}
use Rattle.base.proofs.Counts.{Found, nth_found}
use Rattle.phrases.specs.Phrases.{stands, places}
use Rattle.documents.specs.Documents.{places_in}
use Rattle.documents.proofs.Numbers.{document_itself}
use Rattle.documents.proofs.Inside.{places_in_all}
use Rattle.phrases.specs.Anchors.{candidate}
use Rattle.phrases.proofs.Standing.{stands_yes}
use Rattle.phrases.proofs.Anchors.{places_along}

-- where a test holds of each candidate, all of them are hits
all_hits_lem : (P : ℕ → Bool) (c : ℕ → ℕ) (a n : ℕ) → ((j : ℕ) → a ≤ j → j < a + n → P (c j) ≡ true) → length (filter_by P (map c (range_from a n))) ≡ n
all_hits_lem P c a zero h = refl
all_hits_lem P c a (suc n) h = rw (h a (omega arith) (omega arith)) (ap suc (all_hits_lem P c (suc a) n (λ j l u. h j (omega arith) (omega arith))))

-- the word stands at each of its places
word_stands : (t : List ℕ) (w j : ℕ) → j < count_of w t → stands t (w ∷ []) (candidate t w 0 j) ≡ true
word_stands t w j h =
    let f : Found w j t = nth_found w j t h in
    stands_yes t (w ∷ []) (candidate t w 0 j) (omega (arith, f.inside)) (λ i l. at i (omega arith) f)
  where
    at : (i : ℕ) → i ≡ 0 → Found w j t → get_or t (candidate t w 0 j + i) 0 ≡ get_or (w ∷ []) i 0
    at i z f =
        let e : candidate t w 0 j + i ≡ nth w j t = omega arith in
        rw (e, z) f.stands

-- so that it stands as often as the phrase
pub one_word_lem : (t : List ℕ) (w : ℕ) → count_of w t ≡ length (places t (w ∷ []))
one_word_lem t w =
    sym (ap length (places_along t (w ∷ []) 0 (omega arith))
    ∙ all_hits_lem (stands t (w ∷ [])) (candidate t w 0) 0 (count_of w t - 0) (λ j l u. word_stands t w j (omega arith))
    ∙ sub-zero (count_of w t))

-- of a list with one word, which always lies in one document
pub only_word : (documents t ws : List ℕ) → length ws ≡ 1 → count_of (get_or ws 0 0) t ≡ length (places_in documents t ws)
only_word documents t [] e = absurd (omega arith)
only_word documents t (w ∷ []) e = one_word_lem t w ∙ ap length (sym (places_in_all documents t (w ∷ []) (document_itself documents)))
only_word documents t (w ∷ v ∷ ws) e = absurd (omega arith)
