-- Laws of the ranks of the words of a text, written part by part. Assumes nothing.
use Prim.Native.Nat.{ℕ, zero, suc, ◌+◌, ◌-◌, ◌≤◌, ◌<◌}
use mathlib.Core.Path.{◌≡◌, refl, sym, ap, subst, ◌∙◌}
use mathlib.Core.Bool.{Bool, true, false, cond, false≢true}
use mathlib.Core.Logic.{◌⊎◌, inl, inr}
use mathlib.Core.List.{List, [], ◌∷◌, ◌++◌, map, map-append}
use native.Mathlib.Omega.{arith}
use borrow.Author.Tests.{lt-ltb, le-ltb}
use lib.Dec.{ltb}
use lib.ListN.{length, take, get_or, set, length-set, length-append, length-map, get_or-append}
use lib.Seq.{take_all, get_or-set_same, get_or-set_other, ext_get_or, get_or_at}
use Rattle.base.proofs.Fronts.{length_front, front_inside, front_past}
use Rattle.base.proofs.Lists.{get_d_map}
use Rattle.base.proofs.Tests.{same_or_not, below_or_not, or_false, cond_below, cond_not_below}
use Rattle.base.specs.Answers.{front}
use Rattle.hashing.proofs.HashTables.{index_most}
use Rattle.hashing.specs.HashTables.{index_in}
use Rattle.lexicon.proofs.Members.{list_rank_below, list_rank_at}
use Rattle.lexicon.specs.Lexicon.{list_rank, is_in, distinct}
use Rattle.lexicon.specs.Reading.{TextWord, word, spellings}
use Rattle.ranking.specs.Ranks.{Ranked, ranks_in}
use Rattle.hashing.proofs.Parts.{WordsBefore, index_place, in_either}

module _ (table list : List ℕ) (from k first : ℕ) where
  -- nothing is written yet
  pub ranked_none : (z : List ℕ) → Ranked table list from k first [] z z
  ranked_none z = record { long = refl; found = λ p i (h : p < 0) e. absurd (omega arith); other = λ p (h : p < 0) e. absurd (omega arith); past = λ p h. refl }

  -- one word more
  pub ranked_more : (ws : List TextWord) (w : TextWord) (before after : List ℕ) (n : ℕ) → length ws ≡ n → n < length before → Ranked table list from k first ws before after
      → Ranked table list from k first (ws ++ (w ∷ [])) before
      (cond (ltb 0 (index_in table list from k w.spelling)) (set after n (first + index_in table list from k w.spelling - 1)) after)
  ranked_more ws w before after n s room r = go (index_in table list from k w.spelling) refl
    where
      sp : List TextWord → List (List ℕ)
      sp = map (λ (v : TextWord). v.spelling)

      long-one : length (ws ++ (w ∷ [])) ≡ suc n
      long-one = length-append ws (w ∷ []) ∙ omega arith

      long-sp : length (sp ws) ≡ n
      long-sp = length-map ws (λ (v : TextWord). v.spelling) ∙ s

      inner : (p : ℕ) → p < n → get_or (sp (ws ++ (w ∷ []))) p [] ≡ get_or (sp ws) p []
      inner p h = ap (λ (l : List (List ℕ)). get_or l p []) (map-append (λ (v : TextWord). v.spelling) ws (w ∷ [])) ∙ get_or-append (sp ws) (sp (w ∷ [])) [] p (omega (arith, long-sp))

      last : get_or (sp (ws ++ (w ∷ []))) n [] ≡ w.spelling
      last = ap (λ (l : List (List ℕ)). get_or l n []) (map-append (λ (v : TextWord). v.spelling) ws (w ∷ [])) ∙ get_or_at (sp ws) w.spelling [] [] n long-sp

      go : (x : ℕ) → index_in table list from k w.spelling ≡ x → Ranked table list from k first (ws ++ (w ∷ [])) before (cond (ltb 0 x) (set after n (first + x - 1)) after)
      go zero e =
          record {
            long = r.long;
            found = λ p i h q. found p i h q (same_or_not p n);
            other = λ p h q. other p h q (same_or_not p n);
            past = λ p h. r.past p (omega (arith, long-one));
          }
        where
          found : (p i : ℕ) → p < length (ws ++ (w ∷ [])) → index_in table list from k (get_or (sp (ws ++ (w ∷ []))) p []) ≡ suc i → (p ≡ n) ⊎ (p ≡ n → ⊥) → get_or after p 0 ≡ first + i
          found p i h q (inl m) =
              let z : index_in table list from k (get_or (sp (ws ++ (w ∷ []))) p []) ≡ 0 = ap (λ (j : ℕ). index_in table list from k (get_or (sp (ws ++ (w ∷ []))) j [])) m ∙ ap (index_in table list from k) last ∙ e in
              absurd (omega arith)
          found p i h q (inr m) =
              let l : p < n = omega (arith, long-one) in
              r.found p i (omega arith) (ap (index_in table list from k) (sym (inner p l)) ∙ q)

          other : (p : ℕ) → p < length (ws ++ (w ∷ [])) → index_in table list from k (get_or (sp (ws ++ (w ∷ []))) p []) ≡ 0 → (p ≡ n) ⊎ (p ≡ n → ⊥) → get_or after p 0 ≡ get_or before p 0
          other p h q (inl m) = r.past p (omega arith)
          other p h q (inr m) =
              let l : p < n = omega (arith, long-one) in
              r.other p (omega arith) (ap (index_in table list from k) (sym (inner p l)) ∙ q)
      go (suc x) e =
          rw (lt-ltb 0 (suc x) (omega arith))
          (record {
            long = length-set after n (first + suc x - 1) ∙ r.long;
            found = λ p i h q. found p i h q (same_or_not p n);
            other = λ p h q. other p h q (same_or_not p n);
            past = λ p h.
                let d : p ≡ n → ⊥ = λ m. omega (arith, long-one) in
                get_or-set_other after n p (first + suc x - 1) 0 d ∙ r.past p (omega (arith, long-one));
          })
        where
          here : (p : ℕ) → p ≡ n → index_in table list from k (get_or (sp (ws ++ (w ∷ []))) p []) ≡ suc x
          here p m = ap (λ (j : ℕ). index_in table list from k (get_or (sp (ws ++ (w ∷ []))) j [])) m ∙ ap (index_in table list from k) last ∙ e

          found : (p i : ℕ) → p < length (ws ++ (w ∷ [])) → index_in table list from k (get_or (sp (ws ++ (w ∷ []))) p []) ≡ suc i → (p ≡ n) ⊎ (p ≡ n → ⊥)
              → get_or (set after n (first + suc x - 1)) p 0 ≡ first + i
          found p i h q (inl m) =
              let l : n < length after = omega (arith, r.long) in
              ap (λ (j : ℕ). get_or (set after n (first + suc x - 1)) j 0) m ∙ get_or-set_same after n (first + suc x - 1) 0 l ∙ omega (arith, here p m)
          found p i h q (inr m) =
              let l : p < n = omega (arith, long-one) in
              get_or-set_other after n p (first + suc x - 1) 0 m ∙ r.found p i (omega arith) (ap (index_in table list from k) (sym (inner p l)) ∙ q)

          other : (p : ℕ) → p < length (ws ++ (w ∷ [])) → index_in table list from k (get_or (sp (ws ++ (w ∷ []))) p []) ≡ 0 → (p ≡ n) ⊎ (p ≡ n → ⊥)
              → get_or (set after n (first + suc x - 1)) p 0 ≡ get_or before p 0
          other p h q (inl m) = absurd (omega (arith, here p m))
          other p h q (inr m) =
              let l : p < n = omega (arith, long-one) in
              get_or-set_other after n p (first + suc x - 1) 0 m ∙ r.other p (omega arith) (ap (index_in table list from k) (sym (inner p l)) ∙ q)

module _ (table list : List ℕ) (from k first : ℕ) (ws : List TextWord) (w : TextWord) (before after : List ℕ) (n : ℕ) (s : length ws ≡ n) (room : n < length before)
    (r : Ranked table list from k first ws before after) where
  -- a word that is found
  pub ranked_found : (i : ℕ) → index_in table list from k w.spelling ≡ suc i → Ranked table list from k first (ws ++ (w ∷ [])) before (set after n (first + i))
  ranked_found i e =
      let m : first + index_in table list from k w.spelling - 1 ≡ first + i = omega (arith, e) in
      subst (λ z. Ranked table list from k first (ws ++ (w ∷ [])) before z)
      (cond_below _ _ 0 (index_in table list from k w.spelling) (omega (arith, e)) ∙ ap (set after n) m) (ranked_more table list from k first ws w before after n s room r)

  -- a word that is not
  pub ranked_other : index_in table list from k w.spelling ≡ 0 → Ranked table list from k first (ws ++ (w ∷ [])) before after
  ranked_other e =
      subst (λ z. Ranked table list from k first (ws ++ (w ∷ [])) before z) (cond_not_below _ _ 0 (index_in table list from k w.spelling) (omega (arith, e)))
      (ranked_more table list from k first ws w before after n s room r)

-- the ranks of the words of a text that are among the first words of a list are written
pub record RanksTo (words : List (List ℕ)) (ws : List TextWord) (first : ℕ) (before after : List ℕ) : Type 0 where
  pub long : length after ≡ length before
  pub found : (p : ℕ) → p < length ws → is_in (take first words) (get_or (map (λ (w : TextWord). w.spelling) ws) p []) ≡ true → get_or after p 0 ≡ list_rank words (get_or (map (λ (w : TextWord). w.spelling) ws) p [])
  pub past : (p : ℕ) → length ws ≤ p → get_or after p 0 ≡ get_or before p 0

pub ranks_none : (words : List (List ℕ)) (ws : List TextWord) (z : List ℕ) → RanksTo words ws 0 z z
ranks_none words ws z =
    record {
      long = refl;
      found = λ p h e. absurd (omega (arith, list_rank_below [] (get_or (map (λ (w : TextWord). w.spelling) ws) p []) e));
      past = λ p h. refl;
    }

module _ (table list : List ℕ) (from first k : ℕ) (stands : WordsBefore table list from first) (inside : first + k ≤ length (spellings table list)) (d : distinct (spellings table list) ≡ true) where
  pub ranks_more : (ws : List TextWord) (z before after : List ℕ) → RanksTo (spellings table list) ws first z before → Ranked table list from k first ws before after
      → RanksTo (spellings table list) ws (first + k) z after
  ranks_more ws z before after t r =
      record {
        long = r.long ∙ t.long;
        found = λ p h e. found p h e (index_in table list from k (get_or (map (λ (w : TextWord). w.spelling) ws) p [])) refl;
        past = λ p h. r.past p h ∙ t.past p h;
      }
    where
      S : List (List ℕ)
      S = spellings table list

      word_at : ℕ → List ℕ
      word_at p = get_or (map (λ (w : TextWord). w.spelling) ws) p []

      found : (p : ℕ) → p < length ws → is_in (take (first + k) S) (word_at p) ≡ true → (x : ℕ) → index_in table list from k (word_at p) ≡ x → get_or after p 0 ≡ list_rank S (word_at p)
      found p h e (suc i) q =
          r.found p i h q
          ∙ sym (list_rank_at S (word_at p) (first + i) d (omega (arith, index_most table list from (word_at p) k)) (index_place table list from first stands k i (word_at p) q))
      found p h e zero q =
          r.other p h q
          ∙ t.found p h (before-it (is_in (take first S) (word_at p)) refl)
        where
          before-it : (b : Bool) → is_in (take first S) (word_at p) ≡ b → is_in (take first S) (word_at p) ≡ true
          before-it true c = c
          before-it false c =
              absurd (false≢true (sym (or_false (is_in (take first S) (word_at p)) (ltb 0 (index_in table list from k (word_at p))) c (le-ltb 0 (index_in table list from k (word_at p)) (omega arith)))
              ∙ sym (in_either table list from first stands k inside (word_at p)) ∙ e))

-- all words are among all, so all ranks are written
pub ranks_all : (words : List (List ℕ)) (ws : List TextWord) (n : ℕ) (before after : List ℕ) → length words ≤ n → length ws ≤ length before
    → ((p : ℕ) → p < length ws → is_in words (get_or (map (λ (w : TextWord). w.spelling) ws) p []) ≡ true) → RanksTo words ws n before after → after ≡ front (ranks_in words ws) before
unfolding ranks_in
ranks_all words ws n before after all room listed r =
    ext_get_or 0 after (front xs before) (r.long ∙ sym (length_front xs before (omega (arith, sized)))) (λ i h. at i (below_or_not i (length ws)))
  where
    xs : List ℕ
    xs = map (λ (w : TextWord). list_rank words w.spelling) ws

    sized : length xs ≡ length ws
    sized = length-map ws (λ (w : TextWord). list_rank words w.spelling)

    at : (i : ℕ) → (i < length ws) ⊎ (length ws ≤ i) → get_or after i 0 ≡ get_or (front xs before) i 0
    at i (inl h) =
        r.found i h (rw (take_all n words all) (listed i h))
        ∙ ap (list_rank words) (get_d_map (λ (w : TextWord). w.spelling) ws i [] (word 0 []) h)
        ∙ sym (get_d_map (λ (w : TextWord). list_rank words w.spelling) ws i 0 (word 0 []) h)
        ∙ sym (front_inside xs before i (omega (arith, sized)))
    at i (inr h) = r.past i h ∙ sym (front_past xs before i (omega (arith, sized)))
