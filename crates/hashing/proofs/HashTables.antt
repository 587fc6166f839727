-- Laws of the hash table of a part of a word list: one word more, and a word that is looked up. Assumes nothing.
use Prim.Native.Nat.{ℕ, zero, suc, ◌+◌, ◌-◌, ◌*◌, ◌%◌, ◌≤◌, ◌<◌}
use mathlib.Core.Path.{◌≡◌, refl, sym, ap, ◌∙◌}
use mathlib.Core.Bool.{Bool, true, false, cond, false≢true}
use mathlib.Core.Logic.{◌⊎◌, inl, inr}
use mathlib.Core.List.{List, [], ◌∷◌}
use native.Mathlib.Omega.{arith}
use borrow.Author.Tests.{eq-eqb, ne_eqb, eqb-true}
use lib.Dec.{eqb}
use lib.ListN.{length, drop, get_or, set, length-set, get_or-map}
use lib.Seq.{get_or-set_same, get_or-set_other, get_or-drop}
use Rattle.base.specs.Lists.{same}
use Rattle.base.proofs.Tests.{same_or_not}
use Rattle.base.proofs.Lists.{same_yes, same_true}
use Rattle.hashing.specs.HashTables.{max_part, next_where, pass_from, spelled_at, next_in, index_in, index_from, Room, Starts, Buckets, Chains, HashTable}
use Rattle.lexicon.specs.Reading.{TextWord, word}
use Rattle.scanning.specs.Scans.{words_at, run_at, buckets, bucket_from, bucket_of}

-- ---- the next number that passes a test

pub next_where_most : (test : ℕ → Bool) (p n : ℕ) → next_where test p n ≤ p + n
next_where_most test p zero = omega arith
next_where_most test p (suc n) = go (test p) (next_where_most test (suc p) n)
  where
    go : (t : Bool) → next_where test (suc p) n ≤ suc p + n → cond t (suc p) (next_where test (suc p) n) ≤ p + suc n
    go true h = omega arith
    go false h = omega arith

-- it is not before the first
pub next_where_from : (test : ℕ → Bool) (p n i : ℕ) → next_where test p n ≡ suc i → p ≤ i
next_where_from test p zero i e = absurd (omega arith)
next_where_from test p (suc n) i e = go (test p) e (next_where_from test (suc p) n i)
  where
    go : (t : Bool) → cond t (suc p) (next_where test (suc p) n) ≡ suc i → (next_where test (suc p) n ≡ suc i → suc p ≤ i) → p ≤ i
    go true e ih = omega arith
    go false e ih = omega (arith, ih e)

-- it passes
pub next_where_passes : (test : ℕ → Bool) (p n i : ℕ) → next_where test p n ≡ suc i → test i ≡ true
next_where_passes test p zero i e = absurd (omega arith)
next_where_passes test p (suc n) i e = go (test p) refl e (next_where_passes test (suc p) n i)
  where
    go : (t : Bool) → test p ≡ t → cond t (suc p) (next_where test (suc p) n) ≡ suc i → (next_where test (suc p) n ≡ suc i → test i ≡ true) → test i ≡ true
    go true q e ih =
        let m : i ≡ p = omega arith in
        rw m q
    go false q e ih = ih e

-- where there is none, none passes
pub next_where_none : (test : ℕ → Bool) (p n j : ℕ) → next_where test p n ≡ 0 → p ≤ j → j < p + n → test j ≡ false
next_where_none test p zero j e l h = absurd (omega arith)
next_where_none test p (suc n) j e l h = go (test p) refl e (same_or_not j p) (next_where_none test (suc p) n j)
  where
    go : (t : Bool) → test p ≡ t → cond t (suc p) (next_where test (suc p) n) ≡ 0 → (j ≡ p) ⊎ (j ≡ p → ⊥)
        → (next_where test (suc p) n ≡ 0 → suc p ≤ j → j < suc p + n → test j ≡ false) → test j ≡ false
    go true q e d ih = absurd (omega arith)
    go false q e (inl m) ih = rw m q
    go false q e (inr m) ih = ih e (omega arith) (omega arith)

-- it is looked for among those that pass a weaker test
pub next_where_jump : (p q : ℕ → Bool) → ((j : ℕ) → p j ≡ true → q j ≡ true) → (k at n : ℕ) → at + n ≡ k → pass_from p k (next_where q at n) ≡ next_where p at n
next_where_jump p q h k at zero s = refl
next_where_jump p q h k at (suc n) s = go (q at) refl (p at) refl (next_where_jump p q h k (suc at) n (omega arith))
  where
    go : (t : Bool) → q at ≡ t → (r : Bool) → p at ≡ r → pass_from p k (next_where q (suc at) n) ≡ next_where p (suc at) n
        → pass_from p k (cond t (suc at) (next_where q (suc at) n)) ≡ next_where p at (suc n)
    go true e r f ih =
        let m : k - at ≡ suc n = omega arith in
        ap (next_where p at) m
    go false e true f ih = absurd (false≢true (sym e ∙ h at f))
    go false e false f ih = ih ∙ ap (λ (t : Bool). cond t (suc at) (next_where p (suc at) n)) (sym f)

-- the first number passes or not
pub next_where_yes : (test : ℕ → Bool) (p k : ℕ) → p < k → test p ≡ true → next_where test p (k - p) ≡ suc p
next_where_yes test p k h e =
    let m : k - p ≡ suc (k - suc p) = omega arith in
    ap (next_where test p) m ∙ ap (λ (t : Bool). cond t (suc p) (next_where test (suc p) (k - suc p))) e

pub next_where_no : (test : ℕ → Bool) (p k : ℕ) → p < k → test p ≡ false → next_where test p (k - p) ≡ next_where test (suc p) (k - suc p)
next_where_no test p k h e =
    let m : k - p ≡ suc (k - suc p) = omega arith in
    ap (next_where test p) m ∙ ap (λ (t : Bool). cond t (suc p) (next_where test (suc p) (k - suc p))) e

-- one bucket more is empty
pub cleared_more : (xs : List ℕ) (i : ℕ) → i < length xs → ((b : ℕ) → b < i → get_or xs b 0 ≡ 0) → (b : ℕ) → b < i + 1 → get_or (set xs i 0) b 0 ≡ 0
cleared_more xs i l f b h = go (same_or_not b i)
  where
    go : (b ≡ i) ⊎ (b ≡ i → ⊥) → get_or (set xs i 0) b 0 ≡ 0
    go (inl e) = rw e (get_or-set_same xs i 0 0 l)
    go (inr n) = get_or-set_other xs i b 0 0 n ∙ f b (omega arith)

-- how many words a chain can still have from one on that is given as 1 and its number
abbrev pub chain_left : ℕ → ℕ → ℕ
chain_left k zero = 0
chain_left k (suc i) = k - i

pub chain_left_less : (k word next : ℕ) → 0 < word → word ≤ k → next ≤ k → ((i : ℕ) → next ≡ suc i → word ≤ i) → chain_left k next < chain_left k word
chain_left_less k zero next h m l f = absurd (omega arith)
chain_left_less k (suc j) zero h m l f = omega arith
chain_left_less k (suc j) (suc i) h m l f = omega (arith, f i refl)

-- ---- buckets

-- there are so many
pub bucket_below : (w : List ℕ) → bucket_of w < buckets
unfolding bucket_of
bucket_below w = go 0 w (omega arith)
  where
    go : (h : ℕ) (w : List ℕ) → h < buckets → bucket_from h w < buckets
    go h [] l = l
    go h (x ∷ xs) l = go ((h * 40503 + x) % buckets) xs (omega arith)

-- the slices in which a hash table is have room for one
pub room_of : {table list : List ℕ} {from k : ℕ} {heads links starts : List ℕ} → HashTable table list from k heads links starts → Room heads links starts
room_of h = record { heads_long = h.chained.heads_long; links_long = h.chained.linked.long; starts_long = h.begun.long }

-- slices as long as those with room have room
pub room_stays : {heads links starts hs ls ss : List ℕ} → Room heads links starts → length hs ≡ length heads → length ls ≡ length links → length ss ≡ length starts → Room hs ls ss
room_stays r h l s = record { heads_long = h ∙ r.heads_long; links_long = l ∙ r.links_long; starts_long = s ∙ r.starts_long }

module _ (table list : List ℕ) (from : ℕ) where
  -- a word in its bucket, and in another
  pub next_in_here : (k b p : ℕ) → p < k → bucket_of (spelled_at table list from p) ≡ b → next_in table list from k b p ≡ suc p
  unfolding next_in
  next_in_here k b p h e = next_where_yes (λ (j : ℕ). eqb (bucket_of (spelled_at table list from j)) b) p k h (eq-eqb (bucket_of (spelled_at table list from p)) b e)

  pub next_in_other : (k b p : ℕ) → p < k → (bucket_of (spelled_at table list from p) ≡ b → ⊥) → next_in table list from k b p ≡ next_in table list from k b (suc p)
  unfolding next_in
  next_in_other k b p h n = next_where_no (λ (j : ℕ). eqb (bucket_of (spelled_at table list from j)) b) p k h (ne_eqb (bucket_of (spelled_at table list from p)) b n)

  -- behind the last word there is none
  pub next_in_end : (k b : ℕ) → next_in table list from k b k ≡ 0
  unfolding next_in
  next_in_end k b =
      let e : k - k ≡ 0 = omega arith in
      ap (next_where (λ (j : ℕ). eqb (bucket_of (spelled_at table list from j)) b) k) e

  pub next_in_most : (k b p : ℕ) → p ≤ k → next_in table list from k b p ≤ k
  unfolding next_in
  next_in_most k b p h = omega (arith, next_where_most (λ (j : ℕ). eqb (bucket_of (spelled_at table list from j)) b) p (k - p))

  pub next_in_from : (k b p i : ℕ) → next_in table list from k b p ≡ suc i → p ≤ i
  unfolding next_in
  next_in_from k b p i e = next_where_from (λ (j : ℕ). eqb (bucket_of (spelled_at table list from j)) b) p (k - p) i e

  pub next_in_bucket : (k b p i : ℕ) → next_in table list from k b p ≡ suc i → bucket_of (spelled_at table list from i) ≡ b
  unfolding next_in
  next_in_bucket k b p i e = eqb-true (bucket_of (spelled_at table list from i)) b (next_where_passes (λ (j : ℕ). eqb (bucket_of (spelled_at table list from j)) b) p (k - p) i e)

  -- the first word that is w is looked for in the bucket of w
  index_jump : (w : List ℕ) (b k p : ℕ) → b ≡ bucket_of w → p ≤ k → index_from table list from k w (next_in table list from k b p) ≡ next_where (λ (j : ℕ). same w (spelled_at table list from j)) p (k - p)
  unfolding index_from next_in
  index_jump w b k p e h =
      next_where_jump (λ (j : ℕ). same w (spelled_at table list from j)) (λ (j : ℕ). eqb (bucket_of (spelled_at table list from j)) b)
      (λ j q. eq-eqb (bucket_of (spelled_at table list from j)) b (sym (e ∙ ap bucket_of (same_true w (spelled_at table list from j) q)))) k p (k - p) (omega arith)

  pub index_first : (w : List ℕ) (b k : ℕ) → b ≡ bucket_of w → index_from table list from k w (next_in table list from k b 0) ≡ index_in table list from k w
  unfolding index_from index_in
  index_first w b k e =
      let m : k - 0 ≡ k = omega arith in
      index_jump w b k 0 e (omega arith) ∙ ap (next_where (λ (j : ℕ). same w (spelled_at table list from j)) 0) m

  pub index_next : (w : List ℕ) (b k i : ℕ) → b ≡ bucket_of w → i < k → same w (spelled_at table list from i) ≡ false
      → index_from table list from k w (next_in table list from k b (suc i)) ≡ index_from table list from k w (suc i)
  unfolding index_from
  index_next w b k i e h n = index_jump w b k (suc i) e (omega arith) ∙ sym (next_where_no (λ (j : ℕ). same w (spelled_at table list from j)) i k h n)

  pub index_hit : (w : List ℕ) (k i : ℕ) → i < k → same w (spelled_at table list from i) ≡ true → index_from table list from k w (suc i) ≡ suc i
  unfolding index_from
  index_hit w k i h e = next_where_yes (λ (j : ℕ). same w (spelled_at table list from j)) i k h e

  pub index_none : (w : List ℕ) (k : ℕ) → index_from table list from k w 0 ≡ 0
  unfolding index_from
  index_none w k = refl

  pub index_most : (w : List ℕ) (k : ℕ) → index_in table list from k w ≤ k
  unfolding index_in
  index_most w k = omega (arith, next_where_most (λ (j : ℕ). same w (spelled_at table list from j)) 0 k)

  pub index_word : (w : List ℕ) (k i : ℕ) → index_in table list from k w ≡ suc i → w ≡ spelled_at table list from i
  unfolding index_in
  index_word w k i e = same_true w (spelled_at table list from i) (next_where_passes (λ (j : ℕ). same w (spelled_at table list from j)) 0 k i e)

  pub index_absent : (w : List ℕ) (k j : ℕ) → j < k → index_in table list from k w ≡ 0 → w ≡ spelled_at table list from j → ⊥
  unfolding index_in
  index_absent w k j l e q =
      false≢true (sym (next_where_none (λ (j : ℕ). same w (spelled_at table list from j)) 0 k j e (omega arith) (omega arith)) ∙ same_yes w (spelled_at table list from j) q)

  -- the first word behind the word number i that is w stands there
  pub index_later : (w : List ℕ) (k i j : ℕ) → i < k → index_from table list from k w (next_in table list from k (bucket_of w) (suc i)) ≡ suc j → (i < j) × (j < k) × (w ≡ spelled_at table list from j)
  index_later w k i j h e =
      let q : next_where (λ (j : ℕ). same w (spelled_at table list from j)) (suc i) (k - suc i) ≡ suc j = sym (index_jump w (bucket_of w) k (suc i) refl h) ∙ e in (
        next_where_from (λ (j : ℕ). same w (spelled_at table list from j)) (suc i) (k - suc i) j q,
        omega (arith, next_where_most (λ (j : ℕ). same w (spelled_at table list from j)) (suc i) (k - suc i)),
        same_true w (spelled_at table list from j) (next_where_passes (λ (j : ℕ). same w (spelled_at table list from j)) (suc i) (k - suc i) j q),
      )

  -- where there is none, none behind it is w
  pub index_no_later : (w : List ℕ) (k i j : ℕ) → index_from table list from k w (next_in table list from k (bucket_of w) (suc i)) ≡ 0 → i < j → j < k → w ≡ spelled_at table list from j → ⊥
  index_no_later w k i j e l h q =
      false≢true (sym (next_where_none (λ (j : ℕ). same w (spelled_at table list from j)) (suc i) (k - suc i) j (sym (index_jump w (bucket_of w) k (suc i) refl (omega arith)) ∙ e) l (omega arith))
      ∙ same_yes w (spelled_at table list from j) q)

  -- ---- the hash table

  -- no word is in it
  pub chains_none : (k : ℕ) (heads links : List ℕ) → length heads ≡ buckets → ((b : ℕ) → b < buckets → get_or heads b 0 ≡ 0) → length links ≡ max_part → Chains table list from k k heads links
  chains_none k heads links s e l =
      record {
        heads_long = s;
        head = λ b h. e b h ∙ sym (next_in_end k b);
        linked = record { long = l; link = λ i (h : k ≤ i) (m : i < k). absurd (omega arith) };
      }

  -- one word more, in front of those that are in it
  chains_front : (k p : ℕ) (heads links : List ℕ) (b : ℕ) → Chains table list from k (suc p) heads links → suc p ≤ k → k ≤ max_part → b ≡ bucket_of (spelled_at table list from p)
      → Chains table list from k p (set heads b (suc p)) (set links p (get_or heads b 0))
  chains_front k p heads links b c m few e =
      record {
        heads_long = length-set heads b (suc p) ∙ c.heads_long;
        head = λ d h. head_more d h (same_or_not d b);
        linked = record { long = length-set links p (get_or heads b 0) ∙ c.linked.long; link = λ j h l. link-more j h l (same_or_not j p) };
      }
    where
      head_more : (d : ℕ) → d < buckets → (d ≡ b) ⊎ (d ≡ b → ⊥) → get_or (set heads b (suc p)) d 0 ≡ next_in table list from k d p
      head_more d h (inl q) =
          let l : b < length heads = omega (arith, c.heads_long) in
          rw q (get_or-set_same heads b (suc p) 0 l ∙ sym (next_in_here k b p (omega arith) (sym e)))
      head_more d h (inr n) = get_or-set_other heads b d (suc p) 0 n ∙ c.head d h ∙ sym (next_in_other k d p (omega arith) (λ r. n (sym (e ∙ r))))

      link-more : (j : ℕ) → p ≤ j → j < k → (j ≡ p) ⊎ (j ≡ p → ⊥) → get_or (set links p (get_or heads b 0)) j 0 ≡ next_in table list from k (bucket_of (spelled_at table list from j)) (suc j)
      link-more j h l (inl q) =
          let i : p < length links = omega (arith, c.linked.long) in
          rw q (get_or-set_same links p (get_or heads b 0) 0 i ∙ c.head b (rw e (bucket_below (spelled_at table list from p))) ∙ ap (λ (d : ℕ). next_in table list from k d (suc p)) e)
      link-more j h l (inr n) = get_or-set_other links p j (get_or heads b 0) 0 n ∙ c.linked.link j (omega arith) l

  pub chains_more : (k word : ℕ) (heads links : List ℕ) (b : ℕ) → Chains table list from k word heads links → 0 < word → word ≤ k → k ≤ max_part
      → b ≡ bucket_of (spelled_at table list from (word - 1)) → Chains table list from k (word - 1) (set heads b word) (set links (word - 1) (get_or heads b 0))
  chains_more k zero heads links b c h m few e = absurd (omega arith)
  chains_more k (suc p) heads links b c h m few e =
      let q : suc p - 1 ≡ p = omega arith in
      rw q (chains_front k p heads links b c m few (e ∙ ap (λ (j : ℕ). bucket_of (spelled_at table list from j)) q))

  -- where no word begins is noted yet
  pub starts_none : (starts : List ℕ) → length starts ≡ max_part → Starts table list from 0 starts
  starts_none starts s = record { long = s; start = λ i (h : i < 0). absurd (omega arith) }

  -- one word more
  pub starts_more : (k : ℕ) (starts : List ℕ) (at : ℕ) → Starts table list from k starts → k < max_part → at ≤ length list → run_at table list at ≡ spelled_at table list from k
      → Starts table list from (k + 1) (set starts k at)
  starts_more k starts at p few i w =
      let s : k + 1 ≡ suc k = omega arith in
      rw s (record { long = length-set starts k at ∙ p.long; start = λ j h. start-more j h (same_or_not j k) })
    where
      start-more : (j : ℕ) → j < suc k → (j ≡ k) ⊎ (j ≡ k → ⊥) → (get_or (set starts k at) j 0 ≤ length list) × (run_at table list (get_or (set starts k at) j 0) ≡ spelled_at table list from j)
      start-more j h (inl q) =
          let l : k < length starts = omega (arith, p.long) in
          rw (q, get_or-set_same starts k at 0 l) (i, w)
      start-more j h (inr n) = rw (get_or-set_other starts k j at 0 n) (p.start j (omega arith))

  -- no bucket is noted yet
  pub buckets_none : (noted : List ℕ) → length noted ≡ max_part → Buckets table list from 0 noted
  buckets_none noted s = record { long = s; bucket = λ i (h : i < 0). absurd (omega arith) }

  -- one word more
  pub buckets_more : (k : ℕ) (noted : List ℕ) (b : ℕ) → Buckets table list from k noted → k < max_part → b ≡ bucket_of (spelled_at table list from k) → Buckets table list from (k + 1) (set noted k b)
  buckets_more k noted b p few e =
      let s : k + 1 ≡ suc k = omega arith in
      rw s (record { long = length-set noted k b ∙ p.long; bucket = λ j h. bucket-more j h (same_or_not j k) })
    where
      bucket-more : (j : ℕ) → j < suc k → (j ≡ k) ⊎ (j ≡ k → ⊥) → get_or (set noted k b) j 0 ≡ bucket_of (spelled_at table list from j)
      bucket-more j h (inl q) =
          let l : k < length noted = omega (arith, p.long) in
          rw q (get_or-set_same noted k b 0 l ∙ e)
      bucket-more j h (inr n) = get_or-set_other noted k j b 0 n ∙ p.bucket j (omega arith)

  -- the buckets of the words before the one whose bucket is taken away stay
  pub buckets_less : (word : ℕ) (noted : List ℕ) (x : ℕ) → Buckets table list from word noted → 0 < word → Buckets table list from (word - 1) (set noted (word - 1) x)
  buckets_less word noted x p h =
      record {
        long = length-set noted (word - 1) x ∙ p.long;
        bucket = λ i (l : i < word - 1). get_or-set_other noted (word - 1) i x 0 (λ (e : i ≡ word - 1). absurd (omega arith)) ∙ p.bucket i (omega arith);
      }

  -- ---- going through the words

  -- the word at a position that is k words behind the offset
  pub spelled_here : (at k : ℕ) (rest : List TextWord) → words_at table list at ≡ drop k (words_at table list from) → words_at table list at ≡ word at (run_at table list at) ∷ rest
      → spelled_at table list from k ≡ run_at table list at
  unfolding spelled_at
  spelled_here at k rest e n =
      let z : k + 0 ≡ k = omega arith in
      get_or-map (λ (w : TextWord). w.spelling) (words_at table list from) k (word 0 [])
      ∙ ap (λ (w : TextWord). w.spelling)
      (ap (λ (m : ℕ). get_or (words_at table list from) m (word 0 [])) (sym z) ∙ sym (get_or-drop k (words_at table list from) 0 (word 0 []))
      ∙ ap (λ (ws : List TextWord). get_or ws 0 (word 0 [])) (sym e ∙ n))
