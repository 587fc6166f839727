-- Laws of the hash table of the distinct words of a text, each at the place at which it appears first. Assumes nothing.
use Prim.Native.Nat.{ℕ, zero, suc, ◌+◌, ◌-◌, ◌≤◌, ◌<◌}
use mathlib.Core.Path.{subst, ◌≡◌, refl, sym, ap, ◌∙◌}
use mathlib.Core.Bool.{Bool, true, false, cond, false≢true, ◌&&◌}
use mathlib.Core.Logic.{◌⊎◌, inl, inr}
use mathlib.Core.List.{List, []}
use native.Mathlib.Omega.{arith}
use native.Mathlib.Numerals.{add-one}
use borrow.Author.Tests.{eq-eqb, eqb-true, lt-ltb, le-ltb}
use lib.Dec.{eqb, ltb}
use lib.ListN.{length, get_or, set, length-set}
use lib.Seq.{get_or-set_same, get_or-set_other}
use Rattle.base.specs.Lists.{same}
use Rattle.base.proofs.Tests.{same_or_not, below_or_not, cond_below, cond_not_below, and_left, and_right, and_true, and_never, false_of}
use Rattle.base.proofs.Lists.{first_where_most, same_yes, same_true}
use Rattle.lexicon.specs.Lexicon.{list_rank}
use Rattle.lexicon.specs.Reading.{spellings}
use Rattle.lexicon.proofs.Members.{list_rank_stands}
use Rattle.scanning.specs.Scans.{run_at, buckets, bucket_of}
use Rattle.hashing.proofs.HashTables.{bucket_below}
use Rattle.counting_sort.specs.Sorting.{Cleared}
use Rattle.word_places.specs.Places.{word_of, last_where, appears_in, DistinctChained, Begun, earlier_place}
use Rattle.word_places.proofs.Firsts.{in_own}

-- ---- the last number that passes a test

pub last_most : (test : ℕ → Bool) (n : ℕ) → last_where test n ≤ n
last_most test zero = omega arith
last_most test (suc n) = go (test n) (last_most test n)
  where
    go : (t : Bool) → last_where test n ≤ n → cond t (suc n) (last_where test n) ≤ suc n
    go true h = omega arith
    go false h = omega arith

-- it passes
pub last_passes : (test : ℕ → Bool) (n i : ℕ) → last_where test n ≡ suc i → test i ≡ true
last_passes test zero i e = absurd (omega arith)
last_passes test (suc n) i e = go (test n) refl e (last_passes test n i)
  where
    go : (t : Bool) → test n ≡ t → cond t (suc n) (last_where test n) ≡ suc i → (last_where test n ≡ suc i → test i ≡ true) → test i ≡ true
    go true q e ih =
        let m : i ≡ n = omega arith in
        rw m q
    go false q e ih = ih e

-- the last number passes or not
last_yes : (test : ℕ → Bool) (n : ℕ) → test n ≡ true → last_where test (suc n) ≡ suc n
last_yes test n e = ap (λ (t : Bool). cond t (suc n) (last_where test n)) e

last_no : (test : ℕ → Bool) (n : ℕ) → test n ≡ false → last_where test (suc n) ≡ last_where test n
last_no test n e = ap (λ (t : Bool). cond t (suc n) (last_where test n)) e

-- it is looked for among those that pass a weaker test
last_jump : (p q : ℕ → Bool) → ((j : ℕ) → p j ≡ true → q j ≡ true) → (n : ℕ) → last_where p (last_where q n) ≡ last_where p n
last_jump p q h zero = refl
last_jump p q h (suc n) = go (q n) refl (p n) refl (last_jump p q h n)
  where
    go : (t : Bool) → q n ≡ t → (r : Bool) → p n ≡ r → last_where p (last_where q n) ≡ last_where p n → last_where p (cond t (suc n) (last_where q n)) ≡ last_where p (suc n)
    go true e r f ih = refl
    go false e true f ih = absurd (false≢true (sym e ∙ h n f))
    go false e false f ih = ih ∙ sym (last_no p n f)

-- where one number alone passes
last_only : (test : ℕ → Bool) (r : ℕ) → ((q : ℕ) → test q ≡ true → q ≡ r) → test r ≡ true → (n : ℕ) → last_where test n ≡ cond (ltb r n) (suc r) 0
last_only test r only e zero = sym (cond_not_below (suc r) 0 r 0 (omega arith))
last_only test r only e (suc n) = go (same_or_not n r) (below_or_not r n) (last_only test r only e n)
  where
    go : (n ≡ r) ⊎ (n ≡ r → ⊥) → (r < n) ⊎ (n ≤ r) → last_where test n ≡ cond (ltb r n) (suc r) 0 → last_where test (suc n) ≡ cond (ltb r (suc n)) (suc r) 0
    go (inl m) d ih = last_yes test n (ap test m ∙ e) ∙ ap suc m ∙ sym (cond_below (suc r) 0 r (suc n) (omega arith))
    go (inr m) (inl d) ih =
        last_no test n (false_of (test n) (λ t. m (only n t))) ∙ ih ∙ cond_below (suc r) 0 r n d ∙ sym (cond_below (suc r) 0 r (suc n) (omega arith))
    go (inr m) (inr d) ih =
        last_no test n (false_of (test n) (λ t. m (only n t))) ∙ ih ∙ cond_not_below (suc r) 0 r n d
        ∙ sym (cond_not_below (suc r) 0 r (suc n) (omega arith))

-- ---- a word that is looked up

module _ (words : List (List ℕ)) where
  -- whether a place is the first of a word
  abbrev pub is_place_of : List ℕ → ℕ → Bool
  is_place_of x q = eqb (list_rank words (word_of words q)) q && same x (word_of words q)

  -- in its bucket
  place_in_bucket : (x : List ℕ) (q : ℕ) → is_place_of x q ≡ true → appears_in words (bucket_of x) q ≡ true
  unfolding appears_in
  place_in_bucket x q e =
      and_true (eqb (list_rank words (word_of words q)) q) (eqb (bucket_of (word_of words q)) (bucket_of x))
      (and_left (eqb (list_rank words (word_of words q)) q) (same x (word_of words q)) e)
      (eq-eqb (bucket_of (word_of words q)) (bucket_of x) (ap bucket_of (sym (same_true x (word_of words q) (and_right (eqb (list_rank words (word_of words q)) q) (same x (word_of words q)) e)))))

  appears_first : (b q : ℕ) → appears_in words b q ≡ true → list_rank words (word_of words q) ≡ q
  unfolding appears_in
  appears_first b q e = eqb-true (list_rank words (word_of words q)) q (and_left (eqb (list_rank words (word_of words q)) q) (eqb (bucket_of (word_of words q)) b) e)

  appears_bucket : (b q : ℕ) → appears_in words b q ≡ true → bucket_of (word_of words q) ≡ b
  unfolding appears_in
  appears_bucket b q e = eqb-true (bucket_of (word_of words q)) b (and_right (eqb (list_rank words (word_of words q)) q) (eqb (bucket_of (word_of words q)) b) e)

  appears_here : (b q : ℕ) → list_rank words (word_of words q) ≡ q → bucket_of (word_of words q) ≡ b → appears_in words b q ≡ true
  unfolding appears_in
  appears_here b q e f =
      and_true (eqb (list_rank words (word_of words q)) q) (eqb (bucket_of (word_of words q)) b) (eq-eqb (list_rank words (word_of words q)) q e) (eq-eqb (bucket_of (word_of words q)) b f)

  appears_not : (b q : ℕ) → (list_rank words (word_of words q) ≡ q → bucket_of (word_of words q) ≡ b → ⊥) → appears_in words b q ≡ false
  appears_not b q n = false_of (appears_in words b q) (λ e. n (appears_first b q e) (appears_bucket b q e))

  -- the first place of the word at a place is the only one, and is not behind it
  module _ (p : ℕ) (h : p < length words) where
    rank-stands : word_of words p ≡ word_of words (list_rank words (word_of words p))
    rank-stands = list_rank_stands words (word_of words p) (in_own words p h)

    pub rank_most : list_rank words (word_of words p) ≤ p
    unfolding list_rank
    rank_most = first_where_most (same (word_of words p)) words [] p h (same_yes (word_of words p) (word_of words p) refl)

    earlier-found : last_where (is_place_of (word_of words p)) p ≡ earlier_place words p
    unfolding earlier_place
    earlier-found = last_only (is_place_of (word_of words p)) r only here p
      where
        r : ℕ
        r = list_rank words (word_of words p)

        only : (q : ℕ) → is_place_of (word_of words p) q ≡ true → q ≡ r
        only q e =
            sym (eqb-true (list_rank words (word_of words q)) q (and_left (eqb (list_rank words (word_of words q)) q) (same (word_of words p) (word_of words q)) e))
            ∙ ap (list_rank words) (sym (same_true (word_of words p) (word_of words q) (and_right (eqb (list_rank words (word_of words q)) q) (same (word_of words p) (word_of words q)) e)))

        here : is_place_of (word_of words p) r ≡ true
        here =
            and_true (eqb (list_rank words (word_of words r)) r) (same (word_of words p) (word_of words r))
            (eq-eqb (list_rank words (word_of words r)) r (ap (list_rank words) (sym rank-stands))) (same_yes (word_of words p) (word_of words r) rank-stands)

    -- the place that is found, or its own, is the first
    pub first_found : cond (ltb 0 (earlier_place words p)) (earlier_place words p - 1) p ≡ list_rank words (word_of words p)
    unfolding earlier_place
    first_found = go (below_or_not (list_rank words (word_of words p)) p)
      where
        r : ℕ
        r = list_rank words (word_of words p)

        go : (r < p) ⊎ (p ≤ r) → cond (ltb 0 (cond (ltb r p) (suc r) 0)) (cond (ltb r p) (suc r) 0 - 1) p ≡ r
        go (inl l) = rw (cond_below (suc r) 0 r p l) (cond_below (suc r - 1) p 0 (suc r) (omega arith) ∙ omega arith)
        go (inr l) = rw (cond_not_below (suc r) 0 r p l) (omega (arith, rank_most))

    -- it is found or not
    pub earlier_none : earlier_place words p ≡ 0 → list_rank words (word_of words p) ≡ p
    unfolding earlier_place
    earlier_none e = go (below_or_not (list_rank words (word_of words p)) p)
      where
        r : ℕ
        r = list_rank words (word_of words p)

        go : (r < p) ⊎ (p ≤ r) → r ≡ p
        go (inl l) = absurd (omega (arith, cond_below (suc r) 0 r p l))
        go (inr l) = omega (arith, rank_most)

    pub earlier_some : 0 < earlier_place words p → list_rank words (word_of words p) ≡ p → ⊥
    unfolding earlier_place
    earlier_some l e = omega (arith, cond_not_below (suc (list_rank words (word_of words p))) 0 (list_rank words (word_of words p)) p (omega arith))

-- ---- along a bucket

-- what is known of the word that is looked up when the bucket is gone through as far as a place, which is given as 1 and itself
pub record Along (words : List (List ℕ)) (p other : ℕ) : Type 0 where
  pub most : other ≤ p
  pub found : last_where (is_place_of words (word_of words p)) other ≡ earlier_place words p
  pub appears : (i : ℕ) → other ≡ suc i → appears_in words (bucket_of (word_of words p)) i ≡ true

module _ (words : List (List ℕ)) (p : ℕ) (heads links : List ℕ) (h : p < length words) (chained : DistinctChained words p heads links) where
  abbrev x : List ℕ
  x = word_of words p

  pub along_first : (b : ℕ) → b ≡ bucket_of x → Along words p (get_or heads b 0)
  along_first b e =
      let q : get_or heads b 0 ≡ last_where (appears_in words (bucket_of x)) p
      = ap (λ (d : ℕ). get_or heads d 0) e ∙ chained.head (bucket_of x) (bucket_below x) in
      record {
        most = omega (arith, q, last_most (appears_in words (bucket_of x)) p);
        found = ap (last_where (is_place_of words x)) q ∙ last_jump (is_place_of words x) (appears_in words (bucket_of x)) (place_in_bucket words x) p ∙ earlier-found words p h;
        appears = λ i r. last_passes (appears_in words (bucket_of x)) p i (sym q ∙ r);
      }

  -- another word there: the next one of the bucket
  pub along_next : (other : ℕ) → 0 < other → Along words p other → same x (word_of words (other - 1)) ≡ false → Along words p (get_or links (other - 1) 0)
  along_next zero l a n = absurd (omega arith)
  along_next (suc i) l a n = rw (one i) (next i a (rw (one i) at n))
    where
      one : (i : ℕ) → suc i - 1 ≡ i
      one i = omega arith

      next : (i : ℕ) → Along words p (suc i) → same x (word_of words i) ≡ false → Along words p (get_or links i 0)
      next i a n =
          let f : appears_in words (bucket_of x) i ≡ true = a.appears i refl in
          let b : bucket_of (word_of words i) ≡ bucket_of x = appears_bucket words (bucket_of x) i f in
          let q : get_or links i 0 ≡ last_where (appears_in words (bucket_of x)) i
          = chained.link i (omega (arith, a.most)) (appears_first words (bucket_of x) i f) ∙ ap (λ (d : ℕ). last_where (appears_in words d) i) b in
          let m : is_place_of words x i ≡ false
          = ap (λ (t : Bool). eqb (list_rank words (word_of words i)) i && t) n ∙ and_never (eqb (list_rank words (word_of words i)) i) in
          record {
            most = omega (arith, q, last_most (appears_in words (bucket_of x)) i, a.most);
            found = ap (last_where (is_place_of words x)) q ∙ last_jump (is_place_of words x) (appears_in words (bucket_of x)) (place_in_bucket words x) i
                ∙ sym (last_no (is_place_of words x) i m) ∙ a.found;
            appears = λ j r. last_passes (appears_in words (bucket_of x)) i j (sym q ∙ r);
          }

  -- it is not the same place again
  pub along_less : (other : ℕ) → 0 < other → Along words p other → get_or links (other - 1) 0 < other
  along_less zero l a = absurd (omega arith)
  along_less (suc i) l a =
      let one : suc i - 1 ≡ i = omega arith in
      rw one (omega (
        arith,
        chained.link i (omega (arith, a.most)) (appears_first words (bucket_of x) i (a.appears i refl)),
        last_most (appears_in words (bucket_of (word_of words i))) i,
      ))

  -- the same word, and none
  pub along_hit : (other : ℕ) → 0 < other → Along words p other → same x (word_of words (other - 1)) ≡ true → other ≡ earlier_place words p
  along_hit zero l a n = absurd (omega arith)
  along_hit (suc i) l a n = hit i a (rw (one i) at n)
    where
      one : (i : ℕ) → suc i - 1 ≡ i
      one i = omega arith

      hit : (i : ℕ) → Along words p (suc i) → same x (word_of words i) ≡ true → suc i ≡ earlier_place words p
      hit i a n =
          sym (last_yes (is_place_of words x) i (and_true (eqb (list_rank words (word_of words i)) i) (same x (word_of words i))
          (eq-eqb (list_rank words (word_of words i)) i (appears_first words (bucket_of x) i (a.appears i refl))) n))
          ∙ a.found

  pub along_end : (other : ℕ) → other ≤ 0 → Along words p other → 0 ≡ earlier_place words p
  along_end zero l a = a.found
  along_end (suc i) l a = absurd (omega arith)

  -- ---- one word more

  -- that appears for the first time
  chained_first : list_rank words x ≡ p → p < length links → DistinctChained words (suc p) (set heads (bucket_of x) (suc p)) (set links p (get_or heads (bucket_of x) 0))
  chained_first e room =
      record {
        long = length-set heads (bucket_of x) (suc p) ∙ chained.long;
        head = λ d l. head d l (same_or_not d (bucket_of x));
        link = λ q l f. link q l f (same_or_not q p);
      }
    where
      head : (d : ℕ) → d < buckets → (d ≡ bucket_of x) ⊎ (d ≡ bucket_of x → ⊥) → get_or (set heads (bucket_of x) (suc p)) d 0 ≡ last_where (appears_in words d) (suc p)
      head d l (inl m) =
          subst (λ (z : ℕ). get_or (set heads (bucket_of x) (suc p)) z 0 ≡ last_where (appears_in words z) (suc p)) (sym m)
          (get_or-set_same heads (bucket_of x) (suc p) 0 (omega (arith, chained.long, bucket_below x))
          ∙ sym (last_yes (appears_in words (bucket_of x)) p (appears_here words (bucket_of x) p e refl)))
      head d l (inr m) =
          get_or-set_other heads (bucket_of x) d (suc p) 0 m ∙ chained.head d l ∙ sym (last_no (appears_in words d) p (appears_not words d p (λ f b. m (sym b))))

      link : (q : ℕ) → q < suc p → list_rank words (word_of words q) ≡ q → (q ≡ p) ⊎ (q ≡ p → ⊥)
          → get_or (set links p (get_or heads (bucket_of x) 0)) q 0 ≡ last_where (appears_in words (bucket_of (word_of words q))) q
      link q l f (inl m) = rw m (get_or-set_same links p (get_or heads (bucket_of x) 0) 0 room ∙ chained.head (bucket_of x) (bucket_below x))
      link q l f (inr m) = get_or-set_other links p q (get_or heads (bucket_of x) 0) 0 m ∙ chained.link q (omega arith) f

  -- that has appeared before
  chained_again : (list_rank words x ≡ p → ⊥) → DistinctChained words (suc p) heads links
  chained_again n =
      record {
        long = chained.long;
        head = λ d l. chained.head d l ∙ sym (last_no (appears_in words d) p (appears_not words d p (λ f b. n f)));
        link = λ q l f. link q l f (same_or_not q p);
      }
    where
      link : (q : ℕ) → q < suc p → list_rank words (word_of words q) ≡ q → (q ≡ p) ⊎ (q ≡ p → ⊥) → get_or links q 0 ≡ last_where (appears_in words (bucket_of (word_of words q))) q
      link q l f (inl m) = absurd (n (ap (λ (k : ℕ). list_rank words (word_of words k)) (sym m) ∙ f ∙ m))
      link q l f (inr m) = chained.link q (omega arith) f

  pub chained_more : (b found : ℕ) → b ≡ bucket_of x → found ≡ earlier_place words p → p < length links
      → DistinctChained words (p + 1) (cond (ltb 0 found) heads (set heads b (suc p))) (cond (ltb 0 found) links (set links p (get_or heads b 0)))
  chained_more b found e f room = rw (add-one p, e) (go (below_or_not 0 found))
    where
      go : (0 < found) ⊎ (found ≤ 0) → DistinctChained words (suc p) (cond (ltb 0 found) heads (set heads (bucket_of x) (suc p))) (cond (ltb 0 found) links (set links p (get_or heads (bucket_of x) 0)))
      go (inl l) = rw (lt-ltb 0 found l) (chained_again (earlier_some words p h (omega arith)))
      go (inr l) = rw (le-ltb 0 found l) (chained_first (earlier_none words p h (omega arith)) room)

-- no word
pub chained_none : (words : List (List ℕ)) (heads links : List ℕ) → length heads ≡ buckets → Cleared heads → DistinctChained words 0 heads links
chained_none words heads links e c =
    record { long = e; head = λ b l. c b (omega arith); link = λ q (l : q < 0) f. absurd (omega arith) }

-- ---- where words begin

pub begun_none : (table text starts : List ℕ) → Begun table text 0 starts
begun_none table text starts = record { long = omega arith; start = λ q (h : q < 0). absurd (omega arith) }

pub begun_more : (table text starts : List ℕ) (p at : ℕ) → Begun table text p starts → p < length starts → at ≤ length text → run_at table text at ≡ word_of (spellings table text) p
    → Begun table text (suc p) (set starts p at)
begun_more table text starts p at b room inside w =
    record { long = omega (arith, length-set starts p at); start = λ q h. start q h (same_or_not q p) }
  where
    start : (q : ℕ) → q < suc p → (q ≡ p) ⊎ (q ≡ p → ⊥) → (get_or (set starts p at) q 0 ≤ length text) × (run_at table text (get_or (set starts p at) q 0) ≡ word_of (spellings table text) q)
    start q h (inl m) = rw (m, get_or-set_same starts p at 0 room) (inside, w)
    start q h (inr n) = rw (get_or-set_other starts p q at 0 n) (b.start q (omega arith))
