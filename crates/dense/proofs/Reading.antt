-- Laws of reading a stream byte by byte. Assumes nothing.
use Prim.Native.Nat.{ℕ, zero, suc, max, ◌+◌, ◌*◌, ◌-◌, ◌≤◌, ◌<◌}
use mathlib.Core.Path.{◌≡◌, refl, sym, ap, ap₂, ◌∙◌}
use mathlib.Core.Bool.{Bool, true, false, cond, not, false≢true}
use mathlib.Core.List.{List, [], ◌∷◌}
use native.Mathlib.Numerals.{add-one}
use native.Mathlib.Omega.{arith}
use native.Mathlib.Nat.{mul-le-mul_left}
use borrow.Author.Tests.{lt-ltb, lt-leb, leb-false}
use lib.Dec.{ltb}
use lib.ListN.{length, take, drop, get_or, set, length-set, length-drop, drop_of_length-le}
use lib.Seq.{drop-cons, take_all, set-set}
use Rattle.base.specs.Lists.{all_pass, cut_after, cons_first}
use Rattle.base.specs.Answers.{front}
use Rattle.base.proofs.Fronts.{front_none, front_next}
use Rattle.dense.specs.Code.{continuing, closes}
use Rattle.dense.specs.Streams.{codewords, is_whole, is_broken, stream_text, closings}
use Rattle.dense.specs.Words.{begins_open, three_open}

-- ---- whether a stream is broken

-- whether a stream is broken of which a codeword with so many bytes, at most two, is open, and these bytes are left
abbrev pub broken_after : ℕ → ℕ → List ℕ → Bool
broken_after s n [] = ltb 0 n
broken_after s n (b ∷ bs) = cond (closes s b) (broken_after s 0 bs) (cond (ltb n 2) (broken_after s (suc n) bs) true)

-- three bytes that continue break a stream
three_open_lem : (s x y z : ℕ) (bs : List ℕ) → closes s x ≡ false → closes s y ≡ false → closes s z ≡ false → is_broken s (x ∷ y ∷ z ∷ bs) ≡ true
unfolding is_broken codewords
three_open_lem s x y z bs p q r = rw (p, q, r) (ap not (go (cut_after (closes s) bs)))
  where
    go : (ps : List (List ℕ)) → all_pass (is_whole s) (cons_first x (cons_first y (cons_first z ps))) ≡ false
    go [] = rw r
    go ([] ∷ ps) = rw r
    go ((f ∷ fs) ∷ ps) = refl

-- a stream of which no byte, one or two are passed that continue
pub broken_after_lem : (s : ℕ) (bs : List ℕ)
    → (is_broken s bs ≡ broken_after s 0 bs)
    × ((x : ℕ) → closes s x ≡ false → is_broken s (x ∷ bs) ≡ broken_after s 1 bs)
    × ((x y : ℕ) → closes s x ≡ false → closes s y ≡ false → is_broken s (x ∷ y ∷ bs) ≡ broken_after s 2 bs)
unfolding is_broken codewords
broken_after_lem s [] = (refl, (λ x p. rw (p, p)), (λ x y p q. rw (p, q, q)))
broken_after_lem s (b ∷ bs) = go (broken_after_lem s bs) (closes s b) refl
  where
    go : (is_broken s bs ≡ broken_after s 0 bs)
        × ((x : ℕ) → closes s x ≡ false → is_broken s (x ∷ bs) ≡ broken_after s 1 bs)
        × ((x y : ℕ) → closes s x ≡ false → closes s y ≡ false → is_broken s (x ∷ y ∷ bs) ≡ broken_after s 2 bs)
        → (t : Bool) → closes s b ≡ t
        → (is_broken s (b ∷ bs) ≡ broken_after s 0 (b ∷ bs))
        × ((x : ℕ) → closes s x ≡ false → is_broken s (x ∷ b ∷ bs) ≡ broken_after s 1 (b ∷ bs))
        × ((x y : ℕ) → closes s x ≡ false → closes s y ≡ false → is_broken s (x ∷ y ∷ b ∷ bs) ≡ broken_after s 2 (b ∷ bs))
    go ih true e = (rw (e, e) ih.0, (λ x p. rw (e, p, e) ih.0), (λ x y p q. rw (e, p, q, e) ih.0))
    go ih false e = (
      ih.1 b e ∙ rw e,
      (λ x p. ih.2 x b p e ∙ rw e),
      (λ x y p q. three_open_lem s x y b bs p q e ∙ rw e),
    )

-- one byte that is passed
pub broken_closing : (s n : ℕ) (bytes : List ℕ) (at : ℕ) → at < length bytes → closes s (get_or bytes at 0) ≡ true → broken_after s n (drop at bytes) ≡ broken_after s 0 (drop (at + 1) bytes)
broken_closing s n bytes at h e = rw (add-one at, drop-cons bytes at 0 h, e)

pub broken_continuing : (s n : ℕ) (bytes : List ℕ) (at : ℕ) → at < length bytes → closes s (get_or bytes at 0) ≡ false → n < 2 → broken_after s n (drop at bytes) ≡ broken_after s (n + 1) (drop (at + 1) bytes)
broken_continuing s n bytes at h e l = rw (add-one at, add-one n, drop-cons bytes at 0 h, e, lt-ltb n 2 l)

pub broken_third : (s : ℕ) (bytes : List ℕ) (at : ℕ) → at < length bytes → closes s (get_or bytes at 0) ≡ false → broken_after s 2 (drop at bytes) ≡ true
broken_third s bytes at h e = rw (drop-cons bytes at 0 h, e)

pub broken_end : (s n : ℕ) (bytes : List ℕ) (at : ℕ) → length bytes ≤ at → broken_after s n (drop at bytes) ≡ ltb 0 n
broken_end s n bytes at h = rw (drop_of_length-le bytes h)

-- ---- whether a stream is broken, by three bytes in a row and the last

-- one of two tests holds, where the second does, and where it does not
pub or_true : (t : Bool) → cond t true true ≡ true
or_true true = refl
or_true false = refl

pub or_false : (t : Bool) → cond t true false ≡ t
or_false true = refl
or_false false = refl

-- whether bytes end with one that continues; the other where there are none
abbrev ends_open : ℕ → Bool → List ℕ → Bool
ends_open s other [] = other
ends_open s other (b ∷ bs) = ends_open s (not (closes s b)) bs

-- a stream of which no byte, one or two are passed that continue is broken by three in a row or by the last
broken_rows : (s : ℕ) (bs : List ℕ)
    → (broken_after s 0 bs ≡ cond (three_open s bs) true (ends_open s false bs))
    × ((x : ℕ) → closes s x ≡ false → broken_after s 1 bs ≡ cond (three_open s (x ∷ bs)) true (ends_open s true bs))
    × ((x y : ℕ) → closes s x ≡ false → closes s y ≡ false → broken_after s 2 bs ≡ cond (three_open s (x ∷ y ∷ bs)) true (ends_open s true bs))
broken_rows s [] = (refl, (λ x p. rw p), (λ x y p q. rw (p, q)))
broken_rows s (b ∷ bs) = go (broken_rows s bs) (closes s b) refl
  where
    go : (broken_after s 0 bs ≡ cond (three_open s bs) true (ends_open s false bs))
        × ((x : ℕ) → closes s x ≡ false → broken_after s 1 bs ≡ cond (three_open s (x ∷ bs)) true (ends_open s true bs))
        × ((x y : ℕ) → closes s x ≡ false → closes s y ≡ false → broken_after s 2 bs ≡ cond (three_open s (x ∷ y ∷ bs)) true (ends_open s true bs))
        → (t : Bool) → closes s b ≡ t
        → (broken_after s 0 (b ∷ bs) ≡ cond (three_open s (b ∷ bs)) true (ends_open s false (b ∷ bs)))
        × ((x : ℕ) → closes s x ≡ false → broken_after s 1 (b ∷ bs) ≡ cond (three_open s (x ∷ b ∷ bs)) true (ends_open s true (b ∷ bs)))
        × ((x y : ℕ) → closes s x ≡ false → closes s y ≡ false → broken_after s 2 (b ∷ bs) ≡ cond (three_open s (x ∷ y ∷ b ∷ bs)) true (ends_open s true (b ∷ bs)))
    go ih true e = (rw e ih.0, (λ x p. rw (e, p) ih.0), (λ x y p q. rw (e, p, q) ih.0))
    go ih false e = (
      rw e (ih.1 b e ∙ rw e),
      (λ x p. rw (e, p) (ih.2 x b p e ∙ rw (p, e))),
      (λ x y p q. rw (e, p, q)),
    )

-- the last byte
ends_open_lem : (s : ℕ) (other : Bool) (bytes : List ℕ) (n : ℕ) → length bytes ≡ suc n → ends_open s other bytes ≡ not (closes s (get_or bytes n 0))
ends_open_lem s other [] n e = absurd (omega arith)
ends_open_lem s other (b ∷ []) zero e = refl
ends_open_lem s other (b ∷ []) (suc n) e = absurd (omega arith)
ends_open_lem s other (b ∷ x ∷ xs) zero e = absurd (omega arith)
ends_open_lem s other (b ∷ x ∷ xs) (suc n) e = ends_open_lem s (not (closes s b)) (x ∷ xs) n (omega arith)

-- by the last byte, and by three in a row
module _ (s : ℕ) (bytes : List ℕ) (n : ℕ) (e : length bytes ≡ suc n) where
  broken_by : is_broken s bytes ≡ cond (three_open s bytes) true (not (closes s (get_or bytes n 0)))
  broken_by = (broken_after_lem s bytes).0 ∙ (broken_rows s bytes).0 ∙ ap (cond (three_open s bytes) true) (ends_open_lem s false bytes n e)

  pub broken_last : closes s (get_or bytes n 0) ≡ false → is_broken s bytes ≡ true
  broken_last c = broken_by ∙ rw c (or_true (three_open s bytes))

  pub broken_row : closes s (get_or bytes n 0) ≡ true → is_broken s bytes ≡ three_open s bytes
  broken_row c = broken_by ∙ rw c (or_false (three_open s bytes))

-- no byte breaks nothing
pub broken_none : (s : ℕ) (bytes : List ℕ) → length bytes ≡ 0 → is_broken s bytes ≡ false
broken_none s [] e = (broken_after_lem s []).0
broken_none s (b ∷ bs) e = absurd (omega arith)

-- fewer than n bytes do not begin with n that continue, and fewer than three have no three
begins_short : (s n : ℕ) (bs : List ℕ) → length bs < n → begins_open s n bs ≡ false
begins_short s zero bs h = absurd (omega arith)
begins_short s (suc n) [] h = refl
begins_short s (suc n) (b ∷ bs) h = go (begins_short s n bs (omega arith)) (closes s b)
  where
    go : begins_open s n bs ≡ false → (t : Bool) → cond t false (begins_open s n bs) ≡ false
    go e true = refl
    go e false = e

pub three_short : (s : ℕ) (bs : List ℕ) → length bs < 3 → three_open s bs ≡ false
three_short s [] h = refl
three_short s (b ∷ bs) h = ap (λ (t : Bool). cond t true (three_open s bs)) (begins_short s 3 (b ∷ bs) h) ∙ three_short s bs (omega arith)

-- three in a row from a position on
module _ (s : ℕ) (bytes : List ℕ) (at : ℕ) where
  pub three_end : length bytes ≤ at + 2 → three_open s (drop at bytes) ≡ false
  three_end h = three_short s (drop at bytes) (omega (arith, length-drop at bytes))

  module _ (h : at + 2 < length bytes) where
    -- the three bytes
    next : drop (at + 1) bytes ≡ get_or bytes (at + 1) 0 ∷ get_or bytes (at + 2) 0 ∷ drop (at + 3) bytes
    next =
        let two : at + 2 ≡ suc (at + 1) = omega arith in
        let three : at + 3 ≡ suc (at + 2) = omega arith in
        drop-cons bytes (at + 1) 0 (omega arith)
        ∙ ap (λ (r : List ℕ). get_or bytes (at + 1) 0 ∷ r) (ap (λ (k : ℕ). drop k bytes) (sym two) ∙ drop-cons bytes (at + 2) 0 h ∙ ap (λ (k : ℕ). get_or bytes (at + 2) 0 ∷ drop k bytes) (sym three))

    here : drop at bytes ≡ get_or bytes at 0 ∷ get_or bytes (at + 1) 0 ∷ get_or bytes (at + 2) 0 ∷ drop (at + 3) bytes
    here = drop-cons bytes at 0 (omega arith) ∙ ap (λ (r : List ℕ). get_or bytes at 0 ∷ r) (ap (λ (k : ℕ). drop k bytes) (sym (add-one at)) ∙ next)

    -- the greatest of the three continues
    pub three_here : max (get_or bytes at 0) (max (get_or bytes (at + 1) 0) (get_or bytes (at + 2) 0)) < continuing s → three_open s (drop at bytes) ≡ true
    three_here l = rw (here, lt-leb (continuing s) (get_or bytes at 0) (omega arith), lt-leb (continuing s) (get_or bytes (at + 1) 0) (omega arith), lt-leb (continuing s) (get_or bytes (at + 2) 0) (omega arith))

    -- it closes
    pub three_later : continuing s ≤ max (get_or bytes at 0) (max (get_or bytes (at + 1) 0) (get_or bytes (at + 2) 0)) → three_open s (drop at bytes) ≡ three_open s (drop (at + 1) bytes)
    three_later l =
        ap (three_open s) here
        ∙ ap (λ (t : Bool). cond t true (three_open s (get_or bytes (at + 1) 0 ∷ get_or bytes (at + 2) 0 ∷ drop (at + 3) bytes)))
        (go (closes s (get_or bytes at 0)) (closes s (get_or bytes (at + 1) 0)) (closes s (get_or bytes (at + 2) 0)) refl refl refl)
        ∙ ap (three_open s) (sym next)
      where
        go : (t u v : Bool) → closes s (get_or bytes at 0) ≡ t → closes s (get_or bytes (at + 1) 0) ≡ u → closes s (get_or bytes (at + 2) 0) ≡ v → cond t false (cond u false (cond v false true)) ≡ false
        go true u v p q r = refl
        go false true v p q r = refl
        go false false true p q r = refl
        go false false false p q r = absurd (omega (arith, leb-false (continuing s) _ p, leb-false (continuing s) _ q, leb-false (continuing s) _ r))

-- ---- the text of a stream, byte by byte

-- the text of the bytes that are left, where the bytes of the open codeword lead to a node: 0 if none is open
abbrev pub text_after : ℕ → ℕ → List ℕ → List ℕ
text_after s node [] = []
text_after s node (b ∷ bs) = cond (closes s b) ((s * node + (b - continuing s)) ∷ text_after s 0 bs) (text_after s (continuing s * node + b + 1) bs)

-- the text of a stream is that of all its bytes; one or two that continue are passed
pub text_after_lem : (s : ℕ) (bs : List ℕ)
    → (is_broken s bs ≡ false → stream_text s bs ≡ text_after s 0 bs)
    × ((x : ℕ) → closes s x ≡ false → is_broken s (x ∷ bs) ≡ false → stream_text s (x ∷ bs) ≡ text_after s (continuing s * 0 + x + 1) bs)
    × ((x y : ℕ) → closes s x ≡ false → closes s y ≡ false → is_broken s (x ∷ y ∷ bs) ≡ false → stream_text s (x ∷ y ∷ bs) ≡ text_after s (continuing s * (continuing s * 0 + x + 1) + y + 1) bs)
unfolding stream_text codewords is_broken
text_after_lem s [] = (
  (λ u. refl),
  (λ x p u. absurd (false≢true (sym u ∙ (broken_after_lem s []).1 x p))),
  (λ x y p q u. absurd (false≢true (sym u ∙ (broken_after_lem s []).2 x y p q))),
)
text_after_lem s (b ∷ bs) = go (text_after_lem s bs) (closes s b) refl
  where
    go : (is_broken s bs ≡ false → stream_text s bs ≡ text_after s 0 bs)
        × ((x : ℕ) → closes s x ≡ false → is_broken s (x ∷ bs) ≡ false → stream_text s (x ∷ bs) ≡ text_after s (continuing s * 0 + x + 1) bs)
        × ((x y : ℕ) → closes s x ≡ false → closes s y ≡ false → is_broken s (x ∷ y ∷ bs) ≡ false → stream_text s (x ∷ y ∷ bs) ≡ text_after s (continuing s * (continuing s * 0 + x + 1) + y + 1) bs)
        → (t : Bool) → closes s b ≡ t
        → (is_broken s (b ∷ bs) ≡ false → stream_text s (b ∷ bs) ≡ text_after s 0 (b ∷ bs))
        × ((x : ℕ) → closes s x ≡ false → is_broken s (x ∷ b ∷ bs) ≡ false → stream_text s (x ∷ b ∷ bs) ≡ text_after s (continuing s * 0 + x + 1) (b ∷ bs))
        × ((x y : ℕ) → closes s x ≡ false → closes s y ≡ false → is_broken s (x ∷ y ∷ b ∷ bs) ≡ false → stream_text s (x ∷ y ∷ b ∷ bs) ≡ text_after s (continuing s * (continuing s * 0 + x + 1) + y + 1) (b ∷ bs))
    go ih true e = (
      (λ u. rw e (ap₂ {C = List ℕ} (λ (r : ℕ) (t : List ℕ). r ∷ t) (omega arith) (ih.0 (rw (e, e) at u)))),
      (λ x p u. rw (e, p) (ap₂ {C = List ℕ} (λ (r : ℕ) (t : List ℕ). r ∷ t) (omega arith) (ih.0 (rw (e, p, e) at u)))),
      (λ x y p q u. rw (e, p, q) (ap₂ {C = List ℕ} (λ (r : ℕ) (t : List ℕ). r ∷ t) (omega arith) (ih.0 (rw (e, p, q, e) at u)))),
    )
    go ih false e = (
      (λ u. ih.1 b e u ∙ rw e),
      (λ x p u. ih.2 x b p e u ∙ rw e),
      (λ x y p q u. absurd (false≢true (sym u ∙ three_open_lem s x y b bs p q e))),
    )

-- it has a word for each closing byte
pub length_text_after : (s node : ℕ) (bs : List ℕ) → length (text_after s node bs) ≡ closings s bs
unfolding closings
length_text_after s node [] = refl
length_text_after s node (b ∷ bs) = go (length_text_after s 0 bs) (length_text_after s (continuing s * node + b + 1) bs) (closes s b) refl
  where
    go : length (text_after s 0 bs) ≡ closings s bs → length (text_after s (continuing s * node + b + 1) bs) ≡ closings s bs
        → (t : Bool) → closes s b ≡ t → length (text_after s node (b ∷ bs)) ≡ closings s (b ∷ bs)
    go p q true e = rw e (ap suc p)
    go p q false e = rw e q

-- what is known of the node of the open codeword, by the number of its bytes, and that the bytes left break nothing
pub data Open (s node : ℕ) (bs : List ℕ) : Type 0 where
  none : node ≡ 0 → broken_after s 0 bs ≡ false → Open s node bs
  one : node ≤ continuing s → broken_after s 1 bs ≡ false → Open s node bs
  two : node ≤ continuing s * continuing s + continuing s → broken_after s 2 bs ≡ false → Open s node bs

-- a node number is small
pub open_most : (s node : ℕ) (bs : List ℕ) → Open s node bs → node ≤ continuing s * continuing s + continuing s
open_most s node bs (none h e) = omega arith
open_most s node bs (one h e) = omega arith
open_most s node bs (two h e) = h

-- what is left of a test that does not hold
passes : (t x : Bool) → cond t x true ≡ false → x ≡ false
passes true x e = e
passes false x e = absurd (false≢true (sym e))

-- before an unbroken end there is a word more
word_left : (s n node b : ℕ) (bs : List ℕ) → broken_after s n (b ∷ bs) ≡ false → 1 ≤ length (text_after s node (b ∷ bs))
word_left s n node b [] e = go (closes s b) refl
  where
    go : (t : Bool) → closes s b ≡ t → 1 ≤ length (text_after s node (b ∷ []))
    go true q = rw q (omega arith)
    go false q = absurd (false≢true (sym (passes (ltb n 2) (ltb 0 (suc n)) (rw q at e)) ∙ lt-ltb 0 (suc n) (omega arith)))
word_left s n node b (x ∷ xs) e = go (word_left s (suc n) (continuing s * node + b + 1) x xs) (closes s b) refl
  where
    go : (broken_after s (suc n) (x ∷ xs) ≡ false → 1 ≤ length (text_after s (continuing s * node + b + 1) (x ∷ xs)))
        → (t : Bool) → closes s b ≡ t → 1 ≤ length (text_after s node (b ∷ x ∷ xs))
    go ih true q = rw q (omega arith)
    go ih false q = rw q (ih (passes (ltb n 2) (broken_after s (suc n) (x ∷ xs)) (rw q at e)))

module _ (s : ℕ) (bytes : List ℕ) (node at : ℕ) where
  -- at the end none is open
  pub open_end : length bytes ≤ at → Open s node (drop at bytes) → node ≡ 0
  open_end h (none z e) = z
  open_end h (one m e) = absurd (false≢true (sym e ∙ broken_end s 1 bytes at h))
  open_end h (two m e) = absurd (false≢true (sym e ∙ broken_end s 2 bytes at h))

  module _ (h : at < length bytes) where
    -- one byte that is passed
    pub open_closing : closes s (get_or bytes at 0) ≡ true → Open s node (drop at bytes) → Open s 0 (drop (at + 1) bytes)
    open_closing c (none z e) = none refl (sym (broken_closing s 0 bytes at h c) ∙ e)
    open_closing c (one m e) = none refl (sym (broken_closing s 1 bytes at h c) ∙ e)
    open_closing c (two m e) = none refl (sym (broken_closing s 2 bytes at h c) ∙ e)

    pub open_continuing : closes s (get_or bytes at 0) ≡ false → Open s node (drop at bytes) → Open s (continuing s * node + get_or bytes at 0 + 1) (drop (at + 1) bytes)
    open_continuing c (none z e) =
        one (omega (arith, leb-false (continuing s) (get_or bytes at 0) c, ap (λ (k : ℕ). continuing s * k) z)) (sym (broken_continuing s 0 bytes at h c (omega arith)) ∙ e)
    open_continuing c (one m e) =
        two (omega (arith, leb-false (continuing s) (get_or bytes at 0) c, mul-le-mul_left (continuing s) m)) (sym (broken_continuing s 1 bytes at h c (omega arith)) ∙ e)
    open_continuing c (two m e) = absurd (false≢true (sym e ∙ broken_third s bytes at h c))

    -- its word, or the node that it leads to
    pub text_closing : closes s (get_or bytes at 0) ≡ true → text_after s node (drop at bytes) ≡ (s * node + (get_or bytes at 0 - continuing s)) ∷ text_after s 0 (drop (at + 1) bytes)
    text_closing c = rw (add-one at, drop-cons bytes at 0 h, c)

    pub text_continuing : closes s (get_or bytes at 0) ≡ false → text_after s node (drop at bytes) ≡ text_after s (continuing s * node + get_or bytes at 0 + 1) (drop (at + 1) bytes)
    text_continuing c = rw (add-one at, drop-cons bytes at 0 h, c)

    -- and there is a word more
    pub text_some : Open s node (drop at bytes) → 1 ≤ length (text_after s node (drop at bytes))
    text_some (none z e) = rw (drop-cons bytes at 0 h) (word_left s 0 node (get_or bytes at 0) (drop (suc at) bytes) (rw (drop-cons bytes at 0 h) at e))
    text_some (one m e) = rw (drop-cons bytes at 0 h) (word_left s 1 node (get_or bytes at 0) (drop (suc at) bytes) (rw (drop-cons bytes at 0 h) at e))
    text_some (two m e) = rw (drop-cons bytes at 0 h) (word_left s 2 node (get_or bytes at 0) (drop (suc at) bytes) (rw (drop-cons bytes at 0 h) at e))

-- the bytes before a position are passed, and their words stand in front of what a slice held; while a codeword is open, the element
-- that its rank will take may hold anything
pub record Passed (s : ℕ) (bytes z : List ℕ) (at node place : ℕ) (text : List ℕ) : Type 0 where
  pub inner : Open s node (drop at bytes)
  pub left : drop place (stream_text s bytes) ≡ text_after s node (drop at bytes)
  pub long : length text ≡ length z
  pub exact : node ≡ 0 → text ≡ front (take place (stream_text s bytes)) z
  pub stored : (x : ℕ) → set text place x ≡ set (front (take place (stream_text s bytes)) z) place x

module _ (s : ℕ) (bytes z : List ℕ) (unbroken : is_broken s bytes ≡ false) (room : closings s bytes ≤ length z) where
  -- before the first byte
  pub passed_none : Passed s bytes z 0 0 0 z
  passed_none = record {
    inner = none refl (sym (broken_after_lem s bytes).0 ∙ unbroken);
    left = (text_after_lem s bytes).0 unbroken;
    long = refl;
    exact = λ e. sym (front_none z);
    stored = λ x. ap (λ (l : List ℕ). set l 0 x) (sym (front_none z));
  }

  module _ (at node place : ℕ) (text : List ℕ) (p : Passed s bytes z at node place text) where
    -- at the end the whole text stands in front
    pub passed_all : length bytes ≤ at → text ≡ front (stream_text s bytes) z
    passed_all h =
        p.exact (open_end s bytes node at h p.inner)
        ∙ ap (λ (xs : List ℕ). front xs z) (take_all place (stream_text s bytes) (omega (arith, length-drop place (stream_text s bytes), ap length (p.left ∙ ap (text_after s node) (drop_of_length-le bytes h)))))

    module _ (h : at < length bytes) where
      -- before it there is another word, and room for it
      pub place_inside : place < length (stream_text s bytes)
      place_inside = omega (arith, length-drop place (stream_text s bytes), ap length p.left, text_some s bytes node at h p.inner)

      pub place_room : place < length z
      place_room = omega (arith, place_inside, ap length ((text_after_lem s bytes).0 unbroken), length_text_after s 0 bytes, room)

      -- one byte that is passed: it closes the next word, which is stored, or continues it
      pub passed_closing : closes s (get_or bytes at 0) ≡ true → (x : ℕ) → x ≡ s * node + (get_or bytes at 0 - continuing s) → Passed s bytes z (at + 1) 0 (place + 1) (set text place x)
      passed_closing c x e =
          let cut : get_or (stream_text s bytes) place 0 ∷ drop (place + 1) (stream_text s bytes) ≡ x ∷ text_after s 0 (drop (at + 1) bytes) =
          rw (add-one place, ← drop-cons (stream_text s bytes) place 0 place_inside, e) (p.left ∙ text_closing s bytes node at h c) in
          let word : get_or (stream_text s bytes) place 0 ≡ x = cc in
          let now : set text place x ≡ front (take (place + 1) (stream_text s bytes)) z =
          p.stored x ∙ ap (set (front (take place (stream_text s bytes)) z) place) (sym word) ∙ front_next (stream_text s bytes) z place place_inside place_room in
          record {
            inner = open_closing s bytes node at h c p.inner;
            left = cc;
            long = length-set text place x ∙ p.long;
            exact = λ _. now;
            stored = λ y. ap (λ (l : List ℕ). set l (place + 1) y) now;
          }

      pub passed_continuing : closes s (get_or bytes at 0) ≡ false → (x next : ℕ) → next ≡ continuing s * node + get_or bytes at 0 + 1 → Passed s bytes z (at + 1) next place (set text place x)
      passed_continuing c x next e = rw e (record {
        inner = open_continuing s bytes node at h c p.inner;
        left = p.left ∙ text_continuing s bytes node at h c;
        long = length-set text place x ∙ p.long;
        exact = λ q. absurd (omega arith);
        stored = λ y. set-set text place x y ∙ p.stored y;
      })
