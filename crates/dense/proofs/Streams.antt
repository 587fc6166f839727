-- Laws of streams: their codewords, their length, their closing bytes, and that writing and reading give each other back.
-- Assumes nothing.
use Prim.Native.Nat.{ℕ, suc, ◌+◌, ◌*◌, ◌≤◌, ◌<◌}
use mathlib.Core.Path.{◌≡◌, refl, sym, ap, ap₂, ◌∙◌}
use mathlib.Core.Bool.{Bool, true, false, cond, not, false≢true}
use mathlib.Core.List.{List, [], ◌∷◌, ◌++◌, map, map-append, flatten, append-nil}
use native.Mathlib.Numerals.{add-one}
use native.Mathlib.Omega.{arith}
use borrow.Author.Tests.{le-leb, lt-leb, leb-true, leb-false, not-false}
use lib.ListN.{length, take, drop, get_or, length-append, length-take, length-map, take-append-drop}
use lib.Seq.{take-suc}
use Rattle.base.specs.Lists.{All, Below, total, all_pass, filter_by, cut_after}
use Rattle.base.specs.Answers.{written, front}
use Rattle.base.proofs.Fronts.{front_more}
use Rattle.base.proofs.Lists.{all_imp, all_map, all_of_pass, pass_of_all, filter_append, filter_most, map_map}
use Rattle.base.proofs.Segments.{flatten_append, length_flatten, flatten_all}
use Rattle.base.proofs.Cuts.{flatten_cut, Inner, cut_inner}
use Rattle.dense.specs.Code.{Closing, continuing, closes, max_vocabulary, code, rank_of, Word, closing, continued}
use Rattle.dense.specs.Streams.{stream, codewords, is_whole, is_broken, stream_text, closings}
use Rattle.dense.specs.Laws.{code_length}
use Rattle.dense.proofs.Codewords.{code_length_lem, code_short, code_word, rank_of_code, code_of_rank}

-- ---- writing

-- the stream of two texts is those of each
pub stream_append : (s : ℕ) (t u : List ℕ) → stream s (t ++ u) ≡ stream s t ++ stream s u
unfolding stream
stream_append s t u = ap flatten (map-append (code s) t u) ∙ flatten_append (map (code s) t) (map (code s) u)

-- one word more
pub stream_more : (s : ℕ) (t : List ℕ) (i : ℕ) → i < length t → stream s (take (suc i) t) ≡ stream s (take i t) ++ code s (get_or t i 0)
unfolding stream flatten
stream_more s t i h = ap (stream s) (take-suc t i 0 h) ∙ stream_append s (take i t) (get_or t i 0 ∷ []) ∙ ap (λ (w : List ℕ). stream s (take i t) ++ w) (append-nil (code s (get_or t i 0)))

pub stream_none : (s : ℕ) → stream s [] ≡ []
unfolding stream flatten
stream_none s = refl

-- its length is the sum of the lengths of its codewords
pub stream_length_lem : (s : ℕ) (t : List ℕ) → length (stream s t) ≡ total (map (code_length s) t)
unfolding stream
stream_length_lem s t = length_flatten (map (code s) t) ∙ ap total (map_map length (code s) t ∙ lengths t)
  where
    lengths : (t : List ℕ) → map (λ (i : ℕ). length (code s i)) t ≡ map (code_length s) t
    lengths [] = refl
    lengths (i ∷ t) = ap₂ {C = List ℕ} (λ (n : ℕ) (r : List ℕ). n ∷ r) (code_length_lem s i) (lengths t)

-- at most three bytes a word
pub stream_most : (s : ℕ) (t : List ℕ) → length (stream s t) ≤ 3 * length t
unfolding stream flatten
stream_most s [] = omega arith
stream_most s (i ∷ t) = omega (arith, length-append (code s i) (stream s t), (code_short s i).1, stream_most s t)

-- one word more, by lengths
pub stream_length_more : (s : ℕ) (t : List ℕ) (i : ℕ) → i < length t → length (stream s (take (i + 1) t)) ≡ length (stream s (take i t)) + code_length s (get_or t i 0)
stream_length_more s t i h =
    rw (add-one i) (ap length (stream_more s t i h) ∙ length-append (stream s (take i t)) (code s (get_or t i 0)) ∙ ap (λ (n : ℕ). length (stream s (take i t)) + n) (code_length_lem s (get_or t i 0)))

pub stream_take_most : (s : ℕ) (t : List ℕ) (i : ℕ) → length (stream s (take i t)) ≤ 3 * length t
stream_take_most s t i = omega (arith, stream_most s (take i t), length-take i t)

-- the stream of the first words is no longer than the whole stream, which so has room for the next word
pub stream_prefix : (s : ℕ) (t : List ℕ) (i : ℕ) → length (stream s (take i t)) ≤ length (stream s t)
stream_prefix s t i =
    omega (
      arith,
      ap (λ (u : List ℕ). length (stream s u)) (take-append-drop i t),
      ap length (stream_append s (take i t) (drop i t)),
      length-append (stream s (take i t)) (stream s (drop i t)),
    )

pub stream_room : (s : ℕ) (t : List ℕ) (i : ℕ) → i < length t → length (stream s (take i t)) + code_length s (get_or t i 0) ≤ length (stream s t)
stream_room s t i h = omega (arith, stream_length_more s t i h, stream_prefix s t (i + 1))

-- the codeword of the next word is written behind the stream of the words before it
pub stream_written_lem : (s : ℕ) (t z : List ℕ) (i : ℕ) → i < length t
    → written (code s (get_or t i 0)) (length (stream s (take i t))) (front (stream s (take i t)) z) ≡ front (stream s (take (i + 1) t)) z
stream_written_lem s t z i h =
    front_more (stream s (take i t)) (code s (get_or t i 0)) z ∙ ap (λ (xs : List ℕ). front xs z) (sym (stream_more s t i h) ∙ ap (λ (n : ℕ). stream s (take n t)) (sym (add-one i)))

-- ---- closing bytes

-- a byte that continues and one that closes
pub not_closing : (s b : ℕ) → b < continuing s → closes s b ≡ false
not_closing s b h = lt-leb (continuing s) b h

pub is_closing : (s b : ℕ) → continuing s ≤ b → closes s b ≡ true
is_closing s b h = le-leb (continuing s) b h

-- the first i + 1 bytes have one closing byte more than the first i if the next closes, and else as many
pub closings_more : (s : ℕ) (bytes : List ℕ) (i : ℕ) → i < length bytes → closings s (take (suc i) bytes) ≡ closings s (take i bytes) + cond (closes s (get_or bytes i 0)) 1 0
unfolding closings
closings_more s bytes i h =
    ap (λ (xs : List ℕ). length (filter_by (closes s) xs)) (take-suc bytes i 0 h)
    ∙ ap length (filter_append (closes s) (take i bytes) (get_or bytes i 0 ∷ []))
    ∙ length-append (filter_by (closes s) (take i bytes)) (filter_by (closes s) (get_or bytes i 0 ∷ []))
    ∙ ap (λ (n : ℕ). length (filter_by (closes s) (take i bytes)) + n) (one (closes s (get_or bytes i 0)))
  where
    one : (t : Bool) → length (cond t (get_or bytes i 0 ∷ []) []) ≡ cond t 1 0
    one true = refl
    one false = refl

-- some bytes and those after them
pub closings_append : (s : ℕ) (xs ys : List ℕ) → closings s (xs ++ ys) ≡ closings s xs + closings s ys
unfolding closings
closings_append s xs ys = ap length (filter_append (closes s) xs ys) ∙ length-append (filter_by (closes s) xs) (filter_by (closes s) ys)

-- never more than there are bytes
pub closings_most : (s : ℕ) (bytes : List ℕ) → closings s bytes ≤ length bytes
unfolding closings
closings_most s bytes = filter_most (closes s) bytes

-- codewords one after another have a closing byte each
pub closings_words : (s : ℕ) (ws : List (List ℕ)) → All (Word s) ws → closings s (flatten ws) ≡ length ws
unfolding closings flatten
closings_words s [] a = refl
closings_words s (w ∷ ws) a = word w a.0 (flatten ws) ∙ ap suc (closings_words s ws a.1)
  where
    word : (w : List ℕ) → Word s w → (xs : List ℕ) → length (filter_by (closes s) (w ++ xs)) ≡ suc (length (filter_by (closes s) xs))
    word w (closing b h l) xs = rw (is_closing s b h)
    word w (continued b {bs} h u) xs = rw (not_closing s b h) (word bs u xs)

-- ---- codewords of bytes

-- codewords one after another are cut apart again
pub codewords_words : (s : ℕ) (ws : List (List ℕ)) → All (Word s) ws → codewords s (flatten ws) ≡ ws
unfolding codewords flatten
codewords_words s [] a = refl
codewords_words s (w ∷ ws) a = word w a.0 (flatten ws) ∙ ap (λ (r : List (List ℕ)). w ∷ r) (codewords_words s ws a.1)
  where
    word : (w : List ℕ) → Word s w → (xs : List ℕ) → cut_after (closes s) (w ++ xs) ≡ w ∷ cut_after (closes s) xs
    word w (closing b h l) xs = rw (is_closing s b h)
    word w (continued b {bs} h u) xs = rw (not_closing s b h, word bs u xs)

-- the bytes are their codewords one after another
pub flatten_codewords : (s : ℕ) (bytes : List ℕ) → flatten (codewords s bytes) ≡ bytes
unfolding codewords
flatten_codewords s bytes = flatten_cut (closes s) bytes

-- a codeword of at most three bytes is whole
pub word_whole : (s : ℕ) (w : List ℕ) → Word s w → length w ≤ 3 → is_whole s w ≡ true
word_whole s w (closing b h l) n = is_closing s b h
word_whole s w (continued a ha (closing b h l)) n = is_closing s b h
word_whole s w (continued a ha (continued a' ha' (closing b h l))) n = is_closing s b h
word_whole s w (continued a ha (continued a' ha' (continued a'' ha'' (closing b h l)))) n = absurd (omega arith)
word_whole s w (continued a ha (continued a' ha' (continued a'' ha'' (continued b h u)))) n = absurd (omega arith)

-- a codeword: well formed, of at most three bytes
pub record Whole (s : ℕ) (w : List ℕ) : Type 0 where
  pub word : Word s w
  pub short : length w ≤ 3

-- a piece of bytes that is whole is a codeword
pub whole_word : (s : ℕ) (w : List ℕ) → is_whole s w ≡ true → Inner (closes s) w → Below 256 w → Whole s w
whole_word s [] e i b = absurd (false≢true e)
whole_word s (x ∷ []) e i b = record { word = closing x (leb-true (continuing s) x e) b.0; short = omega arith }
whole_word s (x ∷ y ∷ []) e i b =
    record { word = continued x (leb-false (continuing s) x i.0) (closing y (leb-true (continuing s) y e) b.1.0); short = omega arith }
whole_word s (x ∷ y ∷ z ∷ []) e i b =
    record {
      word = continued x (leb-false (continuing s) x i.0) (continued y (leb-false (continuing s) y i.1.0) (closing z (leb-true (continuing s) z e) b.1.1.0));
      short = omega arith;
    }
whole_word s (x ∷ y ∷ z ∷ f ∷ r) e i b = absurd (false≢true e)

-- the codewords of bytes that are no broken stream are codewords
pub whole_codewords : (s : ℕ) (bytes : List ℕ) → Below 256 bytes → is_broken s bytes ≡ false → All (Whole s) (codewords s bytes)
unfolding is_broken codewords
whole_codewords s bytes b e =
    go (codewords s bytes)
    (all_of_pass (is_whole s) (codewords s bytes) (not-false (all_pass (is_whole s) (codewords s bytes)) e))
    (cut_inner (closes s) bytes)
    (flatten_all (λ (x : ℕ). x < 256) (codewords s bytes) (rw (flatten_codewords s bytes) b))
  where
    go : (ws : List (List ℕ)) → All (λ (w : List ℕ). is_whole s w ≡ true) ws → All (Inner (closes s)) ws → All (Below 256) ws → All (Whole s) ws
    go [] p i b = tt
    go (w ∷ ws) p i b = (whole_word s w p.0 i.0 b.0, go ws p.1 i.1 b.1)

-- whose closing bytes are as many
pub closings_whole : (s : ℕ) (bytes : List ℕ) → Below 256 bytes → is_broken s bytes ≡ false → closings s bytes ≡ length (codewords s bytes)
closings_whole s bytes b e =
    ap (closings s) (sym (flatten_codewords s bytes))
    ∙ closings_words s (codewords s bytes) (all_imp (Whole s) (Word s) (λ w h. h.word) (codewords s bytes) (whole_codewords s bytes b e))

pub length_stream_text : (s : ℕ) (bytes : List ℕ) → length (stream_text s bytes) ≡ length (codewords s bytes)
unfolding stream_text
length_stream_text s bytes = length-map (codewords s bytes) (rank_of s)

-- ---- writing and reading

module _ (s : ℕ) (within : Closing s) where
  -- the codewords of a text
  words_of_text : (t : List ℕ) → Below (max_vocabulary s) t → All (Whole s) (map (code s) t)
  words_of_text t b =
      all_map (λ (i : ℕ). i < max_vocabulary s) (Whole s) (code s) (λ i h. record { word = code_word s within i h; short = (code_short s i).1 }) t b

  -- the stream of a text is cut into the codewords of its words
  pub codewords_of_stream : (t : List ℕ) → Below (max_vocabulary s) t → codewords s (stream s t) ≡ map (code s) t
  unfolding stream
  codewords_of_stream t b = codewords_words s (map (code s) t) (all_imp (Whole s) (Word s) (λ w h. h.word) (map (code s) t) (words_of_text t b))

  pub stream_not_broken : (t : List ℕ) → Below (max_vocabulary s) t → is_broken s (stream s t) ≡ false
  unfolding is_broken
  stream_not_broken t b =
      rw (codewords_of_stream t b)
      (ap not (pass_of_all (is_whole s) (map (code s) t)
      (all_imp (Whole s) (λ (w : List ℕ). is_whole s w ≡ true) (λ w h. word_whole s w h.word h.short) (map (code s) t) (words_of_text t b))))

  pub stream_closings : (t : List ℕ) → Below (max_vocabulary s) t → closings s (stream s t) ≡ length t
  unfolding stream
  stream_closings t b =
      closings_words s (map (code s) t) (all_imp (Whole s) (Word s) (λ w h. h.word) (map (code s) t) (words_of_text t b)) ∙ length-map t (code s)

  pub text_of_stream : (t : List ℕ) → Below (max_vocabulary s) t → stream_text s (stream s t) ≡ t
  unfolding stream_text
  text_of_stream t b = ap (map (rank_of s)) (codewords_of_stream t b) ∙ map_map (rank_of s) (code s) t ∙ read t b
    where
      read : (t : List ℕ) → Below (max_vocabulary s) t → map (λ (i : ℕ). rank_of s (code s i)) t ≡ t
      read [] b = refl
      read (i ∷ t) b = ap₂ {C = List ℕ} (λ (x : ℕ) (r : List ℕ). x ∷ r) (rank_of_code s within i b.0) (read t b.1)

  -- bytes that are no broken stream are the stream of the text that is read from them, whose ranks have codewords
  pub stream_text_below : (bytes : List ℕ) → Below 256 bytes → is_broken s bytes ≡ false → Below (max_vocabulary s) (stream_text s bytes)
  unfolding stream_text
  stream_text_below bytes b e =
      all_map (Whole s) (λ (i : ℕ). i < max_vocabulary s) (rank_of s) (λ w h. (code_of_rank s within w h.word h.short).0) (codewords s bytes) (whole_codewords s bytes b e)

  pub stream_of_text : (bytes : List ℕ) → Below 256 bytes → is_broken s bytes ≡ false → stream s (stream_text s bytes) ≡ bytes
  unfolding stream stream_text
  stream_of_text bytes b e = ap flatten (map_map (code s) (rank_of s) (codewords s bytes) ∙ written (codewords s bytes) (whole_codewords s bytes b e)) ∙ flatten_codewords s bytes
    where
      written : (ws : List (List ℕ)) → All (Whole s) ws → map (λ (w : List ℕ). code s (rank_of s w)) ws ≡ ws
      written [] a = refl
      written (w ∷ ws) a = ap₂ {C = List (List ℕ)} (λ (x : List ℕ) (r : List (List ℕ)). x ∷ r) (code_of_rank s within w a.0.word a.0.short).1 (written ws a.1)
