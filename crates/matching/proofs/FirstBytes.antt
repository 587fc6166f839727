-- The first bytes of the codewords of a phrase, and those of the words of a text in its root. Assumes nothing.
use Prim.Native.Nat.{ℕ, ◌+◌, ◌≤◌, ◌<◌}
use mathlib.Core.Path.{◌≡◌, sym, ap, ap₂, ◌∙◌}
use mathlib.Core.Bool.{true, false, false≢true}
use mathlib.Core.List.{List, [], ◌∷◌}
use native.Mathlib.Omega.{arith}
use lib.ListN.{length, get_or, take, length-map}
use lib.Seq.{get_or-take}
use Rattle.base.specs.Answers.{front}
use Rattle.base.proofs.Lists.{get_d_map}
use Rattle.base.proofs.Fronts.{take_front}
use Rattle.base.proofs.Tests.{false_of}
use Rattle.dense.specs.Code.{code}
use Rattle.dense.specs.declared.Codeword.{Codeword}
use Rattle.dense.specs.Words.{codeword_bytes}
use Rattle.dense.proofs.Words.{encoded_some}
use Rattle.tree.specs.Nodes.{first_byte}
use Rattle.index.specs.declared.Shape.{Shape}
use Rattle.index.specs.Arrays.{Arrays, text_in}
use Rattle.words.specs.Ready.{Ready}
use Rattle.words.proofs.Positions.{root_byte, root_inside}
use Rattle.phrases.specs.Phrases.{stands}
use Rattle.phrases.proofs.Standing.{stands_inside, stands_word, stands_yes}
use Rattle.matching.specs.Searching.{first_bytes, Searchable, Searching}

-- the first byte of a codeword as it is handed on
pub encoded_first : (s rank : ℕ) (w : Codeword) → codeword_bytes w ≡ code s rank → w.length ≤ 3 → w.first ≡ first_byte (code s rank)
encoded_first s rank w is short =
    sym (get_or-take w.length (w.first ∷ w.second ∷ w.third ∷ []) 0 256 (encoded_some s rank w is short)) ∙ ap first_byte is

-- there are as many first bytes as words, each of its word
pub first_bytes_length : (s : ℕ) (ws : List ℕ) → length (first_bytes s ws) ≡ length ws
first_bytes_length s ws = length-map ws (λ (w : ℕ). first_byte (code s w))

pub first_byte_at : (s : ℕ) (ws : List ℕ) (i : ℕ) → i < length ws → get_or (first_bytes s ws) i 0 ≡ first_byte (code s (get_or ws i 0))
first_byte_at s ws i h = get_d_map (λ (w : ℕ). first_byte (code s w)) ws i 0 0 h

-- written to the front of a table, they are the part of it that the words' number says
pub first_bytes_part : (s : ℕ) (ws table exit : List ℕ) → exit ≡ front (first_bytes s ws) table → take (length ws) exit ≡ first_bytes s ws
first_bytes_part s ws table exit e =
    ap₂ (λ (n : ℕ) (x : List ℕ). take n x) (sym (first_bytes_length s ws)) e ∙ take_front (first_bytes s ws) table

-- the table has the first bytes that a search asks for
pub searching : {s : ℕ} {shape : Shape} {a : Arrays} {starts : List ℕ} (ws table exit : List ℕ) → Searchable s shape a starts ws
    → exit ≡ front (first_bytes s ws) table → Searching s shape a starts (take (length ws) exit) ws
searching {s} ws table exit h e = record { searchable = h; firsts_are = first_bytes_part s ws table exit e }

-- where a phrase stands in the text of arrays, its first bytes stand in their bytes
module _ {s : ℕ} {shape : Shape} {a : Arrays} {starts : List ℕ} (r : Ready s shape a starts) (ws : List ℕ) (q : ℕ) where
  first_bytes_stand : stands (text_in s a) ws q ≡ true → stands a.bytes (first_bytes s ws) q ≡ true
  first_bytes_stand e =
      let l = stands_inside (text_in s a) ws q e in
      stands_yes a.bytes (first_bytes s ws) q (omega (arith, l, first_bytes_length s ws, root_inside r.checked))
      (λ i h. let g : i < length ws = omega (arith, first_bytes_length s ws) in
      root_byte r.checked (q + i) (omega (arith, l, g)) ∙ ap (λ (w : ℕ). first_byte (code s w)) (stands_word (text_in s a) ws q e i g) ∙ sym (first_byte_at s ws i g))

  -- so that where they do not, it does not
  pub first_bytes_differ : stands a.bytes (first_bytes s ws) q ≡ false → stands (text_in s a) ws q ≡ false
  first_bytes_differ e = false_of (stands (text_in s a) ws q) (λ t. false≢true (sym e ∙ first_bytes_stand t))
