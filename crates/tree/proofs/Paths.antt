-- Laws of the path to a node: that to a child, and those along which codewords end. Assumes nothing.
use Prim.Native.Nat.{ℕ, zero, suc, ◌+◌, ◌-◌, ◌*◌, ◌≤◌, ◌<◌}
use mathlib.Core.Path.{◌≡◌, refl, sym, ap, ap₂, ◌∙◌}
use mathlib.Core.List.{List, [], ◌∷◌, ◌++◌, append_assoc, get_last_d}
use native.Mathlib.Nat.{div-eq_of_lt, div-le_self, mul-le-mul_right}
use native.Mathlib.Omega.{arith}
use Rattle.dense.specs.Code.{Closing, continuing, max_vocabulary, code, Word, closing, continued}
use Rattle.dense.proofs.Numbers.{div_below}
use Rattle.dense.proofs.Codewords.{code_word}
use Rattle.tree.specs.Nodes.{child, parent, digit, max_nodes, node_of, closing_byte, path_within, path}
use Rattle.tree.specs.Walks.{end_node, end_byte}
use Rattle.tree.proofs.Numbers.{child_suc, child_parent, child_digit, code_ends}

-- k bytes or more are enough for node k
path_enough : (s d d' k : ℕ) → k ≤ d → k ≤ d' → path_within s d k ≡ path_within s d' k
path_enough s zero zero k h l = refl
path_enough s zero (suc d') zero h l = refl
path_enough s zero (suc d') (suc k) h l = absurd (omega arith)
path_enough s (suc d) zero zero h l = refl
path_enough s (suc d) zero (suc k) h l = absurd (omega arith)
path_enough s (suc d) (suc d') zero h l = refl
path_enough s (suc d) (suc d') (suc k) h l =
    let p : parent s (suc k) ≤ suc k - 1 = div-le_self (suc k - 1) (continuing s) in
    ap (λ (x : List ℕ). x ++ (digit s (suc k) ∷ [])) (path_enough s d d' (parent s (suc k)) (omega arith) (omega arith))

-- no byte leads to the root
pub path_root : (s : ℕ) → path s 0 ≡ []
unfolding path
path_root s = refl

-- the path to the child by e is the path to the parent and e
pub path_child : (s k e : ℕ) → e < continuing s → path s (child s k e) ≡ path s k ++ (e ∷ [])
unfolding path
path_child s k e h =
    let n : child s k e ≡ suc (continuing s * k + e) = child_suc s k e in
    let c : 1 ≤ continuing s = omega arith in
    let g : k ≤ continuing s * k + e = omega (arith, mul-le-mul_right k c) in
    ap (λ (m : ℕ). path_within s m m) n
    ∙ ap₂ (λ (p b : ℕ). path_within s (continuing s * k + e) p ++ (b ∷ [])) (ap (parent s) (sym n) ∙ child_parent s k e h) (ap (digit s) (sym n) ∙ child_digit s k e h)
    ∙ ap (λ (p : List ℕ). p ++ (e ∷ [])) (path_enough s (continuing s * k + e) k k g (omega arith))

-- the path and a byte that leads on are the path to the child
pub path_further : (s k b : ℕ) (bs : List ℕ) → b < continuing s → path s k ++ (b ∷ bs) ≡ path s (child s k b) ++ bs
path_further s k b bs h = sym (append_assoc (path s k) (b ∷ []) bs) ∙ ap (λ (p : List ℕ). p ++ bs) (sym (path_child s k b h))

-- a codeword that starts in node k leads to the node in which it ends, and to its last byte
pub path_end : (s k : ℕ) (w : List ℕ) → Word s w → path s k ++ w ≡ path s (end_node s k w) ++ (end_byte w ∷ [])
unfolding get_last_d
path_end s k w (closing b h l) = refl
path_end s k w (continued b h (closing e g l)) = path_further s k b (e ∷ []) h ∙ path_end s (child s k b) (e ∷ []) (closing e g l)
path_end s k w (continued b h (continued e {bs} g u)) = path_further s k b (e ∷ bs) h ∙ path_end s (child s k b) (e ∷ bs) (continued e g u)

-- the codeword of rank i is the path to its node and its closing byte
pub code_end : (s : ℕ) → Closing s → (i : ℕ) → i < max_vocabulary s → code s i ≡ path s (node_of s i) ++ (closing_byte s i ∷ [])
code_end s within i h =
    ap (λ (p : List ℕ). p ++ code s i) (sym (path_root s)) ∙ path_end s 0 (code s i) (code_word s within i h)
    ∙ ap₂ (λ (k b : ℕ). path s k ++ (b ∷ [])) (code_ends s within i h).0 (code_ends s within i h).1

-- two levels above a node of the third is the root
pub two_up : (s : ℕ) → Closing s → (k : ℕ) → k < max_nodes s → 1 ≤ parent s k → parent s (parent s k) ≡ 0
two_up s within k l h = div-eq_of_lt (omega (arith, div_below (continuing s) (1 + continuing s) (k - 1) (omega arith) (omega arith)))
