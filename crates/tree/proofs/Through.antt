-- Laws of what comes through a byte, and through the bytes of a path. Assumes nothing.
use Prim.Native.Nat.{ℕ, zero, suc, ◌≤◌, ◌<◌}
use mathlib.Core.Path.{◌≡◌, refl, sym, ap, ◌∙◌}
use mathlib.Core.Bool.{Bool, true, false, cond}
use mathlib.Core.Logic.{◌⊎◌, inl, inr}
use mathlib.Core.List.{List, [], ◌∷◌, ◌++◌, map, tail, map-append, append-nil}
use native.Mathlib.Omega.{arith}
use borrow.Author.Tests.{eq-eqb, ne_eqb}
use lib.Dec.{eqb}
use lib.ListN.{length, take, get_or}
use Rattle.base.specs.Lists.{All, filter_by, range_from, count_of}
use Rattle.base.proofs.Tests.{same_or_not}
use Rattle.base.proofs.Counts.{count_hit, count_miss}
use Rattle.base.proofs.Lists.{filter_append}
use Rattle.base.proofs.Ranges.{map_range_suc}
use Rattle.tree.specs.Nodes.{first_byte, through, reaching}

-- a codeword that begins with e comes through it, another does not
pub through_hit : (e : ℕ) (w : List ℕ) (ws : List (List ℕ)) → first_byte w ≡ e → through e (w ∷ ws) ≡ tail w ∷ through e ws
through_hit e w ws q = rw (eq-eqb (first_byte w) e q)

pub through_miss : (e : ℕ) (w : List ℕ) (ws : List (List ℕ)) → (first_byte w ≡ e → ⊥) → through e (w ∷ ws) ≡ through e ws
through_miss e w ws n = rw (ne_eqb (first_byte w) e n)

-- of two lists
pub through_append : (e : ℕ) (us ws : List (List ℕ)) → through e (us ++ ws) ≡ through e us ++ through e ws
through_append e us ws =
    ap (map tail) (filter_append begins us ws) ∙ map-append tail (filter_by begins us) (filter_by begins ws)
  where
    begins : List ℕ → Bool
    begins w = eqb (first_byte w) e

-- as many come through e as begin with e
pub length_through : (e : ℕ) (ws : List (List ℕ)) → length (through e ws) ≡ count_of e (map first_byte ws)
length_through e [] = refl
length_through e (w ∷ ws) = go (eqb (first_byte w) e) (length_through e ws)
  where
    these : List (List ℕ)
    these = filter_by (λ (w : List ℕ). eqb (first_byte w) e) ws

    go : (t : Bool) → length (map tail these) ≡ count_of e (map first_byte ws) → length (map tail (cond t (w ∷ these) these)) ≡ cond t (suc (count_of e (map first_byte ws))) (count_of e (map first_byte ws))
    go true ih = ap suc ih
    go false ih = ih

-- what begins with e at position i goes on at the position that counts the e before it
pub through_at : (e : ℕ) (ws : List (List ℕ)) (i : ℕ) → i < length ws → first_byte (get_or ws i []) ≡ e
    → get_or (through e ws) (count_of e (take i (map first_byte ws))) [] ≡ tail (get_or ws i [])
through_at e [] i h q = absurd (omega arith)
through_at e (w ∷ ws) zero h q = ap (λ (x : List (List ℕ)). get_or x 0 []) (through_hit e w ws q)
through_at e (w ∷ ws) (suc i) h q = go (through_at e ws i (omega arith) q) (eqb (first_byte w) e)
  where
    these : List (List ℕ)
    these = filter_by (λ (w : List ℕ). eqb (first_byte w) e) ws

    n : ℕ
    n = count_of e (take i (map first_byte ws))

    go : get_or (map tail these) n [] ≡ tail (get_or ws i []) → (t : Bool) → get_or (map tail (cond t (w ∷ these) these)) (cond t (suc n) n) [] ≡ tail (get_or ws i [])
    go ih true = ih
    go ih false = ih

-- of codewords f 0, f 1, .. that begin with the bytes bs, those that begin with e go on as g 0, g 1, .. if each does at the number of e
-- before it
pub through_range : (e : ℕ) (bs : List ℕ) (f g : ℕ → List ℕ) → ((i : ℕ) → i < length bs → first_byte (f i) ≡ get_or bs i 0)
    → ((i : ℕ) → i < length bs → get_or bs i 0 ≡ e → tail (f i) ≡ g (count_of e (take i bs)))
    → (n : ℕ) → n ≤ length bs → through e (map f (range_from 0 n)) ≡ map g (range_from 0 (count_of e (take n bs)))
through_range e bs f g hf hg zero h = refl
through_range e bs f g hf hg (suc n) h =
    ap (through e) (map_range_suc f n) ∙ through_append e (map f (range_from 0 n)) (f n ∷ [])
    ∙ go (through_range e bs f g hf hg n (omega arith)) (same_or_not (first_byte (f n)) e)
  where
    l : n < length bs
    l = omega arith

    go : through e (map f (range_from 0 n)) ≡ map g (range_from 0 (count_of e (take n bs))) → (first_byte (f n) ≡ e) ⊎ (first_byte (f n) ≡ e → ⊥)
        → through e (map f (range_from 0 n)) ++ through e (f n ∷ []) ≡ map g (range_from 0 (count_of e (take (suc n) bs)))
    go ih (inl q) =
        let b : get_or bs n 0 ≡ e = sym (hf n l) ∙ q in
        rw (through_hit e (f n) [] q, count_hit e bs n l b, ih, hg n l b) (sym (map_range_suc g (count_of e (take n bs))))
    go ih (inr d) =
        rw (through_miss e (f n) [] d, count_miss e bs n l (λ b. d (hf n l ∙ b)), ih) (append-nil (map g (range_from 0 (count_of e (take n bs)))))

-- Q holds of all that come through e if it holds of the tail of each that begins with e and has P
pub all_through : (P Q : List ℕ → Type 0) (e : ℕ) → ((w : List ℕ) → first_byte w ≡ e → P w → Q (tail w)) → (ws : List (List ℕ)) → All P ws → All Q (through e ws)
all_through P Q e h [] a = tt
all_through P Q e h (w ∷ ws) a = go (all_through P Q e h ws a.1) (same_or_not (first_byte w) e)
  where
    go : All Q (through e ws) → (first_byte w ≡ e) ⊎ (first_byte w ≡ e → ⊥) → All Q (through e (w ∷ ws))
    go ih (inl q) = rw (through_hit e w ws q) (h w q a.0, ih)
    go ih (inr n) = rw (through_miss e w ws n) ih

-- ---- through the bytes of a path

-- one path after another
pub reaching_path : (p q : List ℕ) (ws : List (List ℕ)) → reaching (p ++ q) ws ≡ reaching q (reaching p ws)
reaching_path [] q ws = refl
reaching_path (e ∷ p) q ws = reaching_path p q (through e ws)

-- of two lists
pub reaching_append : (p : List ℕ) (us ws : List (List ℕ)) → reaching p (us ++ ws) ≡ reaching p us ++ reaching p ws
reaching_append [] us ws = refl
reaching_append (e ∷ p) us ws = ap (reaching p) (through_append e us ws) ∙ reaching_append p (through e us) (through e ws)

-- of no codewords
pub reaching_nil : (p : List ℕ) → reaching p [] ≡ []
reaching_nil [] = refl
reaching_nil (e ∷ p) = reaching_nil p

-- a codeword that begins with the path is left with what comes after it
pub reaching_own : (p r : List ℕ) → reaching p ((p ++ r) ∷ []) ≡ r ∷ []
reaching_own [] r = refl
reaching_own (e ∷ p) r = rw (through_hit e (e ∷ p ++ r) [] refl) (reaching_own p r)
