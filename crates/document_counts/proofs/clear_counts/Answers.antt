use Rattle.std.proofs.Common.{◌≡◌, ℕ, map, List, ◌++◌, ◌∷◌, drop, replicate, refl, sym, ap, ◌∙◌, arith, zero, suc}
use Rattle.std.proofs.Math.Seq.{length-take-le}
use Rattle.base.specs.Lists.{range_from}
use Rattle.base.proofs.Ranges.{length_map_range}
use Rattle.base.proofs.Fronts.{front_is}
use Rattle.document_counts.proofs.clear_counts.Goals as goal

zeros : (a n : ℕ) → map {A = ℕ} {B = ℕ} (λ k. 0) (range_from a n) ≡ replicate n 0
zeros a zero = refl
zeros a (suc n) = ap (λ (xs : List ℕ). 0 ∷ xs) (zeros (suc a) n)

pub returns : goal.returns
returns c =
    let z = c.args.counts.now in
    let n = c.args.size in
    let e : c.fill.new.self ≡ map {A = ℕ} {B = ℕ} (λ k. 0) (range_from 0 n) = c.fill.ensures.after (λ y same. same) ∙ ap (λ (m : ℕ). replicate m 0) (length-take-le n z (omega arith)) ∙ sym (zeros 0 n) in
    ap (λ (xs : List ℕ). xs ++ drop n z) e
    ∙ sym (front_is (map {A = ℕ} {B = ℕ} (λ k. 0) (range_from 0 n)) z ∙ ap (λ (m : ℕ). map {A = ℕ} {B = ℕ} (λ k. 0) (range_from 0 n) ++ drop m z) (length_map_range (λ k. 0) 0 n))
