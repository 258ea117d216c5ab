-- The product stays below 2 ^ 52 either way, and so the sum below 2 ^ 53.
use Rattle.std.proofs.Common.{◌≡◌, ◌+◌, ◌*◌, ◌≤◌, pos, ◌+ℤ◌, ◌*ℤ◌, nat_abs, sym, ◌∙◌, subst, ap₂, le_refl, arith, w32, w64, SFits, to_z, of_z}
use borrow.Author.Differences.{ints}
use Rattle.std.proofs.lemmas.Int.{to_z-of_z}
use Rattle.attributes.specs.Limit.{farthest}
use Rattle.attributes.specs.Limits.{product_small, sum_small}
use Rattle.attributes.proofs.coordinates.blend.more.Goals as goal

product : (c : goal.After-from-2) → to_z w64 (of_z w64 c.from.result) *ℤ to_z w64 (of_z w64 c.from-2.result) ≡ pos c.args.times *ℤ c.args.at
product c =
    ap₂ ◌*ℤ◌
    (to_z-of_z w64 _ (record { sfits = c.from.type_inv }) ∙ c.from.ensures)
    (to_z-of_z w64 _ (record { sfits = c.from-2.type_inv }) ∙ c.from-2.ensures ∙ to_z-of_z w32 _ c.ranges.at)

pub overflow_mul-result : goal.overflow_mul-result
overflow_mul-result c =
    subst (SFits w64) (sym (product c)) (omega (arith, ints, product_small c.args.times c.args.at c.requires.limited))

pub overflow_add-result : goal.overflow_add-result
overflow_add-result c =
    subst (λ p. SFits w64 (to_z w64 (of_z w64 c.args.sum) +ℤ to_z w64 (of_z w64 p))) (sym (product c))
    (omega (arith, ints, product_small c.args.times c.args.at c.requires.limited))

pub returns : goal.returns
returns c =
    let small = product_small c.args.times c.args.at c.requires.limited in
    let e : to_z w64 (of_z w64 (to_z w64 (of_z w64 c.args.sum) +ℤ to_z w64 (of_z w64 (to_z w64 (of_z w64 c.from.result) *ℤ to_z w64 (of_z w64 c.from-2.result))))) ≡ c.args.sum +ℤ pos c.args.times *ℤ c.args.at
    = subst (λ p. to_z w64 (of_z w64 (to_z w64 (of_z w64 c.args.sum) +ℤ to_z w64 (of_z w64 p))) ≡ c.args.sum +ℤ pos c.args.times *ℤ c.args.at) (sym (product c)) (omega (arith, ints)) in
    record {
      is = e;
      grows = subst (λ r. nat_abs r ≤ nat_abs c.args.sum + farthest * c.args.times) (sym e) (sum_small c.args.sum (pos c.args.times *ℤ c.args.at) _ _ (le_refl _) small);
    }
