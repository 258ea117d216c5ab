use Rattle.std.proofs.Common.{◌≡◌, ◌*◌, pos, ◌+ℤ◌, ◌*ℤ◌, sym, ap, ◌∙◌, subst, ap₂, arith, lit≤, w32, w64, to_z, of_z}
use borrow.Author.Differences.{ints}
use Rattle.std.specs.Int.{int_div_euclid}
use Rattle.attributes.specs.Coordinates.{quotient_limited}
use Rattle.attributes.specs.Limit.{Limited}
use Rattle.attributes.specs.Nearest.{nearest, nearest_none}
use Rattle.attributes.proofs.rounding.rounded.Goals as goal

quotient : (c : goal.After-floor_over) → c.floor_over.result ≡ nearest c.args.sum c.args.over
unfolding nearest
quotient c =
    let w = c.from.result in
    let top : to_z w64 (of_z w64 (to_z w64 (of_z w64 (pos 2 *ℤ to_z w64 (of_z w64 c.args.sum))) +ℤ to_z w64 (of_z w64 w))) ≡ pos 2 *ℤ c.args.sum +ℤ pos c.args.over = omega (arith, ints) in
    c.floor_over.ensures ∙ ap (λ z. int_div_euclid z (pos (2 * c.args.over))) top

small : (c : goal.After-floor_over) → Limited c.floor_over.result
small c =
    subst Limited (sym (quotient c))
    (quotient_limited c.args.sum c.args.over (omega (arith, ints)) (omega (arith, ints)))

pub overflow_cast-result : goal.overflow_cast-result
overflow_cast-result c = omega (arith, ints, small c)

pub returns : goal.returns
returns c =
    let back : to_z w32 (of_z w32 (to_z w64 (of_z w64 c.floor_over.result))) ≡ c.floor_over.result = omega (arith, ints, small c) in
    record { is = back ∙ quotient c; limited = subst Limited (sym back) (small c) }

pub returns-then-over-eq0 : goal.returns-then-over-eq0
returns-then-over-eq0 c =
    let e : c.args.sum ≡ pos 0 = omega (arith, ints) in
    record { is = sym (ap₂ nearest e c.if-over-eq0.true ∙ nearest_none); limited = lit≤ tt }
