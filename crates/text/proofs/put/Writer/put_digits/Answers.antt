use Rattle.std.proofs.Common.{ℕ, ◌-◌, ◌/◌, set, sym, refl, subst, arith}
use Rattle.text.proofs.Writes.{DigitsFrom, digits_first, digits_next, digits_last}
use Rattle.text.proofs.put.Writer.put_digits.Goals as goal

pub loop-place-init : goal.loop-place-init
loop-place-init c = record { same = refl; digits = digits_first c.args.self.now.out.now c.args.self.now.at c.args.count c.args.n (omega (arith, c.requires)) }

pub loop-place-preserved : goal.loop-place-preserved
loop-place-preserved c =
    let i = c.loop-place.invariant in
    let v = c.args.self.now in
    let p = c.loop-place.place in
    let P : ℕ → Type 0 = λ b. DigitsFrom v.out.now v.at c.args.count c.args.n (p - 1) (c.loop-place.left / 16) (set c.loop-place.self.out.now (p - 1) b) in
    let d = digits_next v.out.now v.at c.args.count c.args.n p c.loop-place.left c.loop-place.self.out.now (p - 1) (omega arith) (omega arith) i.digits in
    record { same = i.same; digits = subst P (sym c.hex.ensures) d }

pub returns : goal.returns
returns c =
    let i = c.loop-place.invariant in
    let v = c.args.self.now in
    record { same = i.same; put = digits_last v.out.now v.at c.args.count c.args.n c.loop-place.place c.loop-place.left c.loop-place.self.out.now (omega arith) i.digits }
