use Rattle.std.proofs.Common.{◌≡◌, ℕ, ◌^◌, ◌<◌, ◌≤◌, List, length, get_or, take, refl, subst, arith}
use Rattle.std.proofs.lemmas.Grind.{common_steps}
use Rattle.lines.specs.Lines.{digit_of, Run}
use Rattle.lines.specs.Text.{digits}
use Rattle.lines.proofs.Words.{digit_inside, text_more, fits_more}
use Rattle.lines.proofs.frame.run.Goals as goal

pub loop-i-init : goal.loop-i-init
unfolding digits
loop-i-init c = (omega arith, refl, omega arith)

pub loop-i-preserved : goal.loop-i-preserved
loop-i-preserved c =
    let d : (c.in-Some.d ≡ digit_of (get_or c.args.s.now c.loop-i.i 0)) × (c.in-Some.d < 16) = grind (arith, common_steps) in
    let k : digit_of (get_or c.args.s.now c.loop-i.i 0) < 16 = omega arith in
    let h = digit_inside c.args.s.now c.loop-i.i k in
    rw d.0
    (omega arith, text_more c.args.s.now c.loop-i.n c.loop-i.i h k c.loop-i.invariant.1, fits_more c.loop-i.n c.loop-i.i _ c.loop-i.invariant.2 k)

-- after the loop i is 7
seven : (s : List ℕ) (n i : ℕ) → i ≡ 7 → (i ≤ length s) × (take i s ≡ digits i n) × (n < 16 ^ i) → Run s n 7
seven s n i e h =
    let P : ℕ → Type 0 = λ k. (k ≤ length s) × (take k s ≡ digits k n) × (n < 16 ^ k) in
    let g = subst P e h in
    record { few = omega arith; inside = g.0; text = g.1; fits = g.2; last = λ z. absurd (omega arith) }

pub returns : goal.returns
returns c = seven c.args.s.now c.loop-i.n c.loop-i.i (omega arith) c.loop-i.invariant
