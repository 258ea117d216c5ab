use Rattle.std.proofs.Common.{◌≡◌, ℕ, ◌<◌, Bool, true, false, eqb, List, length, sym, ap, ◌∙◌, arith}
use Rattle.std.proofs.lemmas.List.{nil_from_length}
use Rattle.std.proofs.lemmas.Result.{err_from_is_err_and}
use Rattle.std.proofs.lemmas.Bool.Decides.{nat_tests}
use Rattle.lines.specs.Reading.{refused, good}
use Rattle.lines.proofs.Bodies.{quad_missing, start_missing, all_there, surplus}
use Rattle.lines.proofs.reader.judge.Goals as goal

pub returns-in_err-starts : goal.returns-in_err-starts
returns-in_err-starts c =
    let p = err_from_is_err_and c.from_residual.result c.from_residual.ensures.1 in
    let h = c.in_err-starts.ensures in
    rw (p.1, p.2) (quad_missing c.args.counts.quads c.args.counts.points c.args.body.now h.0 h.2 ∙ ap refused (sym h.1))

pub returns-in_err-rest : goal.returns-in_err-rest
returns-in_err-rest c =
    let p = err_from_is_err_and c.from_residual-in_err-rest.result c.from_residual-in_err-rest.ensures.1 in
    let q = c.in_ok-starts.ensures in
    let h = c.in_err-rest.ensures in
    rw (p.1, p.2) (start_missing c.args.counts.quads c.args.counts.points c.args.body.now q.0 c.in_ok-starts.starts.now q.1 h.0 h.2 ∙ ap refused (sym h.1))

some_left : (w : List ℕ) (r : Bool) → r ≡ eqb (length w) 0 → r ≡ false → 0 < length w
some_left w r e f = grind (arith, nat_tests)

none_left : (w : List ℕ) (r : Bool) → r ≡ eqb (length w) 0 → r ≡ true → length w ≡ 0
none_left w r e f = grind (arith, nat_tests)

pub returns-then-not-is_empty : goal.returns-then-not-is_empty
returns-then-not-is_empty c =
    let q = c.in_ok-starts.ensures in
    let s = c.in_ok-rest.ensures in
    surplus c.args.counts.quads c.args.counts.points c.args.body.now q.0 c.in_ok-starts.starts.now q.1 s.0 c.in_ok-rest.rest.now s.1
    (some_left c.in_ok-rest.rest.now c.is_empty.result c.is_empty.ensures c.if-not-is_empty.true)

pub returns : goal.returns
returns c =
    let q = c.in_ok-starts.ensures in
    let s = c.in_ok-rest.ensures in
    let rest = c.in_ok-rest.rest.now in
    let z = nil_from_length rest (none_left rest c.is_empty.result c.is_empty.ensures c.if-not-is_empty.false) in
    (_, all_there c.args.counts.quads c.args.counts.points c.args.body.now q.0 c.in_ok-starts.starts.now q.1 s.0 (s.1 ∙ ap (good s.0) z))
