use Rattle.std.proofs.Common.{◌≡◌, ℕ, ◌+◌, Err, Option, sym, ap, ◌∙◌, arith}
use Rattle.std.specs.Option.{ok_or}
use Rattle.std.proofs.lemmas.List.{length-replicate}
use Rattle.std.proofs.lemmas.Option.{MatchOption-at_some, MatchOption-at_none}
use Rattle.std.proofs.lemmas.Result.{err_from_is_err_and}
use Rattle.mesh.specs.declared.fault.Fault.TheVariants.{BadLine}
use Rattle.lines.specs.Kinds.{first_digit, second_digit}
use Rattle.lines.specs.Reading.{line}
use Rattle.lines.proofs.RowsRead.{sofar_none, sofar_more, sofar_bad, sofar_good}
use Rattle.lines.proofs.reader.judge_lines.Goals as goal

pub loop-line-init : goal.loop-line-init
loop-line-init g c = (length-replicate g.row.WORDS 0, (0, omega arith, _, sofar_none (first_digit c.args.kind) (second_digit c.args.kind) g.row.WORDS c.args.count c.args.text.now))

pub whole_as_slice-read_line : goal.whole_as_slice-read_line
whole_as_slice-read_line g c = let h = c.requires.few in omega arith

pub returns-in_err-rest : goal.returns-in_err-rest
returns-in_err-rest g c =
    let p = c.loop-line.invariant.1 in
    let k = p.0 in
    let a = first_digit c.args.kind in
    let b = second_digit c.args.kind in
    let r = err_from_is_err_and c.from_residual.result c.from_residual.ensures.1 in
    let o = c.in_err-rest.ensures in
    let bad_line = BadLine c.loop-line.line in
    let v : Err c.in_err-rest.field-0.0 ≡ Err bad_line = o.value ∙ ap (λ (x : Option _). ok_or x bad_line) o.ok_part in
    let f : c.in_err-rest.field-0.0 ≡ bad_line = cc in
    let none = MatchOption-at_none _ _ o.ok_part c.read_line.ensures in
    rw (r.1, r.2)
    (k, f ∙ ap BadLine p.1, sofar_bad a b g.row.WORDS c.args.count c.args.text.now p.2 k c.loop-line.rest.now (omega arith) p.3 (ap (λ (n : ℕ). line a b n c.loop-line.rest.now) (sym c.loop-line.invariant.0) ∙ none))

pub loop-line-preserved : goal.loop-line-preserved
loop-line-preserved g c =
    let p = c.loop-line.invariant.1 in
    let k = p.0 in
    let a = first_digit c.args.kind in
    let b = second_digit c.args.kind in
    let found = MatchOption-at_some _ _ _ c.in_ok-rest.ensures.ok_part c.read_line.ensures in
    (omega arith, (k + 1, omega arith, _, sofar_more a b g.row.WORDS c.args.count c.args.text.now p.2 k c.loop-line.rest.now c.read_line.new.out c.in_ok-rest.rest.now (omega arith) p.3 (ap (λ (n : ℕ). line a b n c.loop-line.rest.now) (sym c.loop-line.invariant.0) ∙ found.0)))

pub returns : goal.returns
returns g c =
    let p = c.loop-line.invariant.1 in
    (p.2, sofar_good (first_digit c.args.kind) (second_digit c.args.kind) g.row.WORDS c.args.count c.args.text.now p.2 p.0 c.loop-line.rest.now (omega arith) p.3)
