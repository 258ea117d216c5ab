use Rattle.std.proofs.Common.{◌≡◌, ℕ, [], List, ◌++◌, length, take, drop, refl, sym, ap, ◌∙◌, arith}
use Rattle.std.specs.List.{flat_map}
use Rattle.std.proofs.lemmas.List.{take_all, take_more_set, flat_map_more, length-take-le}
use Rattle.lines.specs.Reading.{laid}
use Rattle.lines.proofs.RowsRead.{one_word, sofar_none, sofar_more, sofar_bad, sofar_good}
use Rattle.lines.proofs.lent.fill_starts.Goals as goal

pub loop-start-init : goal.loop-start-init
loop-start-init c = ([], sofar_none 48 50 1 c.args.count c.args.text.now, refl)

pub returns-in_err-rest : goal.returns-in_err-rest
returns-in_err-rest c rows t e =
    let p = c.loop-start.invariant in
    let l = length-take-le c.args.count c.args.starts.now c.requires in
    let b = sofar_bad 48 50 1 c.args.count c.args.text.now p.0 c.loop-start.start-index c.loop-start.rest.now (omega arith) p.1 (rw c.from_mut.ensures.len at c.in_err-rest.ensures) in
    let z : ◌≡◌ {A = ℕ} 0 1 = cc in
    absurd (omega arith)

pub loop-start-preserved : goal.loop-start-preserved
loop-start-preserved c =
    let p = c.loop-start.invariant in
    let i = c.loop-start.start-index in
    let xs = c.loop-start.start-items in
    let out = c.read_line.new.out in
    let l = length-take-le c.args.count c.args.starts.now c.requires in (
      _,
      sofar_more 48 50 1 c.args.count c.args.text.now p.0 i c.loop-start.rest.now out c.in_ok-rest.rest.now (omega arith) p.1 (rw c.from_mut.ensures.len at c.in_ok-rest.ensures.0),
      take_more_set xs i _ (omega arith)
          ∙ ap (λ (x : List ℕ). take i xs ++ x) (one_word out _ (omega arith))
          ∙ ap (λ (x : List ℕ). x ++ out) p.2
          ∙ flat_map_more (λ ns. ns) [] p.0 out,
    )

pub returns : goal.returns
returns c rows t e =
    let p = c.loop-start.invariant in
    let i = c.loop-start.start-index in
    let xs = c.loop-start.start-items in
    let starts = c.args.starts.now in
    let l = length-take-le c.args.count starts c.requires in
    let g = sofar_good 48 50 1 c.args.count c.args.text.now p.0 i c.loop-start.rest.now (omega arith) p.1 in
    let r : p.0 ≡ rows = cc in
    let n : c.args.count ≡ length xs = omega arith in
    let w : xs ≡ flat_map (λ ns. ns) rows = sym (take_all i xs (omega arith)) ∙ p.2 ∙ ap (λ (x : List (List ℕ)). flat_map (λ ns. ns) x) r in
    (refl, ap (λ (k : ℕ). xs ++ drop k starts) n ∙ ap (λ (x : List ℕ). laid x starts) w)
