use Rattle.std.proofs.Common.{◌≡◌, ℕ, ◌+◌, ◌*◌, ◌≤◌, List, [], length, take, drop, sym, refl, ap, ◌∙◌, arith}
use Rattle.std.proofs.lemmas.List.{length-take-le, length-drop}
use Rattle.lines.specs.Reading.{line}
use Rattle.lines.proofs.Laying.{laid_none, laid_more, laid_at}
use Rattle.lines.proofs.RowsRead.{sofar_none, sofar_more, sofar_bad, sofar_good}
use Rattle.lines.proofs.lent.TablesMut.fill_quads.Goals as goal

pub loop-q-init : goal.loop-q-init
loop-q-init c =
    let t = c.args.self.now in
    record {
      row_long = refl;
      same = record { same_corners = refl; same_friends = refl; same_marks = refl; same_starts = refl };
      starts_kept = refl;
      laid = ([], sofar_none 48 49 8 c.args.counts.quads c.args.body.now, laid_none (λ ns. take 4 ns) 0 t.corners.now refl, laid_none (λ ns. take 2 (drop 4 ns)) 0 t.friends.now refl, laid_none (λ ns. take 2 (drop 6 ns)) 0 t.marks.now refl);
    }

pub returns-in_err-rest-clause-filled : goal.returns-in_err-rest-clause-filled
returns-in_err-rest-clause-filled c rows t e =
    let p = c.loop-q.invariant.laid in
    let w : length c.loop-q.row ≡ 8 = c.loop-q.invariant.row_long in
    let b = sofar_bad 48 49 8 c.args.counts.quads c.args.body.now p.0 c.loop-q.q c.loop-q.rest.now (omega arith) p.1 (ap (λ (k : ℕ). line 48 49 k c.loop-q.rest.now) (sym w) ∙ c.in_err-rest.ensures) in
    let z : ◌≡◌ {A = ℕ} 0 1 = cc in
    absurd (omega arith)

-- a part of a row of eight words is as long as it says
four : (ns : List ℕ) → length ns ≡ 8 → length (take 4 ns) ≡ 4
four ns e = length-take-le 4 ns (omega arith)

pair : (i : ℕ) (ns : List ℕ) → length ns ≡ 8 → i ≤ 6 → length (take 2 (drop i ns)) ≡ 2
pair i ns e h = let d = length-drop i ns in length-take-le 2 (drop i ns) (omega arith)

pub loop-q-preserved : goal.loop-q-preserved
loop-q-preserved c =
    let i = c.loop-q.invariant in
    let p = i.laid in
    let q = c.loop-q.q in
    let f = c.args.self.now in
    let t = c.loop-q.self in
    let out = c.read_line.new.out in
    let w : length c.loop-q.row ≡ 8 = i.row_long in
    let n : length out ≡ 8 = omega arith in
    let x = four out n in
    let y = pair 4 out n (omega arith) in
    let z = pair 6 out n (omega arith) in
    record {
      row_long = n;
      same = record { same_corners = i.same.same_corners; same_friends = i.same.same_friends; same_marks = i.same.same_marks; same_starts = i.same.same_starts };
      starts_kept = i.starts_kept;
      laid = (
        _,
        sofar_more 48 49 8 c.args.counts.quads c.args.body.now p.0 q c.loop-q.rest.now out c.in_ok-rest.rest.now (omega arith) p.1 (ap (λ (k : ℕ). line 48 49 k c.loop-q.rest.now) (sym w) ∙ c.in_ok-rest.ensures.0),
        laid_more (λ ns. take 4 ns) (4 * q) (4 * (q + 1)) p.0 out f.corners.now t.corners.now c.lay.new.table p.2 c.lay.ensures (omega arith),
        laid_more (λ ns. take 2 (drop 4 ns)) (2 * q) (2 * (q + 1)) p.0 out f.friends.now t.friends.now c.lay-in-loop-q.new.table p.3 c.lay-in-loop-q.ensures (omega arith),
        laid_more (λ ns. take 2 (drop 6 ns)) (2 * q) (2 * (q + 1)) p.0 out f.marks.now t.marks.now c.lay-in-loop-q-2.new.table p.4 c.lay-in-loop-q-2.ensures (omega arith),
      );
    }

pub returns-clause-filled : goal.returns-clause-filled
returns-clause-filled c rows t e =
    let p = c.loop-q.invariant.laid in
    let f = c.args.self.now in
    let g = sofar_good 48 49 8 c.args.counts.quads c.args.body.now p.0 c.loop-q.q c.loop-q.rest.now (omega arith) p.1 in
    let r : p.0 ≡ rows = cc in
    let u : c.loop-q.rest.now ≡ t = cc in (
      u,
      laid_at (λ ns. take 4 ns) (4 * c.loop-q.q) p.0 rows f.corners.now c.loop-q.self.corners.now p.2 r,
      laid_at (λ ns. take 2 (drop 4 ns)) (2 * c.loop-q.q) p.0 rows f.friends.now c.loop-q.self.friends.now p.3 r,
      laid_at (λ ns. take 2 (drop 6 ns)) (2 * c.loop-q.q) p.0 rows f.marks.now c.loop-q.self.marks.now p.4 r,
    )
