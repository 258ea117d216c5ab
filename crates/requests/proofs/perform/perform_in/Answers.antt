use Rattle.std.proofs.Common.{◌≡◌, ◌<◌, ◌≤◌, [], get_or, length, map, take, refl, ap, ◌∙◌, arith}
use Rattle.std.proofs.lemmas.List.{length-take}
use Rattle.requests.specs.Sessions.{beside, play, plays, reply_of, told_reply}
use Rattle.requests.proofs.Rows.{front_is, turn, kept_more, ended, given}
use Rattle.requests.proofs.perform.perform_in.Goals as goal

pub loop-i-init : goal.loop-i-init
loop-i-init g c = record { same_end = refl; given = record { answers = []; say = refl; kept = refl; rest = refl } }

pub loop-i-preserved : goal.loop-i-preserved
loop-i-preserved g c =
    let asks = g.F.Form.asks c.args.form.now in
    let rs = take c.min.result c.args.rows.now in
    let row = c.index-asked-i.result in
    let i = c.loop-i.i in
    let t = beside c.loop-i.bench c.loop-i.held in
    let u = beside c.ask-slip.new.bench c.ask-slip.result.0 in
    let l = length-take c.min.result c.args.rows.now in
    let room : i < length c.loop-i.answers = omega arith in
    let step : u ≡ play t (asks (get_or rs i row)) = cc in
    let said : told_reply c.ask-slip.result.1 ≡ reply_of t.bench t.held (asks (get_or rs i row)) = cc in
    record {
      same_end = turn asks t u rs i row c.loop-i-test.true step _ c.loop-i.invariant.same_end;
      given =
          rw c.kept.ensures
          (kept_more asks t u rs i row c.loop-i-test.true step g.F.Form.keeps _ c.loop-i.answers c.args.answers.now c.ask-slip.result.1 room said c.loop-i.invariant.given);
    }

pub returns : goal.returns
returns g c =
    let asks = g.F.Form.asks c.args.form.now in
    let rs = take c.min.result c.args.rows.now in
    let t = beside c.loop-i.bench c.loop-i.held in
    let first = beside c.args.bench.now c.args.held in
    let l = length-take c.min.result c.args.rows.now in
    let room : c.loop-i.i ≤ length c.loop-i.answers = omega arith in
    let is = front_is c.args.rows.now (length c.args.answers.now) c.min.result c.min.ensures in
    record {
      after = ended asks t _ rs c.loop-i.i c.loop-i-test.false c.loop-i.invariant.same_end ∙ ap (λ x. plays first (map asks x)) is;
      gave = rw (← is) (given asks g.F.Form.keeps t rs _ c.loop-i.answers c.args.answers.now c.loop-i.i c.loop-i-test.false room c.loop-i.invariant.given);
    }
