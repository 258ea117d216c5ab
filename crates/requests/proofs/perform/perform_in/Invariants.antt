use Rattle.std.proofs.Common.{◌≡◌, drop}
use Rattle.requests.specs.Sessions.{beside}
use Rattle.requests.proofs.Rows.{Given, ends, gives}
use Rattle.requests.proofs.perform.perform_in.Given as goal

-- what is left of the rows, asked from here, ends where all of them do, and gives the rest of the answers
abbrev pub invariant-loop-i : goal.invariant-loop-i
invariant-loop-i g l =
    let asks = g.F.Form.asks l.form in
    let first = beside l.initial.bench l.initial.held in
    let here = beside l.bench l.held in
    let rest = drop l.i l.asked in
    record {
      same_end : ends asks here rest ≡ ends asks first l.asked;
      given : Given g.F.Form.keeps (gives asks here rest) (gives asks first l.asked) l.i l.initial.answers l.answers;
    }
