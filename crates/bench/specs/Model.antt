-- The state of a bench, and what an answer says: a file of its own, since it names the structs, and a struct's ghost fields cite State.
use Rattle.std.specs.Prelude.{◌≡◌, ℕ, Ok, Err, Result}
use Rattle.mesh.specs.Refusals.{Verdict, fine, declined, number_of, place_of}
use Rattle.mesh.specs.declared.fault.Fault.{Fault}
use Rattle.chain.specs.Calls.{State}
use Rattle.bench.specs.State.{bench_at}
use Rattle.bench.specs.declared.bench.Bench.{Bench}
use Rattle.bench.specs.declared.bench.slip.Slip.{Slip}
use Rattle.bench.specs.declared.bench.slip.Declined.{Declined}

abbrev pub state : Bench → State
state b = bench_at b.stage b.mark b.words.cells.now

-- the slip that is handed out bears the mark number m
abbrev pub Bears : Result Slip Fault → ℕ → Type 0
Bears (Ok s) m = s.mark ≡ m
Bears (Err f) m = Unit {0}

-- the number that is answered is n
abbrev pub Counts : Result ℕ Fault → ℕ → Type 0
Counts (Ok k) n = k ≡ n
Counts (Err f) n = Unit {0}

-- what a finish or a withdraw answers, and that a refused slip comes back with its mark number m
abbrev pub told_slip : {A : Type 0} → Result A Declined → Verdict
told_slip (Ok x) = fine
told_slip (Err d) = declined (number_of d.fault) (place_of d.fault)

abbrev pub ComesBack : {A : Type 0} → Result A Declined → ℕ → Type 0
ComesBack (Ok x) m = Unit {0}
ComesBack (Err d) m = d.slip.mark ≡ m
