use Rattle.std.proofs.Common.{refl, arith}
use Rattle.chain.specs.Calls.{begin as begin_call}
use Rattle.bench.proofs.Steps.{refused_at, too_large, too_few, begin_carried}
use Rattle.bench.proofs.Keeps.{begin_keeps}
use Rattle.bench.proofs.bench.Bench.begin.Goals as goal

pub returns-in-Working-clause-call : goal.returns-in-Working-clause-call
returns-in-Working-clause-call c =
    let b = c.args.self.now in
    refused_at b.mark b.words.cells.now b.stage _ c.in-Working.is begin_call 11 0 refl

pub returns-in-Empty-clause-call : goal.returns-in-Empty-clause-call
returns-in-Empty-clause-call c =
    let b = c.args.self.now in
    refused_at b.mark b.words.cells.now b.stage _ c.in-Empty.is begin_call 12 0 refl

pub returns-then-size-gt-MOST_QUADS-clause-call : goal.returns-then-size-gt-MOST_QUADS-clause-call
returns-then-size-gt-MOST_QUADS-clause-call c =
    let b = c.args.self.now in
    too_large b.mark b.words.cells.now b.stage _ c.in-Standing.is (omega arith)

pub returns-then-self-words_to_begin-clause-call : goal.returns-then-self-words_to_begin-clause-call
returns-then-self-words_to_begin-clause-call c =
    let b = c.args.self.now in
    too_few b.mark b.words.cells.now b.stage _ c.in-Standing.is (omega arith) (omega arith)

pub invariant_of-self : goal.invariant_of-self
invariant_of-self c =
    let b = c.args.self.now in
    begin_keeps b.mark b.words.cells.now _ _ b.stage c.in-Standing.is b.lawful (omega arith) (omega arith) c.blank.ensures

pub returns-else-self-words_to_begin-clause-call : goal.returns-else-self-words_to_begin-clause-call
returns-else-self-words_to_begin-clause-call c =
    let b = c.args.self.now in
    begin_carried b.mark b.words.cells.now b.stage _ _ c.in-Standing.is (omega arith) (omega arith) c.blank.ensures
