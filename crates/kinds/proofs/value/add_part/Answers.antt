use Rattle.std.proofs.Common.{◌++◌, sym, subst, arith}
use Rattle.std.proofs.lemmas.Bool.{cond-true, lt-ltb}
use Rattle.kinds.proofs.value.add_part.Goals as goal

pub returns-then-weight-ne0-clause-adds : goal.returns-then-weight-ne0-clause-adds
returns-then-weight-ne0-clause-adds g c = λ ps h few.
    subst (λ qs. g.K.ValueKind.holds c.add.new.mix (ps ++ qs)) (sym (cond-true _ _ _ (lt-ltb 0 c.args.weight (omega arith)))) (c.add.ensures.adds ps h few)
