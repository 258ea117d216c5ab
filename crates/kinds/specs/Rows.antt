-- What making a value answers.
use Rattle.std.specs.Prelude.{ℕ, Ok, Err, Result}
use Rattle.mesh.specs.declared.fault.Fault.{Fault}
use Rattle.mesh.specs.declared.fault.Fault.TheVariants.{NoValue}

-- the value, or the refusal that names the component at fault
abbrev pub with_fault : {V : Type 0} → Result V ℕ → Result V Fault
with_fault (Ok v) = Ok v
with_fault (Err component) = Err (NoValue component)
