-- The digits of each kind of line.
use Rattle.std.specs.Prelude.{ℕ}
use Rattle.lines.specs.declared.kind.Kind.{Kind}
use Rattle.lines.specs.declared.kind.Kind.TheVariants.{Counts, Quad, Start, Refusal}

abbrev pub first_digit : Kind → ℕ
first_digit Counts = 48
first_digit Quad = 48
first_digit Start = 48
first_digit Refusal = 102

abbrev pub second_digit : Kind → ℕ
second_digit Counts = 48
second_digit Quad = 49
second_digit Start = 50
second_digit Refusal = 102
