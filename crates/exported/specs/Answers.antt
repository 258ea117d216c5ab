-- Answers in the form in which they cross to another language: numbers alone.
use Rattle.std.specs.Prelude.{◌≡◌, List, Ok, Err, Result}
use Rattle.mesh.specs.Refusals.{Verdict, fine, declined, number_of, place_of}
use Rattle.mesh.specs.declared.fault.Fault.{Fault}
use Rattle.lines.specs.declared.reader.Counts.{Counts}
use Rattle.exported.specs.declared.Refusal.{Refusal}
use Rattle.exported.specs.declared.Found.{Found}

-- the number and the place of a refusal, and 0 twice for none
abbrev pub refusal_of : Verdict → Refusal
refusal_of fine = record { number = 0; place = 0 }
refusal_of (declined k p) = record { number = k; place = p }

-- the counts of a text, or the number and the place of its refusal
abbrev pub found_of : Result Counts Fault → Found
found_of (Ok c) = record { number = 0; place = 0; quads = c.quads; points = c.points }
found_of (Err f) = record { number = number_of f; place = place_of f; quads = 0; points = 0 }

-- a lent slice holds what is written, or what it held where the call is refused
abbrev pub Becomes : {A : Type 0} → Verdict → List A → List A → List A → Type 0
Becomes fine entry written exit = exit ≡ written
Becomes (declined k p) entry written exit = exit ≡ entry
