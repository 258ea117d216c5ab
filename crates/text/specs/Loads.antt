-- What loading from a text answers.
use Rattle.std.specs.Prelude.{◌≡◌, ℕ, List, Some, Ok, Err, Result}
use Rattle.mesh.specs.Mesh.{Mesh}
use Rattle.mesh.specs.Refusals.{Verdict, fine, declined, number_of, place_of}
use Rattle.mesh.specs.declared.fault.Fault.{Fault}
use Rattle.lines.specs.Laws.{TextOf}
use Rattle.lines.specs.Reading.{Reading, accepted, refused}
use Rattle.chain.specs.Calls.{State}
use Rattle.text.specs.declared.load.TextFault.{TextFault}
use Rattle.text.specs.declared.load.TextFault.TheVariants.{Unread, Unloaded}

abbrev pub fault_in : TextFault → Fault
fault_in (Unread f) = f
fault_in (Unloaded f) = f

abbrev pub told_text : {A : Type 0} → Result A TextFault → Verdict
told_text (Ok x) = fine
told_text (Err t) = declined (number_of (fault_in t)) (place_of (fault_in t))

-- whose refusal it is: reading's exactly where the text was not read
abbrev pub Whose : {A : Type 0} → Reading → Result A TextFault → Type 0
Whose r (Ok x) = (m : Mesh) × (r ≡ accepted m)
Whose r (Err (Unread f)) = r ≡ refused f
Whose r (Err (Unloaded f)) = (m : Mesh) × (r ≡ accepted m)

-- a text that was loaded is the text of the level that then stands, so writing that level gives the same bytes
abbrev pub Loaded : {A : Type 0} → List ℕ → State → Result A TextFault → Type 0
Loaded bytes s (Ok x) = (m : Mesh) × (s.standing ≡ Some m) × TextOf m bytes
Loaded bytes s (Err t) = Unit {0}
