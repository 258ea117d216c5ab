-- The promise call by call, for the contracts of code.
use Rattle.std.specs.Prelude.{◌≡◌, ℕ, List, [], ◌∷◌}
use Rattle.mesh.specs.Mesh.{Mesh}
use Rattle.mesh.specs.Refusals.{Verdict, declined, number_of, place_of}
use Rattle.mesh.specs.declared.fault.Fault.{Fault}
use Rattle.lines.specs.Reading.{Room, accepted, refused, reading}
use Rattle.chain.specs.Calls.{Call, load, load_text, State, refusal, next, made}
use Rattle.chain.specs.History.{carried_out}
use Rattle.chain.specs.Promise.{Promise}

-- If the promise held of a bench after any calls, it holds after this one more.
unfoldable pub GoesOn : State → Call → State → Type 0
GoesOn entry c exit =
    (words mark : ℕ) (calls : List Call) →
    Promise words mark (carried_out words mark calls) entry → Promise words mark (carried_out words mark (c ∷ calls)) exit

-- The making of a bench.
pub record Made (words mark : ℕ) (bench : State) : Type 0 where
  pub is : bench ≡ made words mark
  pub holds : Promise words mark [] bench

-- A call: the refusal that it answers, if any, what it leaves, and that the promise goes on.
pub record Called (entry : State) (c : Call) (exit : State) (answer : Verdict) : Type 0 where
  pub answers : answer ≡ refusal entry c
  pub leaves : exit ≡ next entry c
  pub goes_on : GoesOn entry c exit

-- Several calls, in the order in which they are made: what they leave, and the same list with the latest first.
abbrev pub run_on : State → List Call → State
run_on s [] = s
run_on s (c ∷ cs) = run_on (next s c) cs

abbrev pub on_top : List Call → List Call → List Call
on_top [] before = before
on_top (c ∷ cs) before = on_top cs (c ∷ before)

unfoldable pub GoesOnThrough : State → List Call → State → Type 0
GoesOnThrough entry cs exit =
    (words mark : ℕ) (before : List Call) →
    Promise words mark (carried_out words mark before) entry → Promise words mark (carried_out words mark (on_top cs before)) exit

-- Those calls on a bench that was just made.
abbrev pub After : ℕ → ℕ → List Call → State → Type 0
After words mark cs bench = Promise words mark (carried_out words mark (on_top cs [])) bench

-- A bench that is made and only called keeps the promise.
pub record CallByCall : Type 0 where
  pub when_made : (words mark : ℕ) → Made words mark (made words mark)
  pub each_call : (s : State) (c : Call) → Called s c (next s c) (refusal s c)
  pub any_calls : (s : State) (cs : List Call) → GoesOnThrough s cs (run_on s cs)
  pub from_the_making : (words mark : ℕ) (cs : List Call) → After words mark cs (run_on (made words mark) cs)

-- A text that is read is loaded as its tables are, and one that is not is refused with what reading says.
abbrev pub load_of : Mesh → Call
load_of m = load m.corners m.friends m.marks m.starts

pub record TextRight (s : State) (bytes : List ℕ) (room : Room) : Type 0 where
  pub read_answers : (m : Mesh) → reading bytes room ≡ accepted m → refusal s (load_text bytes room) ≡ refusal s (load_of m)
  pub read_leaves : (m : Mesh) → reading bytes room ≡ accepted m → next s (load_text bytes room) ≡ next s (load_of m)
  pub unread_answers : (f : Fault) → reading bytes room ≡ refused f → refusal s (load_text bytes room) ≡ declined (number_of f) (place_of f)
  pub unread_leaves : (f : Fault) → reading bytes room ≡ refused f → next s (load_text bytes room) ≡ s

abbrev pub TextsLoadAsTables : Type 0
TextsLoadAsTables = (s : State) (bytes : List ℕ) (room : Room) → TextRight s bytes room
