-- Text that is written into a lent buffer.
use Rattle.std.specs.Prelude.{◌≡◌, ℕ, ◌+◌, ◌<◌, ◌≤◌, List, ◌++◌, length, take, drop, Ok, Err, Result}
use Rattle.mesh.specs.declared.fault.Fault.{Fault}
use Rattle.mesh.specs.declared.fault.Fault.TheVariants.{TooShort}
use Rattle.text.specs.declared.put.Writer.{Writer}

-- The buffer e with the text t written from `at` on, and no other byte changed; `end` is the place after it, and o the buffer then.
pub record Put (e : List ℕ) (at : ℕ) (t : List ℕ) (end : ℕ) (o : List ℕ) : Type 0 where
  pub place : end ≡ at + length t
  pub inside : end ≤ length e
  pub text : o ≡ take at e ++ (t ++ drop end e)

-- What writing a text answers: its length, with the text in the front of the buffer and nothing else changed; or, where the buffer is too short, that, and nothing is changed.
abbrev pub Written : List ℕ → List ℕ → List ℕ → Result ℕ Fault → Type 0
Written t e o (Ok n) = (length t ≤ length e) × Put e 0 t n o
Written t e o (Err f) = (f ≡ TooShort) × (length e < length t) × (o ≡ e)

-- the buffer has n bytes or more from the writer's place on
abbrev pub Room : Writer → ℕ → Type 0
Room v n = v.at + n ≤ length v.out.now

-- the text t was written by the writer v, which is w then and holds the same buffer
pub record Wrote (v : Writer) (t : List ℕ) (w : Writer) : Type 0 where
  pub same : w.out.ghost_name ≡ v.out.ghost_name
  pub put : Put v.out.now v.at t w.at w.out.now
