-- A mesh is lawful in one way at most, so what a type's invariant says of it without showing how can be used for all.
use Rattle.std.proofs.Common.{ℕ, ap, inl, inr, arith}
use Rattle.std.proofs.Props.{props}
use mathlib.Core.Logic.{∥∥₁_elim}
use native.Mathlib.Bridge.{le_prop}
use native.Mathlib.Nat.{ℕ_set}
use Rattle.mesh.specs.Marks.{MarkWord}
use Rattle.mesh.specs.Mesh.{Mesh, Lawful}

pub mark_once : (w : ℕ) → IsProp (MarkWord w)
mark_once w (inl a) (inl b) = ap inl (le_prop a b)
mark_once w (inl a) (inr b) = absurd (omega arith)
mark_once w (inr a) (inl b) = absurd (omega arith)
mark_once w (inr a) (inr b) = ap inr (ℕ_set _ _ a b)

pub lawful_once : (m : Mesh) → IsProp (Lawful m)
lawful_once m = Prim.hlevel (props, mark_once)

pub lawful_shown : (m : Mesh) → ∥ Lawful m ∥₁ → Lawful m
lawful_shown m h = ∥∥₁_elim h (lawful_once m) (λ l. l)
