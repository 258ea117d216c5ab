-- What a bench answers of its standing level.
use Rattle.std.proofs.Common.{◌≡◌, ℕ, Some, None, Option, sym, ap, subst, arith}
use Rattle.chain.specs.Calls.{cause, missing}
use Rattle.mesh.specs.Mesh.{Mesh}
use Rattle.mesh.specs.Refusals.{Verdict, fine, declined}
use Rattle.carry.specs.Asked.{Of, asked}

pub asked_none : (o : Option Mesh) (k p : ℕ) (refused : Mesh → Verdict) → cause 12 0 (missing o) fine ≡ declined k p → declined k p ≡ asked o refused
asked_none None k p refused e = sym e
asked_none (Some m) k p refused e = absurd (let z : ◌≡◌ {A = ℕ} 0 1 = cc in omega arith)

pub asked_some : (o : Option Mesh) (m : Mesh) (refused : Mesh → Verdict) → o ≡ Some m → refused m ≡ asked o refused
asked_some o m refused e = ap (λ x. asked x refused) (sym e)

pub of_some : (o : Option Mesh) (m : Mesh) (P : Mesh → Type 0) → o ≡ Some m → P m → Of o P
of_some o m P e h = subst (λ x. Of x P) (sym e) h
