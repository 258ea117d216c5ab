-- A bench that is refined once: begin, each task by number, quads first, and finish.
use Rattle.std.specs.Prelude.{◌≡◌, ℕ, Some, None}
use Rattle.mesh.specs.Mesh.{Mesh}
use Rattle.mesh.specs.Refusals.{Verdict, fine, declined}
use Rattle.refinement.specs.Tasks.{refine}
use Rattle.chain.specs.Calls.{State, begin, refusal, holding}

pub record RefinedOnce (entry exit : State) (answer : Verdict) : Type 0 where
  -- it is refused where a begin is, and for the same cause
  pub answers : answer ≡ refusal entry begin
  -- and then the bench is as it was
  pub refused_leaves : (n p : ℕ) → answer ≡ declined n p → exit ≡ entry
  -- else the standing level is the one before, refined once, and there is no level in work
  pub refines : (m : Mesh) → answer ≡ fine → entry.standing ≡ Some m → exit ≡ holding entry (Some (refine m)) None
