-- A slip closes the level in work that it was handed out for.
use Rattle.std.proofs.Common.{◌≡◌, ℕ, [], ◌∷◌, Some, None, sym, refl, ap, ◌∙◌, subst}
use Rattle.mesh.specs.Refusals.{Verdict, fine, declined}
use Rattle.mesh.specs.declared.number.Quad.{Quad}
use Rattle.chain.specs.Calls.{Call, begin, quad, State, refusal, carry, either, next}
use Rattle.chain.specs.Clauses.{Called}
use Rattle.requests.specs.Sessions.{to_run_quad, unless}
use Rattle.requests.proofs.Fits.{Fits, opens, fits_plays}

-- a call that is refused leaves the bench as it was
pub stays : (s t : State) (c : Call) (n p : ℕ) → Called s c t (declined n p) → t ≡ s
stays s t c n p h = h.leaves ∙ ap (λ v. either v (carry s c) s) (sym h.answers)

pub opened : (s t : State) (m : ℕ) → Called s begin t fine → m ≡ s.mark → Fits t (Some m)
opened s t m h k =
    let f : Fits (next s begin) (Some s.mark) = subst (λ v. Fits (next s begin) (unless v (Some s.mark) None)) (sym h.answers) (opens s (refusal s begin) refl) in
    subst (λ (x : State). Fits x (Some m)) (sym h.leaves) (subst (λ n. Fits (next s begin) (Some n)) (sym k) f)

pub worked : (s t : State) (m : ℕ) (q : Quad) (v : Verdict) → Called s (quad q.0) t v → Fits s (Some m) → Fits t (Some m)
worked s t m q v h f = subst (λ (x : State). Fits x (Some m)) (sym h.leaves) (fits_plays (record { bench = s; held = Some m }) (to_run_quad q.0 ∷ []) f)
