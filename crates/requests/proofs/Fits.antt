-- A slip that is held closes the level in work of its bench.
use Rattle.std.proofs.Common.{◌≡◌, ℕ, Bool, true, false, not, List, [], ◌∷◌, Some, None, Option, refl, ap, ◌∙◌}
use Rattle.std.proofs.lemmas.Bool.{cond-false, eq-eqb}
use Rattle.mesh.specs.Mesh.{Mesh}
use Rattle.mesh.specs.Causes.{judge}
use Rattle.mesh.specs.Refusals.{Verdict, fine, declined}
use Rattle.refinement.specs.Tasks.{Task, quad_task, point_task}
use Rattle.chain.specs.Calls.{load, begin, quad, point, finish, withdraw, Work, State, cause, and_next, missing, opened, worked, refusal, carry, either}
use Rattle.requests.specs.Sessions.{Asked, to_load, to_begin, to_run_quad, to_run_point, to_finish, to_withdraw, Session, held_then, play, plays, unless}

abbrev pub Fits : State → Option ℕ → Type 0
Fits s None = Unit {0}
Fits s (Some m) = (m ≡ s.mark) × (missing s.standing ≡ false) × (missing s.work ≡ false)

pub settles : (s : State) (m : ℕ) → Fits s (Some m) → refusal s (withdraw m) ≡ fine
settles s m f = cond-false _ _ _ f.1 ∙ cond-false _ _ _ f.2 ∙ ap (λ b. cause 17 0 (not b) fine) (eq-eqb m s.mark f.0)

clear : (n p : ℕ) (holds : Bool) (more : Verdict) → cause n p holds more ≡ fine → (holds ≡ false) × (more ≡ fine)
clear n p true more e = let z : ⊥ = cc in absurd z
clear n p false more e = (refl, e)

-- a call that is refused, or that leaves a level in work
stays : (s u : State) (m : ℕ) (v : Verdict) → Fits u (Some m) → Fits s (Some m) → Fits (either v u s) (Some m)
stays s u m fine a b = a
stays s u m (declined n p) a b = b

spent : (s u : State) (m : ℕ) (v : Verdict) → Fits s (Some m) → Fits (either v u s) (unless v None (Some m))
spent s u m fine b = tt
spent s u m (declined n p) b = b

worked_there : (o : Option Mesh) (t : Task) (w : Option Work) → missing o ≡ false → missing w ≡ false → missing (worked o t w) ≡ false
worked_there None t w a b = b
worked_there (Some m) t None a b = b
worked_there (Some m) t (Some w) a b = refl

opened_there : (o : Option Mesh) → missing o ≡ false → missing (opened o) ≡ false
opened_there None a = a
opened_there (Some m) a = refl

-- a load is refused while a level is in work
load_stays : (s u : State) (m : ℕ) (v more : Verdict) (holds : Bool) → holds ≡ false → Fits s (Some m) → Fits (either (and_next v (cause 11 0 (not holds) more)) u s) (Some m)
load_stays s u m (declined n p) more b e f = f
load_stays s u m fine more true e f = let z : ⊥ = cc in absurd z
load_stays s u m fine more false e f = f

pub opens : (s : State) (v : Verdict) → refusal s begin ≡ v → Fits (either v (carry s begin) s) (unless v (Some s.mark) None)
opens s (declined n p) e = tt
opens s fine e =
    let there = (clear 12 0 (missing s.standing) _ (clear 11 0 (not (missing s.work)) _ e).1).0 in
    (refl, there, opened_there s.standing there)

fits_play : (s : State) (h : Option ℕ) (a : Asked) → Fits s h → Fits (play (record { bench = s; held = h }) a).bench (held_then s h a)
fits_play s None (to_load cs fs ms ss) f = tt
fits_play s (Some m) (to_load cs fs ms ss) f = load_stays s (carry s (load cs fs ms ss)) m (judge _) _ (missing s.work) f.2 f
fits_play s None to_begin f = opens s (refusal s begin) refl
fits_play s (Some m) to_begin f = f
fits_play s None (to_run_quad q) f = tt
fits_play s (Some m) (to_run_quad q) f = stays s (carry s (quad q)) m (refusal s (quad q)) (f.0, f.1, worked_there s.standing (quad_task q) s.work f.1 f.2) f
fits_play s None (to_run_point v) f = tt
fits_play s (Some m) (to_run_point v) f = stays s (carry s (point v)) m (refusal s (point v)) (f.0, f.1, worked_there s.standing (point_task v) s.work f.1 f.2) f
fits_play s None to_finish f = tt
fits_play s (Some m) to_finish f = spent s (carry s (finish m)) m (refusal s (finish m)) f
fits_play s None to_withdraw f = tt
fits_play s (Some m) to_withdraw f = spent s (carry s (withdraw m)) m (refusal s (withdraw m)) f

pub fits_plays : (t : Session) (rs : List Asked) → Fits t.bench t.held → Fits (plays t rs).bench (plays t rs).held
fits_plays t [] f = f
fits_plays t (a ∷ rs) f = fits_plays (play t a) rs (fits_play t.bench t.held a f)
